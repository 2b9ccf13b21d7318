-- What the registrar has seen is told by one entry with a place more.
use Rattle.std.proofs.Common.{◌≡◌, ℕ, List, [], ◌∷◌, ◌++◌, Some, sym, ap, subst, ◌∙◌}
use Rattle.registry_machine.specs.declared.entry.Entry.{Entry}
use Rattle.registry_machine.specs.Machine.{warming_after}
use Rattle.searcher_table.specs.declared.registrar.Registrar.{Registrar}
use Rattle.searcher_table.specs.declared.shown.Shown.{Ghosts}
use Rattle.searcher_table.specs.declared.tokens.Announced.{Announced}
use Rattle.searcher_table.specs.Views.{HasNoPlaceSince}
use Rattle.searcher_table.specs.Warming.{warming_in}
use Rattle.searcher_table.specs.Words.{limits}
use Rattle.searcher_table.specs.Registrars.{plan_of, seen_of, IsSameRegistrar, IsSound, HasEntry}
use Rattle.searcher_table.specs.Openings.{warming_of}
use Rattle.searcher_table.proofs.Quiet.{quiet_here, quiet_since, state_next}
use Rattle.registry_core.specs.declared.change.Change.{Change}
use Rattle.registry_core.specs.declared.journal.Placed.{Placed}
use Rattle.registry_core.specs.Journal.{placed_of, journal_of, update_of, updates_of, with_update, docs_of, ShowRight}
use Rattle.registry_core.proofs.Journals.{journal_since, updates_since, journal_next, updates_next}
use Rattle.registry_core.proofs.Shows.{right_since, right_next}

module _ {D U S X L : Type 0} where
  -- this entry stands behind what the registrar had seen, and beside it only entries without a place are new
  pub record HasNext (r s : Registrar D (Change U) S X L) (e : Entry (Change U) X L) : Type 0 where
    pub registrar : IsSameRegistrar r s
    pub legal : IsSound s
    pub before : List (Entry (Change U) X L)
    pub since : HasNoPlaceSince before (seen_of r)
    pub after : HasNoPlaceSince (seen_of s) (before ++ e ∷ [])

  pub next_of : {shows : Ghosts D S X L} (r s : Registrar D (Change U) S X L) (a : Announced D (Change U) S X L shows) (e : Entry (Change U) X L) → HasEntry r s a e → HasNext r s e
  next_of r s a e h = record {
    registrar = h.registrar;
    legal = h.legal;
    before = h.before;
    since = h.seen;
    after = subst (λ log. HasNoPlaceSince (seen_of s) log) h.entry (quiet_here (seen_of s));
  }

  module _ (r s : Registrar D (Change U) S X L) (e : Entry (Change U) X L) (h : HasNext r s e) where
    pub journal_more : (p : Placed U (List ℕ)) → placed_of e ≡ Some p → journal_of (seen_of s) ≡ journal_of (seen_of r) ++ p ∷ []
    journal_more p is = journal_since (seen_of s) (h.before ++ e ∷ []) h.after ∙ journal_next h.before e p is ∙ ap (λ j. j ++ p ∷ []) (journal_since h.before (seen_of r) h.since)

    pub updates_more : updates_of (seen_of s) ≡ with_update (updates_of (seen_of r)) (update_of e)
    updates_more = updates_since (seen_of s) (h.before ++ e ∷ []) h.after ∙ updates_next h.before e ∙ ap (λ us. with_update us (update_of e)) (updates_since h.before (seen_of r) h.since)

    pub warming_more : warming_of s ≡ warming_after (warming_of r) e
    warming_more =
        ap (λ p. warming_in p (seen_of s)) h.registrar.plan ∙ (quiet_since (limits (plan_of r)) (seen_of s) (h.before ++ e ∷ []) h.after).warming ∙ ap (λ t. t.warming) (state_next (limits (plan_of r)) h.before e)
        ∙ ap (λ ws. warming_after ws e) (quiet_since (limits (plan_of r)) h.before (seen_of r) h.since).warming

    pub right_more : (Right : List U → X → Type 0) → ((docs : X) → docs_of e ≡ Some docs → Right (updates_of (seen_of r)) docs) → ShowRight Right (seen_of r) → ShowRight Right (seen_of s)
    right_more Right last right =
        right_since Right (seen_of s) (h.before ++ e ∷ []) h.after
        (right_next Right h.before e (λ docs is. subst (λ us. Right us docs) (sym (updates_since h.before (seen_of r) h.since)) (last docs is)) (right_since Right h.before (seen_of r) h.since right))
