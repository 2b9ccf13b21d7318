-- What lies under the lock stays as its seats know it.
use Rattle.std.proofs.Common.{◌≡◌, ℕ, ◌+◌, ◌≤◌, [], ◌∷◌, ◌++◌, length, length-append, filter_map, Option, Some, sym, ap, subst, ◌∙◌, arith}
use Rattle.std.specs.Prelude.{vec_capacity}
use Rattle.std.proofs.lemmas.List.{map-append, length-map}
use Rattle.registry_machine.specs.declared.entry.Entry.{Entry}
use Rattle.registry_machine.specs.Entries.{ends}
use Rattle.registry_machine.specs.Legal.{Legal}
use Rattle.registry_machine.specs.Machine.{warming_after}
use Rattle.searcher_table.specs.declared.gens.Gens.{Gens}
use Rattle.searcher_table.specs.declared.registrar.Registrar.{Registrar}
use Rattle.searcher_table.specs.declared.shown.Shown.{Ghosts}
use Rattle.searcher_table.specs.declared.tokens.Announced.{Announced}
use Rattle.searcher_table.specs.Warming.{warming_in}
use Rattle.searcher_table.specs.Words.{limits}
use Rattle.searcher_table.specs.Registrars.{plan_of, seen_of, places_of, IsUnchanged, HasEntry}
use Rattle.searcher_table.specs.Openings.{warming_of}
use Rattle.searcher_table.proofs.Places.{same_places}
use Rattle.registry_core.specs.declared.change.Change.{Change}
use Rattle.registry_core.specs.declared.journal.Placed.{Placed}
use Rattle.registry_core.specs.declared.locked.Locked.{Locked}
use Rattle.registry_core.specs.declared.locked.Terms.{Terms}
use Rattle.registry_core.specs.declared.writer.Writer as writer
use Rattle.registry_core.specs.Finishes.{generations}
use Rattle.registry_core.specs.Journal.{placed_of, journal_of, update_of, updates_of, with_update, docs_of, ShowRight, entry_told, told}
use Rattle.registry_core.specs.Keeping.{HasEnds, IsAhead, IsKept, FitsTerms}
use Rattle.registry_core.specs.Entering.{IsSameLocked, HasEntryAt}
use Rattle.registry_core.proofs.Journals.{updates_since, places_told}
use Rattle.registry_core.proofs.Next.{HasNext, journal_more, updates_more, warming_more, right_more}

module _ {D U W S X L : Type 0} (w : writer.Ghosts W D U S X L) where
  -- as many entries have a place as the journal tells
  pub places_kept : {more : Option U} (l : Locked D U W S X L) → IsAhead w more l → places_of l.registrar ≡ length l.journal.items
  places_kept l k = sym (places_told (seen_of l.registrar)) ∙ ap length (sym k.journal_is) ∙ length-map l.journal.items entry_told

  -- nothing is written, and the registrar knows what it knew
  pub stays : (l m : Locked D U W S X L) → IsKept w l → IsUnchanged l.registrar m.registrar → m.journal ≡ l.journal → m.writer ≡ l.writer → m.callers ≡ l.callers → m.warming ≡ l.warming → m.accepted ≡ l.accepted → m.max_updates ≡ l.max_updates → m.finishes ≡ l.finishes → IsKept w m
  stays l m k u journal writer callers warming accepted most finishes = record {
    legal = subst (λ p. Legal (limits p) (seen_of m.registrar)) (sym u.registrar.plan) (subst (λ s. Legal (limits (plan_of l.registrar)) s) (sym u.seen) k.legal);
    journal_is = ap (λ j. told j.items) journal ∙ k.journal_is ∙ ap journal_of (sym u.seen);
    written = ap w.taken writer ∙ k.written ∙ ap updates_of (sym u.seen);
    counted = accepted ∙ k.counted ∙ ap (λ v. length (w.taken v)) (sym writer);
    few = let f = k.few in omega arith;
    set = record {
      setting = ap w.setting writer ∙ k.set.setting ∙ ap (λ p. p.setting.value) (sym u.registrar.plan);
      callers = callers ∙ k.set.callers ∙ ap (λ p. p.callers) (sym u.registrar.plan);
    };
    spare = record {
      warming = warming ∙ k.spare.warming ∙ ap length (sym (ap (λ p. warming_in p (seen_of m.registrar)) u.registrar.plan ∙ ap (warming_in (plan_of l.registrar)) u.seen));
      room = let r = k.spare.room in let i = ap (λ j. length j.items) journal in let c = ap (λ j. vec_capacity j) journal in omega arith;
    };
    ended = record {
      are = ap (λ f. generations f.items) finishes ∙ k.ended.are ∙ ap (filter_map ends) (sym u.seen);
      space = let r = k.ended.space in let i = ap (λ f. length f.items) finishes in let c = ap (λ f. vec_capacity f) finishes in omega arith;
    };
    shown = subst (ShowRight w.shows) (sym u.seen) k.shown;
  }

  -- one entry more, which the journal tells
  pub enters : {more : Option U} (l m : Locked D U W S X L) (e : Entry (Change U) X L) (p : Placed U Gens) → IsAhead w more l → HasNext l.registrar m.registrar e → m.journal.items ≡ l.journal.items ++ p ∷ [] → placed_of e ≡ Some (entry_told p) → update_of e ≡ more
      → ((docs : X) → docs_of e ≡ Some docs → w.shows (updates_of (seen_of l.registrar)) docs) → m.writer ≡ l.writer → m.callers ≡ l.callers → m.accepted ≡ l.accepted → m.max_updates ≡ l.max_updates → m.warming ≡ length (warming_after (warming_of l.registrar) e)
      → length l.journal.items + 1 + m.warming ≤ vec_capacity m.journal → HasEnds m → IsKept w m
  enters l m e p k h items tells update right writer callers accepted most warming room ended =
      let f = k.few in
      let n = ap length items in
      let j = length-append l.journal.items (p ∷ []) in record {
        legal = h.legal;
        journal_is = ap told items ∙ map-append entry_told l.journal.items (p ∷ []) ∙ ap (λ js. js ++ entry_told p ∷ []) k.journal_is ∙ sym (journal_more l.registrar m.registrar e h (entry_told p) tells);
        written = ap w.taken writer ∙ k.written ∙ ap (λ o. with_update (updates_of (seen_of l.registrar)) o) (sym update) ∙ sym (updates_more l.registrar m.registrar e h);
        counted = accepted ∙ k.counted ∙ ap (λ v. length (w.taken v)) (sym writer);
        few = omega arith;
        set = record {
          setting = ap w.setting writer ∙ k.set.setting ∙ ap (λ q. q.setting.value) (sym h.registrar.plan);
          callers = callers ∙ k.set.callers ∙ ap (λ q. q.callers) (sym h.registrar.plan);
        };
        spare = record { warming = warming ∙ ap length (sym (warming_more l.registrar m.registrar e h)); room = omega arith };
        ended = ended;
        shown = right_more l.registrar m.registrar e h w.shows right k.shown;
      }

  -- what fitted fits
  pub fits_on : (terms : Terms D U S X L) (l m : Locked D U W S X L) → FitsTerms w terms l → IsSameLocked l m → IsKept w m → FitsTerms w terms m
  fits_on terms l m f same k = record {
    named = record { table = same.registrar.table ∙ f.named.table; plan = same.registrar.plan ∙ f.named.plan; most = same.most ∙ f.named.most };
    kept = k;
  }

module _ {D U S X L : Type 0} {shows : Ghosts D S X L} (r s : Registrar D (Change U) S X L) (a : Announced D (Change U) S X L shows) where
  pub has_place : (e : Entry (Change U) X L) (at : ℕ) → HasEntry r s a e → at ≡ places_of r → HasEntryAt a e at (updates_of (seen_of r)) (seen_of s)
  has_place e at h is = record {
    before = h.before;
    covers = h.covers;
    updates = updates_since h.before (seen_of r) h.seen;
    place = same_places h.before (seen_of r) h.seen ∙ sym is;
    entry = h.entry;
  }
