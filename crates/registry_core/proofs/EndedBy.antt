-- What is kept of each caller's finishes, with one more.
use Rattle.std.proofs.Common.{◌≡◌, ◌≢◌, ℕ, cond, List, [], ◌∷◌, ◌++◌, map, filter, append_assoc, append-nil, ap, subst, ◌∙◌, eq-eqb, ne_eqb, None}
use Rattle.std.proofs.lemmas.List.{map-append}
use Rattle.std.proofs.lemmas.List.Elements.{filter-append}
use Rattle.std.specs.Prelude.{◌==◌}
use Rattle.registry_machine.specs.declared.entry.Entry.{Entry}
use Rattle.searcher_table.specs.declared.shown.Shown.{Ghosts}
use Rattle.searcher_table.specs.declared.tokens.Sighting.{Sighting}
use Rattle.searcher_table.specs.Views.{StartsWith}
use Rattle.registry_machine.specs.Callers.{Prolongs}
use Rattle.searcher_table.specs.declared.pass.Pass.{Pass}
use Rattle.searcher_table.specs.Passes.{announced_of, sighted, HasMet, IsSightingOf, IsUnchanged}
use Rattle.view_cells.specs.Seats.{own_list, IsSameSeat}
use Rattle.registry_core.specs.declared.caller.Caller.{Caller}
use Rattle.registry_core.specs.declared.change.Change.{Change}
use Rattle.registry_core.specs.declared.ended.Ended.{Ended}
use Rattle.registry_core.specs.declared.ended.Finish.{Finish}
use Rattle.registry_core.specs.declared.finish.Finished.{Finished}
use Rattle.registry_core.specs.declared.fresh.Fresh.{Fresh}
use Rattle.registry_core.specs.Callers.{seen_of}
use Rattle.registry_core.specs.Finishes.{finishes_of}
use Rattle.registry_core.specs.Finishing.{IsEnd, HasFinished, end_of, place_of, finish_of}
use Rattle.registry_core.proofs.Changing.{meets_none, same_on}

one_more : (n : ℕ) (es : List Ended) (e : Ended) → finishes_of n (es ++ e ∷ []) ≡ finishes_of n es ++ finishes_of n (e ∷ [])
one_more n es e =
    ap (map (λ (x : Ended). x.finish)) (filter-append (λ (x : Ended). x.seat == n) es (e ∷ []))
    ∙ map-append (λ (x : Ended). x.finish) (filter (λ (x : Ended). x.seat == n) es) (filter (λ (x : Ended). x.seat == n) (e ∷ []))

-- its own
pub own_more : (n seat : ℕ) (es : List Ended) (f : Finish) → seat ≡ n → finishes_of n (es ++ record { seat = seat; finish = f } ∷ []) ≡ finishes_of n es ++ f ∷ []
own_more n seat es f is =
    let e : Ended = record { seat = seat; finish = f } in
    one_more n es e ∙ ap (λ b. finishes_of n es ++ map (λ (x : Ended). x.finish) (cond b (e ∷ []) [])) (eq-eqb seat n is)

-- another's
pub others_stay : (n seat : ℕ) (es : List Ended) (f : Finish) → seat ≢ n → finishes_of n (es ++ record { seat = seat; finish = f } ∷ []) ≡ finishes_of n es
others_stay n seat es f other =
    let e : Ended = record { seat = seat; finish = f } in
    one_more n es e ∙ ap (λ b. finishes_of n es ++ map (λ (x : Ended). x.finish) (cond b (e ∷ []) [])) (ne_eqb seat n other) ∙ append-nil (finishes_of n es)

module _ {D U W S X L : Type 0} {shows : Ghosts D S X L} (deeds : D → List L) (s t : Caller D U W S X L) (p : Pass D (Change U) S X L) (sent note : Sighting D (Change U) S X L shows) (f : Fresh D U S X L) (r : Finished) where
  -- the caller's part of an end: it tells what it has seen, and sees what the registrar has seen then
  pub finished : IsSameSeat s.lock t.lock → announced_of s.pass ≡ None → IsUnchanged s.pass p → IsSightingOf p sent → IsEnd (end_of (deeds f.own) f r) (place_of r) (sighted sent) (sighted note) → HasMet p t.pass note
      → own_list t.lock ≡ own_list s.lock ++ finish_of f ∷ [] → HasFinished deeds s t f r
  finished seat none told is ended met own =
      let behind = ended.stands in
      let e : Entry (Change U) X L = end_of (deeds f.own) f r in
      record {
        prolonged = record {
          caller = record { pass = same_on told.pass met.looked.more.pass; seat = seat };
          sound = met.looked.more.sound;
          prolongs = subst (λ (x : ℕ × List (Entry (Change U) X L)). Prolongs x.0 x.1 (seen_of t) []) (λ i. (told.pass.caller i, told.seen i)) (meets_none p t.pass note (told.announced ∙ none) met).0;
        };
        before = ended.before;
        past = subst (λ l. StartsWith ended.before l) (is.seen ∙ told.seen) ended.past;
        place = ended.place;
        stands = (behind.rest ++ met.covers.0, met.covers.1 ∙ ap (λ l. l ++ met.covers.0) behind.grown ∙ append_assoc (ended.before ++ e ∷ []) behind.rest met.covers.0);
        finishes = own;
      }
