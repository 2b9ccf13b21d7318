-- What lies under the lock stays as its seats know it through the end of a warming.
use Rattle.std.proofs.Common.{◌≡◌, ℕ, ◌+◌, ◌≤◌, List, [], ◌∷◌, ◌++◌, length, length-append, append_assoc, Some, refl, sym, ap, subst, ◌∙◌, arith}
use Rattle.std.specs.Prelude.{vec_capacity}
use Rattle.std.proofs.lemmas.Option.{none-some}
use Rattle.searcher_table.specs.declared.gens.Gens.{Gens}
use Rattle.searcher_table.specs.declared.registrar.Registrar.{Registrar}
use Rattle.searcher_table.specs.declared.tokens.Published.{Published}
use Rattle.searcher_table.specs.declared.tokens.Published.TheVariants.{Registered as AsRegistered, Superseded as AsSuperseded}
use Rattle.registry_machine.specs.declared.entry.Entry.{Entry}
use Rattle.searcher_table.specs.Views.{StartsWith, HasNoPlaceSince}
use Rattle.searcher_table.specs.Warming.{warming_in}
use Rattle.searcher_table.specs.Words.{limits}
use Rattle.searcher_table.specs.Registrars.{plan_of, seen_of, HasLooked}
use Rattle.searcher_table.proofs.Quiet.{quiet_since}
use Rattle.registry_core.specs.Finishes.{generations}
use Rattle.registry_core.proofs.Journals.{journal_since, updates_since}
use Rattle.registry_core.proofs.Shows.{right_since}
use Rattle.searcher_table.specs.Openings.{warming_of}
use Rattle.searcher_table.specs.Publishing.{HasPublished}
use Rattle.searcher_table.proofs.Places.{same_places}
use Rattle.registry_core.specs.declared.change.Change.{Change}
use Rattle.registry_core.specs.declared.fresh.Fresh.{Fresh}
use Rattle.registry_core.specs.declared.journal.Placed.{Placed}
use Rattle.registry_core.specs.declared.locked.Locked.{Locked}
use Rattle.registry_core.specs.declared.writer.Writer as writer
use Rattle.registry_core.specs.Journal.{told, entry_told, by_nobody}
use Rattle.registry_core.specs.Keeping.{IsKept}
use Rattle.registry_core.specs.Freshness.{generation_of}
use Rattle.registry_core.specs.Finishing.{IsEnd, end_of, place_of, finish_of}
use Rattle.registry_core.specs.Publications.{published_told, finished_by}
use Rattle.registry_core.proofs.Next.{HasNext, warming_more}
use Rattle.registry_core.proofs.Endings.{ends_since, allowed_next, warming_before, one_gone, ends_more}
use Rattle.registry_core.proofs.Kept.{enters}

module _ {D U S X L : Type 0} (list : List L) (r s : Registrar D (Change U) S X L) (f : Fresh D U S X L) where
  pub ended_next : (p : Published) → HasPublished list r s f.opening p → HasNext r s (end_of list f (finished_by p))
  ended_next (AsRegistered at old) x = record { registrar = x.ended.registrar; legal = x.ended.legal; before = x.ended.before; since = x.ended.seen; after = x.ended.entry }
  ended_next (AsSuperseded by at) x = record { registrar = x.ended.registrar; legal = x.ended.legal; before = x.ended.before; since = x.ended.seen; after = x.ended.entry }

  -- the entry stands past what the registrar had seen
  pub is_end : (p : Published) → HasPublished list r s f.opening p → IsEnd (end_of list f (finished_by p)) (place_of (finished_by p)) (seen_of r) (seen_of s)
  is_end (AsRegistered at old) x = record {
    before = x.ended.before;
    past = (x.ended.seen.rest, x.ended.seen.grown);
    place = same_places x.ended.before (seen_of r) x.ended.seen ∙ sym x.place;
    stands = x.ended.entry;
  }
  is_end (AsSuperseded by at) x = record {
    before = x.ended.before;
    past = (x.ended.seen.rest, x.ended.seen.grown);
    place = same_places x.ended.before (seen_of r) x.ended.seen ∙ sym x.place;
    stands = x.ended.entry;
  }

  -- the generation was warming, and is not any more
  pub gone : (p : Published) → HasPublished list r s f.opening p → length (warming_of s) + 1 ≤ length (warming_of r)
  gone (AsRegistered at old) x =
      let p = AsRegistered at old in
      let h = ended_next p x in
      let e = end_of list f (finished_by p) in
      let n = ap length (warming_more r s e h) in
      let o = one_gone (generation_of f) (warming_of r) (warming_before r s e h (generation_of f) (allowed_next r s e h).warming) in
      omega arith
  gone (AsSuperseded by at) x =
      let p = AsSuperseded by at in
      let h = ended_next p x in
      let e = end_of list f (finished_by p) in
      let n = ap length (warming_more r s e h) in
      let o = one_gone (generation_of f) (warming_of r) (warming_before r s e h (generation_of f) (allowed_next r s e h).warming) in
      omega arith

module _ {D U W S X L : Type 0} (w : writer.Ghosts W D U S X L) (list : List L) (l m : Locked D U W S X L) (f : Fresh D U S X L) (seat : ℕ) (q : Placed U Gens) (k : IsKept w l) (items : m.journal.items ≡ l.journal.items ++ q ∷ [])
    (finishes : m.finishes.items ≡ l.finishes.items ++ record { seat = seat; finish = finish_of f } ∷ []) (writer : m.writer ≡ l.writer) (callers : m.callers ≡ l.callers) (accepted : m.accepted ≡ l.accepted) (most : m.max_updates ≡ l.max_updates)
    (warming : m.warming ≡ length (warming_of m.registrar)) (room : vec_capacity m.journal ≡ vec_capacity l.journal) (space : vec_capacity m.finishes ≡ vec_capacity l.finishes) where
  -- a warming has ended, and the journal tells it
  pub finishes_one : (p : Published) → HasPublished list l.registrar m.registrar f.opening p → entry_told q ≡ by_nobody (published_told (generation_of f) p) → IsKept w m
  finishes_one (AsRegistered at old) x tells =
      let p = AsRegistered at old in
      let e = end_of list f (finished_by p) in
      let h = ended_next list l.registrar m.registrar f p x in
      let less = gone list l.registrar m.registrar f p x in
      let a = k.spare.room in
      let b = k.ended.space in
      let c = k.spare.warming in
      let n = ap length finishes in
      let j = length-append l.finishes.items (record { seat = seat; finish = finish_of f } ∷ []) in
      enters w l m e q k h items (ap (λ o. Some o) (sym tells)) refl (λ docs is. absurd (none-some docs is)) writer callers accepted most (warming ∙ ap length (warming_more l.registrar m.registrar e h)) (omega arith)
      (ends_more l m e k.ended h (omega arith) (record { seat = seat; finish = finish_of f }) refl finishes)
  finishes_one (AsSuperseded by at) x tells =
      let p = AsSuperseded by at in
      let e = end_of list f (finished_by p) in
      let h = ended_next list l.registrar m.registrar f p x in
      let less = gone list l.registrar m.registrar f p x in
      let a = k.spare.room in
      let b = k.ended.space in
      let c = k.spare.warming in
      let n = ap length finishes in
      let j = length-append l.finishes.items (record { seat = seat; finish = finish_of f } ∷ []) in
      enters w l m e q k h items (ap (λ o. Some o) (sym tells)) refl (λ docs is. absurd (none-some docs is)) writer callers accepted most (warming ∙ ap length (warming_more l.registrar m.registrar e h)) (omega arith)
      (ends_more l m e k.ended h (omega arith) (record { seat = seat; finish = finish_of f }) refl finishes)

module _ {D U W S X L : Type 0} (w : writer.Ghosts W D U S X L) where
  -- the registrar has looked
  pub looks : (l m : Locked D U W S X L) → IsKept w l → HasLooked l.registrar m.registrar → m.journal ≡ l.journal → m.writer ≡ l.writer → m.callers ≡ l.callers → m.warming ≡ l.warming → m.accepted ≡ l.accepted → m.max_updates ≡ l.max_updates → m.finishes ≡ l.finishes → IsKept w m
  looks l m k h journal writer callers warming accepted most finishes = record {
    legal = h.legal;
    journal_is = ap (λ j. told j.items) journal ∙ k.journal_is ∙ sym (journal_since (seen_of m.registrar) (seen_of l.registrar) h.seen);
    written = ap w.taken writer ∙ k.written ∙ sym (updates_since (seen_of m.registrar) (seen_of l.registrar) h.seen);
    counted = accepted ∙ k.counted ∙ ap (λ v. length (w.taken v)) (sym writer);
    few = let f = k.few in omega arith;
    set = record {
      setting = ap w.setting writer ∙ k.set.setting ∙ ap (λ p. p.setting.value) (sym h.registrar.plan);
      callers = callers ∙ k.set.callers ∙ ap (λ p. p.callers) (sym h.registrar.plan);
    };
    spare = record {
      warming = warming ∙ k.spare.warming ∙ ap length (sym (ap (λ p. warming_in p (seen_of m.registrar)) h.registrar.plan ∙ (quiet_since (limits (plan_of l.registrar)) (seen_of m.registrar) (seen_of l.registrar) h.seen).warming));
      room = let r = k.spare.room in let i = ap (λ j. length j.items) journal in let c = ap (λ j. vec_capacity j) journal in omega arith;
    };
    ended = record {
      are = ap (λ f. generations f.items) finishes ∙ k.ended.are ∙ sym (ends_since (seen_of m.registrar) (seen_of l.registrar) h.seen);
      space = let r = k.ended.space in let i = ap (λ f. length f.items) finishes in let c = ap (λ f. vec_capacity f) finishes in omega arith;
    };
    shown = right_since w.shows (seen_of m.registrar) (seen_of l.registrar) h.seen k.shown;
  }

module _ {U X L : Type 0} where
  -- the entry stands past what was seen earlier
  pub end_past : {e : Entry (Change U) X L} {at : ℕ} {seen log : List (Entry (Change U) X L)} (first now : List (Entry (Change U) X L)) → IsEnd e at seen log → StartsWith seen first → now ≡ log → IsEnd e at first now
  end_past {e} first now x past same = record {
    before = x.before;
    past = (past.0 ++ x.past.0, x.past.1 ∙ ap (λ l. l ++ x.past.0) past.1 ∙ append_assoc first past.0 x.past.0);
    place = x.place;
    stands = subst (λ l. HasNoPlaceSince l (x.before ++ e ∷ [])) (sym same) x.stands;
  }
