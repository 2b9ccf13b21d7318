-- What the service of a key's request calls: the result cache alone.
use Rattle.std.proofs.Common.{◌≡◌, ℕ, inl, inr, true, false, List, [], ◌∷◌, map, refl, sym, subst, ◌∙◌}
use Rattle.std.specs.Prelude.{Ok, Err, IsErr}
use Rattle.std.specs.Arc.{arc_value}
use Rattle.doc_model.specs.Document.{Document}
use Rattle.query_tree.specs.declared.query.Query.{Query}
use Rattle.result_cache.specs.declared.key.ResultKey.{ResultKey}
use Rattle.search_model.specs.declared.notes.Note.{Note}
use Rattle.search_model.specs.declared.notes.Note.TheVariants.{Hit, Joined, Computed, Bypassed}
use Rattle.search_model.specs.Noting.{AreNotes, AreNotesAfter}
use Rattle.segment_postings.specs.Numbered.{Numbered}
use Rattle.view_cells.specs.Seats.{own_list}
use Rattle.searcher_core.specs.Noting.{IsNoted, may_cache}
use Rattle.searcher_core.specs.RequestCalls.{DocumentActs, DocumentsCalls, FilterActs, FilterCall, FiltersAfter, FiltersCalls, PageCalls, RefusedFilters, RefusedResult, RefusedUnder, ResultActs}
use Rattle.searcher_core.specs.Serving.{HasRefused, HasServed}
use Rattle.searcher_core.specs.Shows.{Shows}
use Rattle.searcher_core.specs.declared.seats.Seats.{Seats}
use Rattle.searcher_core.specs.declared.served.Served.{Served}
use Rattle.searcher_core.specs.declared.sizes.CacheSizes.{CacheSizes}
use Rattle.autowarm.specs.Steps.{Done, ResultStep}
use Rattle.autowarm.specs.WarmRequests.{past_caches, request_of}

-- ---- filters that go past their cache

calls_same : (v : Numbered) (qs : List Query) (ns : List Note) (old new : FilterActs)
    → AreNotes (may_cache (map past_caches qs)) ns → FiltersCalls v (map past_caches qs) ns old new → new ≡ old
calls_same v [] [] old new are so = so
calls_same v [] (n ∷ ns) old new are so = absurd so
calls_same v (q ∷ qs) [] old new are so = absurd so
calls_same v (q ∷ qs) (n ∷ ns) old new are so =
    let one : so.0 ≡ old = subst (λ m. FilterCall v (past_caches q) m old so.0) are.0 so.1 in
    calls_same v qs ns so.0 new are.1 so.2 ∙ one

refused_same : (v : Numbered) (qs : List Query) (old new : FilterActs) → RefusedFilters v (map past_caches qs) old new → new ≡ old
refused_same v [] old new is = is
refused_same v (q ∷ qs) old new (inl same) = same
refused_same v (q ∷ qs) old new (inr (inl looked)) = (let never : false ≡ true = looked.0 in cc)
refused_same v (q ∷ qs) old new (inr (inr had)) =
    let one : had.1.0 ≡ old = subst (λ m. FilterCall v (past_caches q) m old had.1.0) had.1.1 had.1.2 in
    refused_same v qs had.1.0 new had.1.3 ∙ one

after_same : (v : Numbered) (key : ResultKey) (n : Note) (ns : List Note) (old new : FilterActs)
    → AreNotesAfter n (may_cache (map past_caches key.filters)) ns → FiltersAfter v (request_of key) n ns old new → new ≡ old
after_same v key Hit ns old new are is = is
after_same v key Joined ns old new are is = is
after_same v key Computed ns old new are is = calls_same v key.filters ns old new are is
after_same v key Bypassed ns old new are is = calls_same v key.filters ns old new are is

-- nothing at all is called, wherever their list stands
no_calls : (v : Numbered) (qs : List Query) (ns : List Note) (old : FilterActs)
    → AreNotes (may_cache (map past_caches qs)) ns → FiltersCalls v (map past_caches qs) ns old old
no_calls v [] [] old are = refl
no_calls v [] (n ∷ ns) old are = absurd are
no_calls v (q ∷ qs) [] old are = absurd are
no_calls v (q ∷ qs) (n ∷ ns) old are =
    (old, subst (λ m. FilterCall v (past_caches q) m old old) (sym are.0) refl, no_calls v qs ns old are.1)

none_refused : (v : Numbered) (qs : List Query) (old : FilterActs) → RefusedFilters v (map past_caches qs) old old
none_refused v [] old = refl
none_refused v (q ∷ qs) old = inl refl

-- ---- a page of no rows

page_same : (v : Numbered) (ds : List Document) (hits : ℕ) (old new : DocumentActs) → ds ≡ [] → PageCalls v ds hits old new → new ≡ old
page_same v ds hits old new none so = in_none so.0 (subst (λ l. DocumentsCalls v l so.0 old new) none so.2)
  where
    in_none : (bs : List _) → DocumentsCalls v [] bs old new → new ≡ old
    in_none [] same = same
    in_none (b ∷ bs) never = absurd never

-- ---- a key's request

module _ (w : Shows) (key : ResultKey) (s : Served) (old new : Seats) (so : HasServed w (request_of key) s old new) where
  pub served_step : IsNoted (request_of key) s → ResultStep w key (Ok s.result) (own_list old.results) (own_list new.results)
  served_step noted = (noted.result, so.result)

  pub served_filters : IsNoted (request_of key) s → own_list new.filters ≡ own_list old.filters
  served_filters noted = after_same w.view key s.result s.filters (own_list old.filters) (own_list new.filters) noted.filters so.filters

  pub served_documents : map arc_value s.docs.items ≡ [] → own_list new.documents ≡ own_list old.documents
  served_documents none = page_same w.view (map arc_value s.docs.items) s.doc_hits (own_list old.documents) (own_list new.documents) none so.documents

module _ (v : Numbered) (sizes : CacheSizes) (key : ResultKey) (ro rn : ResultActs) (fo fn : FilterActs) where
  under_same : (k : ResultKey) → RefusedUnder v sizes (request_of key) k ro rn fo fn → fn ≡ fo
  under_same k (inl asked) = asked.1
  under_same k (inr (inl gave_up)) = refused_same v key.filters fo fn gave_up.1
  under_same k (inr (inr ended)) = calls_same v key.filters ended.1.0 fo fn ended.1.1 ended.1.2

  result_same : RefusedResult v sizes (request_of key) ro rn fo fn → fn ≡ fo
  result_same (inl none) = none.1
  result_same (inr (inl past)) = (let never : true ≡ false = past.0 in cc)
  result_same (inr (inr looked)) = under_same looked.0 looked.2

  under_alone : (k : ResultKey) → RefusedUnder v sizes (request_of key) k ro rn fo fn → RefusedUnder v sizes (request_of key) k ro rn [] []
  under_alone k (inl asked) = inl (asked.0, refl)
  under_alone k (inr (inl gave_up)) = inr (inl (gave_up.0, none_refused v key.filters []))
  under_alone k (inr (inr ended)) = inr (inr (ended.0, (ended.1.0, ended.1.1, no_calls v key.filters ended.1.0 [] ended.1.1)))

  result_alone : RefusedResult v sizes (request_of key) ro rn fo fn → RefusedResult v sizes (request_of key) ro rn [] []
  result_alone (inl none) = inl (none.0, refl)
  result_alone (inr (inl past)) = (let never : true ≡ false = past.0 in cc)
  result_alone (inr (inr looked)) = inr (inr (looked.0, looked.1, under_alone looked.0 looked.2))

module _ (w : Shows) (key : ResultKey) (old new : Seats) where
  -- nothing was called
  pub idle_step : (d : Done) (acts : ResultActs) → IsErr d → ResultStep w key d acts acts
  idle_step (Ok n) acts is = cc
  idle_step (Err e) acts is = inl (inl (refl, refl))

  pub refused_step : (d : Done) → IsErr d → HasRefused w (request_of key) old new → ResultStep w key d (own_list old.results) (own_list new.results)
  refused_step (Ok n) is so = cc
  refused_step (Err e) is (inl none) =
      inl (result_alone w.view w.sizes key (own_list old.results) (own_list new.results) (own_list old.filters) (own_list new.filters) none.result)
  refused_step (Err e) is (inr had) = inr (had.note, had.note_is, had.result)

  pub refused_filters : HasRefused w (request_of key) old new → own_list new.filters ≡ own_list old.filters
  refused_filters (inl none) = result_same w.view w.sizes key (own_list old.results) (own_list new.results) (own_list old.filters) (own_list new.filters) none.result
  refused_filters (inr had) = after_same w.view key had.note had.notes (own_list old.filters) (own_list new.filters) had.notes_are had.filters

  pub refused_documents : HasRefused w (request_of key) old new → own_list new.documents ≡ own_list old.documents
  refused_documents (inl none) = none.documents
  refused_documents (inr had) = had.documents
