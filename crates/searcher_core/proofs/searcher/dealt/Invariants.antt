use Rattle.std.proofs.Common.{◌≡◌, ◌++◌, length, map}
use Rattle.std.specs.Arc.{arc_value}
use Rattle.std.specs.List.{AllByRecursion}
use Rattle.std.specs.Vec.Iter.{into_iter_items, into_iter_len}
use Rattle.view_cells.specs.Seats.{IsIdle}
use Rattle.searcher_core.specs.Resting.{IsAtRest}
use Rattle.searcher_core.proofs.searcher.dealt.Given as goal

-- the doors so far have the seats before those that are left
abbrev pub invariant-loop-filters : goal.invariant-loop-filters
invariant-loop-filters l = record {
  searcher : AllByRecursion (λ d. arc_value d.searcher ≡ arc_value l.searcher) l.doors.items;
  filters : map (λ d. d.seats.filters) l.doors.items ++ into_iter_items l.all_filters ≡ l.fn.filters.items;
  results : map (λ d. d.seats.results) l.doors.items ++ into_iter_items l.all_results ≡ l.fn.results.items;
  documents : map (λ d. d.seats.documents) l.doors.items ++ into_iter_items l.all_documents ≡ l.fn.documents.items;
  filters_len : into_iter_len l.all_filters ≡ length (into_iter_items l.all_filters);
  results_len : into_iter_len l.all_results ≡ length (into_iter_items l.all_results);
  documents_len : into_iter_len l.all_documents ≡ length (into_iter_items l.all_documents);
  same_results : into_iter_len l.all_results ≡ into_iter_len l.all_filters;
  same_documents : into_iter_len l.all_documents ≡ into_iter_len l.all_filters;
  filters_rest : AllByRecursion IsAtRest (into_iter_items l.all_filters);
  results_rest : AllByRecursion IsAtRest (into_iter_items l.all_results);
  documents_rest : AllByRecursion IsIdle (into_iter_items l.all_documents);
}

abbrev pub decreases-loop-filters : goal.decreases-loop-filters
decreases-loop-filters l = into_iter_len l.all_filters
