use Rattle.std.proofs.Common.{◌≡◌, map, take, None}
use Rattle.std.specs.Arc.{arc_value}
use Rattle.query_eval.specs.Found.{answer}
use Rattle.query_eval.specs.Kept.{Kept}
use Rattle.search_model.specs.Noting.{AreNotes}
use Rattle.searcher_core.specs.Evaluated.{AskInTurn, computed}
use Rattle.view_cells.specs.Seats.{own_list, view_of}
use Rattle.shared_cells.specs.Seated.{IsBack, owned_key}
use Rattle.searcher_core.specs.RequestCalls.{FiltersCalls}
use Rattle.searcher_core.specs.Noting.{may_cache}
use Rattle.searcher_core.specs.Searches.{cached, queries_of}
use Rattle.searcher_core.proofs.filters.cached_sets.Given as goal

-- the sets and notes of the filters so far
abbrev pub invariant-loop-filter : goal.invariant-loop-filter
invariant-loop-filter g l = record {
  back : IsBack l.fn.seat l.seat;
  owns : owned_key l.seat ≡ None;
  list : FiltersCalls (g.P.Reads.view l.fn.probe) (take l.filter-index l.filters) l.notes.items (own_list l.fn.seat) (own_list l.seat);
  kept : Kept g.P.Reads.view g.P.Reads.terms g.P.Reads.counted l.fn.probe l.probe;
  sets : map arc_value l.sets.items ≡ map (λ q. answer q (g.P.Reads.view l.fn.probe)) (queries_of (cached (take l.filter-index l.filters)));
  notes : AreNotes (may_cache (take l.filter-index l.filters)) l.notes.items;
  asked : AskInTurn (computed (take l.filter-index l.filters) l.notes.items) (g.P.Reads.counted l.fn.probe).postings (g.P.Reads.counted l.probe).postings;
}
