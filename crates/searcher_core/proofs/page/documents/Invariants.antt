use Rattle.std.proofs.Common.{◌≡◌, ◌-◌, ◌≤◌, length, map, take}
use Rattle.std.specs.Arc.{arc_value}
use Rattle.searcher_core.specs.Evaluated.{raised_by}
use Rattle.view_cells.specs.Seats.{own_list}
use Rattle.shared_cells.specs.Seated.{IsBack}
use Rattle.searcher_core.specs.RequestCalls.{PageCalls}
use Rattle.searcher_core.specs.Meeting.{docs_at}
use Rattle.searcher_core.proofs.page.documents.Given as goal

-- the documents of the numbers so far
abbrev pub invariant-loop-number : goal.invariant-loop-number
invariant-loop-number g l = record {
  back : IsBack l.fn.seat l.seat;
  list : PageCalls (g.P.Reads.view l.fn.probe) (map arc_value l.docs.items) l.hits (own_list l.fn.seat) (own_list l.seat);
  docs : map arc_value l.docs.items ≡ docs_at (g.P.Reads.view l.fn.probe) (take l.number-index l.numbers);
  count : length l.docs.items ≡ l.number-index;
  hits : l.hits ≤ l.number-index;
  stored : (g.P.Reads.counted l.probe).stored ≡ raised_by (l.number-index - l.hits) (g.P.Reads.counted l.fn.probe).stored;
  view : g.P.Reads.view l.probe ≡ g.P.Reads.view l.fn.probe;
  terms : g.P.Reads.terms l.probe ≡ g.P.Reads.terms l.fn.probe;
  postings : (g.P.Reads.counted l.probe).postings ≡ (g.P.Reads.counted l.fn.probe).postings;
  values : (g.P.Reads.counted l.probe).values ≡ (g.P.Reads.counted l.fn.probe).values;
}
