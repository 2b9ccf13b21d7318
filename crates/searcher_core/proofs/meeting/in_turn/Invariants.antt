use Rattle.std.proofs.Common.{◌≡◌, map, take, Bor}
use Rattle.std.specs.Arc.{arc_value}
use Rattle.query_eval.specs.Kept.{Kept}
use Rattle.request_form.specs.declared.request.Filter.{Filter}
use Rattle.searcher_core.specs.Meeting.{HasMet}
use Rattle.searcher_core.specs.Searches.{queries_of}
use Rattle.searcher_core.proofs.meeting.in_turn.Given as goal

-- the set was met by the filters so far
abbrev pub invariant-loop-turn : goal.invariant-loop-turn
invariant-loop-turn g l = record {
  met : HasMet (g.P.Reads.view l.fn.probe) (queries_of (map (λ (f : Bor Filter). f.now) (take l.turn-index l.turns))) (arc_value l.fn.set) (arc_value l.left)
      (g.P.Reads.counted l.fn.probe).postings (g.P.Reads.counted l.probe).postings;
  kept : Kept g.P.Reads.view g.P.Reads.terms g.P.Reads.counted l.fn.probe l.probe;
}
