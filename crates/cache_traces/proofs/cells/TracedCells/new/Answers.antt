use Rattle.std.proofs.Common.{[], refl}
use Rattle.cache_traces.specs.Traces.{rules as of}
use Rattle.cache_traces.proofs.Holding.{begins, named_empty, moved}
use Rattle.cache_traces.proofs.cells.TracedCells.new.Goals as goal

pub invariant_of-result : goal.invariant_of-result
invariant_of-result g c =
    let trace = c.new-trace in
    let r = of g.K.PartialEq.eq g.V.Value.weight g.V.Value.serves g.V.Counted.numbers g.V.Counted.keeps in
    moved r [] trace.result.keys [] trace.result.steps trace.result.room trace.result.room c.in_ok-cells.cells c.in_ok-cells.cells
    (begins r c.args.size c.args.greatest c.args.seats trace.result.room c.in_ok-cells.cells c.in_ok-cells.ensures) trace.ensures.keys trace.ensures.steps refl refl

pub returns-clause-cache : goal.returns-clause-cache
returns-clause-cache g c =
    let r = of g.K.PartialEq.eq g.V.Value.weight g.V.Value.serves g.V.Counted.numbers g.V.Counted.keeps in
    named_empty r c.args.size c.args.greatest c.args.seats c.in_ok-cells.cells c.new-trace.result.keys c.in_ok-cells.ensures
