use Rattle.std.proofs.Common.{◌<◌, length, arith}
use Rattle.query_eval.proofs.Steps.{common_more}
use Rattle.query_eval.proofs.sets.common.Goals as goal

pub loop-one-preserved : goal.loop-one-preserved
loop-one-preserved c =
    let within : c.loop-one.one-index < length c.args.sets.now = omega arith in
    λ n. common_more c.args.sets.now c.loop-one.one-index c.one-item.result c.in_ok-found.found c.loop-one.found c.in_ok-found-2.found n within c.one-item.is c.in_ok-found-2.ensures (c.loop-one.invariant n)
