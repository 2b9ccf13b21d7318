use Rattle.std.proofs.Common.{arith}
use Rattle.query_tree.specs.Order.{query_cmp}
use Rattle.query_tree.proofs.Comparing.{must_decide, should_decide, not_decide, lengths_decide}
use Rattle.query_tree.proofs.query.+comparing.Goals as goal

pub compare-returns-then-is_ne : goal.compare-returns-then-is_ne
compare-returns-then-is_ne t c =
    must_decide c.args.query.now c.args.other.now _ _ _ _ _ _ c.in-Bool-Bool.is-0 c.in-Bool-Bool.is-1 c.compare_all-order.result (cc) (cc)

pub compare-returns-then-is_ne-2 : goal.compare-returns-then-is_ne-2
compare-returns-then-is_ne-2 t c =
    should_decide c.args.query.now c.args.other.now _ _ _ _ _ _ c.in-Bool-Bool.is-0 c.in-Bool-Bool.is-1 c.compare_all-order.result (cc) (cc) c.compare_all-order-in-Bool-Bool.result (cc) (cc)

pub compare-returns-else-is_ne-2 : goal.compare-returns-else-is_ne-2
compare-returns-else-is_ne-2 t c =
    not_decide c.args.query.now c.args.other.now _ _ _ _ _ _ c.in-Bool-Bool.is-0 c.in-Bool-Bool.is-1 c.compare_all-order.result (cc) (cc) c.compare_all-order-in-Bool-Bool.result (cc) (cc) c.compare_all.result (cc)

pub compare_all-returns : goal.compare_all-returns
compare_all-returns t c =
    let seen = c.loop-i.invariant in
    let end = seen.0 in
    lengths_decide query_cmp c.args.queries.now c.args.others.now c.loop-i.i c.cmp.result (omega arith) c.cmp.ensures seen.1
