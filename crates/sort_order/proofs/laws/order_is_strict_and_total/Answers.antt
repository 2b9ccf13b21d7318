use Rattle.sort_order.proofs.Ordered.{none_before_itself, before_chains, one_comes_before}
use Rattle.sort_order.proofs.laws.order_is_strict_and_total.Goals as goal

pub returns-clause-itself : goal.returns-clause-itself
returns-clause-itself c = none_before_itself

pub returns-clause-chains : goal.returns-clause-chains
returns-clause-chains c = before_chains

pub returns-clause-total : goal.returns-clause-total
returns-clause-total c = one_comes_before
