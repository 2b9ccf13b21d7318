use Rattle.sort_order.proofs.Ordered.{index_order_stays}
use Rattle.sort_order.proofs.laws.index_order_stays.Goals as goal

pub returns : goal.returns
returns c = index_order_stays
