use Rattle.sort_order.proofs.Renumbered.{order_of_numbers_counts}
use Rattle.sort_order.proofs.laws.order_of_numbers_counts.Goals as goal

pub returns : goal.returns
returns c = order_of_numbers_counts
