use Rattle.query_tree.proofs.MatchLaws.{empty_prefix}
use Rattle.query_tree.proofs.laws.empty_prefix.Goals as goal

pub returns : goal.returns
returns c = empty_prefix
