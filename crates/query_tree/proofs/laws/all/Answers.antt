use Rattle.query_tree.proofs.Matching.{top_All}
use Rattle.query_tree.proofs.laws.all.Goals as goal

pub returns : goal.returns
returns c = top_All
