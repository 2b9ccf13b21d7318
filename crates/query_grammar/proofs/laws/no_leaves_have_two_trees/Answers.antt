use Rattle.query_grammar.proofs.Trees.{one_tree}
use Rattle.query_grammar.proofs.laws.no_leaves_have_two_trees.Goals as goal

pub returns : goal.returns
returns c = one_tree
