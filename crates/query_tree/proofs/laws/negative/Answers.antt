use Rattle.query_tree.proofs.MatchLaws.{top_negative, top_others, nested_negative, beside_negative}
use Rattle.query_tree.proofs.laws.negative.Goals as goal

pub returns-clause-top : goal.returns-clause-top
returns-clause-top c = top_negative

pub returns-clause-others : goal.returns-clause-others
returns-clause-others c = top_others

pub returns-clause-nested : goal.returns-clause-nested
returns-clause-nested c = nested_negative

pub returns-clause-beside : goal.returns-clause-beside
returns-clause-beside c = beside_negative
