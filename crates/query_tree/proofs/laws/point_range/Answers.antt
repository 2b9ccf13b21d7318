use Rattle.query_tree.proofs.MatchLaws.{empty_range, point_range}
use Rattle.query_tree.proofs.laws.point_range.Goals as goal

pub returns-clause-excluded : goal.returns-clause-excluded
returns-clause-excluded c = empty_range

pub returns-clause-included : goal.returns-clause-included
returns-clause-included c = point_range
