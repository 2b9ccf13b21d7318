use Rattle.std.proofs.Common.{◌≡◌, length}
use Rattle.query_tree.specs.Matches.{stand_in}
use Rattle.query_eval.proofs.matching.stands.Given as goal

abbrev pub invariant-tokens : goal.invariant-tokens
invariant-tokens l = stand_in l.words l.rest ≡ stand_in l.words l.tokens

abbrev pub decreases-tokens : goal.decreases-tokens
decreases-tokens l = length l.rest
