use Rattle.query_tree.proofs.MatchLaws.{phrase_within, phrase_across}
use Rattle.query_tree.proofs.laws.phrase.Goals as goal

pub returns-clause-within : goal.returns-clause-within
returns-clause-within c = phrase_within

pub returns-clause-across : goal.returns-clause-across
returns-clause-across c = phrase_across
