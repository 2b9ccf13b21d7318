use Rattle.std.proofs.Common.{◌∷◌, [], None, refl}
use Rattle.query_lexemes.specs.declared.lexeme.What.TheVariants as what
use Rattle.query_text.specs.Reads.{after}
use Rattle.query_grammar.specs.Trials.{a, and_, opening, setting}
use Rattle.query_grammar.proofs.Finishing.{nothing_goes_on}
use Rattle.query_grammar.proofs.trials.an_open_parenthesis_has_none.Goals as goal

pub returns : goal.returns
unfolding after
returns c = nothing_goes_on setting None (opening ∷ a ∷ and_ ∷ []) [] what.Finish refl
