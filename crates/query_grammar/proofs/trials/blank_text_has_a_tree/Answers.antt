use Rattle.std.proofs.Common.{refl}
use Rattle.query_grammar.specs.Forms.{blank}
use Rattle.query_grammar.proofs.trials.blank_text_has_a_tree.Goals as goal

pub returns : goal.returns
returns c = (blank, refl)
