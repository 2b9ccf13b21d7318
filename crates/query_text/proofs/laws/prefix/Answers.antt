use Rattle.query_text.proofs.Prefixes.{prefix_prints}
use Rattle.query_text.proofs.laws.prefix.Goals as goal

pub returns : goal.returns
returns c = prefix_prints
