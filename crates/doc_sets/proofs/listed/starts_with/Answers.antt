use Rattle.doc_sets.specs.declared.TheConstants.{MAX_DOCS}
use Rattle.doc_sets.proofs.Rising.{is_in-first}
use Rattle.doc_sets.proofs.listed.starts_with.Goals as goal

pub returns-in-Some : goal.returns-in-Some
returns-in-Some c = is_in-first c.args.number MAX_DOCS _ c.args.numbers.now c.requires c.in-Some.ensures.value
