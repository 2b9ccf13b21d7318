use Rattle.doc_sets.specs.declared.TheConstants.{MAX_DOCS}
use Rattle.doc_sets.proofs.Rising.{past_first}
use Rattle.doc_sets.proofs.listed.from_number.Goals as goal

pub loop-first-preserved : goal.loop-first-preserved
loop-first-preserved c =
    let h = c.in-Some.ensures.cases in
    past_first c.args.least MAX_DOCS _ c.loop-first.rest.now _ c.args.numbers.now h.0 c.if-first-least.false c.loop-first.invariant.0 c.loop-first.invariant.1
