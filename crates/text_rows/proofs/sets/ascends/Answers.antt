use Rattle.std.proofs.Common.{subst, arith}
use Rattle.std.proofs.lemmas.List.{take_all}
use Rattle.doc_sets.specs.Sets.{IsAscending}
use Rattle.doc_sets.specs.declared.TheConstants.{MAX_DOCS}
use Rattle.doc_sets.proofs.Rising.{tested_more}
use Rattle.doc_sets.proofs.Members.{increasing, all_documents}
use Rattle.text_rows.proofs.sets.ascends.Goals as goal

pub loop-number-preserved : goal.loop-number-preserved
loop-number-preserved c = tested_more MAX_DOCS c.loop-number.least c.loop-number.number-index c.args.numbers.now (omega arith) c.loop-number.invariant.0 c.loop-number.invariant.1 (omega arith) (omega arith)

pub returns-clause-rising : goal.returns-clause-rising
returns-clause-rising c _ = increasing c.args.numbers.now (subst IsAscending (take_all c.loop-number.number-index c.args.numbers.now (omega arith)) c.loop-number.invariant.0)

pub returns-clause-documents : goal.returns-clause-documents
returns-clause-documents c _ = all_documents c.args.numbers.now (subst IsAscending (take_all c.loop-number.number-index c.args.numbers.now (omega arith)) c.loop-number.invariant.0)
