use Rattle.std.proofs.Common.{arith}
use Rattle.doc_sets.specs.declared.TheConstants.{MAX_DOCS}
use Rattle.doc_sets.proofs.Rising.{length-rising}
use Rattle.doc_sets.proofs.doc_set.of_list.Goals as goal

pub overflow_cast-count : goal.overflow_cast-count
overflow_cast-count c = omega (arith, length-rising 0 MAX_DOCS c.args.numbers.items (omega arith) c.requires.rises)
