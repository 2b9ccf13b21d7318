use Rattle.std.proofs.Common.{◌-◌}
use Rattle.doc_sets.specs.declared.TheConstants.{MAX_DOCS}
use Rattle.doc_sets.proofs.Rising.{end_of}
use Rattle.doc_sets.proofs.Merging.{Merging}
use Rattle.doc_sets.proofs.listed.either.Given as goal

abbrev pub invariant-loop-first : goal.invariant-loop-first
invariant-loop-first l = Merging l.left l.right l.merged.items l.left_rest l.right_rest

abbrev pub decreases-loop-first : goal.decreases-loop-first
decreases-loop-first l = MAX_DOCS - end_of 0 l.merged.items
