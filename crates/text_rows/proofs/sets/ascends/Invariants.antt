use Rattle.std.proofs.Common.{◌≡◌, take}
use Rattle.doc_sets.specs.Sets.{IsAscending}
use Rattle.doc_sets.proofs.Rising.{end_of}
use Rattle.text_rows.proofs.sets.ascends.Given as goal

abbrev pub invariant-loop-number : goal.invariant-loop-number
invariant-loop-number l = IsAscending (take l.number-index l.numbers) × (end_of 0 (take l.number-index l.numbers) ≡ l.least)
