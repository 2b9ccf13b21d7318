use Rattle.std.proofs.Common.{◌≡◌, ◌++◌, map}
use Rattle.field_schema.specs.declared.key.Key.TheVariants.{Token}
use Rattle.segment_postings.specs.Segments.{occurrence}
use Rattle.segment_postings.proofs.occurrence.add_tokens.Given as goal

abbrev pub invariant-loop-i : goal.invariant-loop-i
invariant-loop-i l = l.found.items ≡ l.initial.found.items ++ map (λ e. occurrence l.doc l.value (e.0, Token e.1)) l.yielded
