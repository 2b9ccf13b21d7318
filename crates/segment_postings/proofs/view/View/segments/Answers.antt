use Rattle.std.proofs.Common.{length, map, ap, arith}
use Rattle.std.specs.Arc.{arc_value}
use Rattle.std.proofs.lemmas.List.{length-map}
use Rattle.segment_postings.proofs.ViewLaws.{few_parts}
use Rattle.segment_postings.proofs.view.View.segments.Goals as goal

pub overflow_cast-result : goal.overflow_cast-result
overflow_cast-result c =
    let few = few_parts (map arc_value c.self.inside.parts.items) c.self.invariant.filled in
    let len = length-map c.self.inside.parts.items arc_value in
    let value = ap length c.as_slice-parts.ensures.value in
    omega (arith, few, len, value, c.self.invariant.size, c.self.invariant.most)
