use Rattle.std.proofs.Common.{◌≡◌, ◌<◌, ◌∷◌, [], ◌++◌, length, map, sym, ap, ◌∙◌, arith, rules}
use Rattle.std.specs.Arc.{arc_value}
use Rattle.std.proofs.lemmas.List.{map-append}
use Rattle.segment_postings.proofs.Joining.{take_all}
use Rattle.segment_postings.proofs.ViewLoops.{mapped_take}
use Rattle.segment_postings.proofs.view.shared.Goals as goal

pub loop-part-preserved : goal.loop-part-preserved
loop-part-preserved c =
    let within : c.loop-part.part-index < length c.args.parts.now = omega arith in
    let same : arc_value c.in_ok-clone.field-0 ≡ arc_value c.part-item.result = search rules in
    ap (map arc_value) c.in_ok-push.ensures.items ∙ map-append arc_value c.loop-part.shared.items (c.in_ok-clone.field-0 ∷ [])
    ∙ (λ j. c.loop-part.invariant j ++ same j ∷ []) ∙ sym (mapped_take arc_value c.args.parts.now c.loop-part.part-index c.part-item.result within c.part-item.is)

pub returns : goal.returns
returns c = c.loop-part.invariant ∙ ap (map arc_value) (take_all c.loop-part.part-index c.args.parts.now c.loop-part-test.false)
