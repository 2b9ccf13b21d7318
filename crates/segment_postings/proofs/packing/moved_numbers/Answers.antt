use Rattle.std.proofs.Common.{◌∷◌, [], ◌++◌, cond, sym, ◌∙◌}
use Rattle.segment_postings.specs.Views.{is_moved}
use Rattle.segment_postings.proofs.Packed.{range_kept}
use Rattle.segment_postings.proofs.packing.moved_numbers.Goals as goal

pub loop-number-preserved : goal.loop-number-preserved
loop-number-preserved c =
    c.in_ok-add_number.ensures
    ∙ (λ j. c.loop-number.invariant j ++ cond (c.is_moved-wanted.ensures j) (c.loop-number.number ∷ []) [])
    ∙ sym (range_kept (is_moved c.args.live.now c.args.packing) c.loop-number.number)
