use Rattle.std.proofs.Common.{◌<◌, ◌++◌, length, sym, ap, ◌∙◌, arith}
use Rattle.std.proofs.lemmas.List.{append-nil}
use Rattle.segment_postings.specs.Positions.{positions_at}
use Rattle.segment_postings.proofs.Joining.{take_all}
use Rattle.segment_postings.proofs.PositionsGathered.{position_more}
use Rattle.segment_postings.proofs.gathering.add_positions.Goals as goal

pub loop-place-init : goal.loop-place-init
loop-place-init c = sym (append-nil c.args.found.now.items)

pub loop-place-preserved : goal.loop-place-preserved
loop-place-preserved c =
    let within : c.loop-place.place-index < length c.args.places.now = omega arith in
    position_more c.args.live.now c.args.base c.args.found.now.items c.loop-place.found.items c.add_position.new.found.items c.args.places.now c.loop-place.place-index _ within c.in_ok-add_position.ensures c.loop-place.invariant

pub returns : goal.returns
returns c =
    c.loop-place.invariant
    ∙ ap (λ ps. c.args.found.now.items ++ positions_at c.args.live.now c.args.base ps) (take_all c.loop-place.place-index c.args.places.now c.loop-place-test.false)
