use Rattle.std.proofs.Common.{◌<◌, length, ap, ◌∙◌, arith}
use Rattle.segment_postings.specs.Groups.{gathered}
use Rattle.segment_postings.proofs.Joining.{take_all}
use Rattle.segment_postings.proofs.PostingsGathered.{gathered_place}
use Rattle.segment_postings.proofs.gathering.gather.Goals as goal

pub loop-place-preserved : goal.loop-place-preserved
loop-place-preserved c =
    let within : c.loop-place.place-index < length c.args.places.now = omega arith in
    gathered_place c.args.live.now c.args.base c.tells_places-told.result c.add.new.found.items c.loop-place.found.items c.args.found.now.items
    c.args.places.now c.loop-place.place-index _ within c.in_ok-add.ensures c.loop-place.invariant

pub returns : goal.returns
returns c =
    c.loop-place.invariant
    ∙ ap (gathered c.args.live.now c.args.base c.tells_places-told.result c.args.found.now.items) (take_all c.loop-place.place-index c.args.places.now c.loop-place-test.false)
    ∙ ap (λ t. gathered c.args.live.now c.args.base t c.args.found.now.items c.args.places.now) c.tells_places-told.ensures
