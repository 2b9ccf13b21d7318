use Rattle.std.proofs.Common.{◌<◌, length, arith}
use Rattle.segment_postings.proofs.MovedPlaces.{moved_place_more}
use Rattle.segment_postings.proofs.renumbering.add_moved.Goals as goal

pub loop-place-preserved : goal.loop-place-preserved
loop-place-preserved c =
    let within : c.loop-place.place-index < length c.args.places.now = omega arith in
    moved_place_more c.args.moves.now c.add_place.new.all.items c.loop-place.all.items c.args.all.now.items c.args.places.now c.loop-place.place-index _ _ within c.new_number.ensures c.in_ok-add_place.ensures c.loop-place.invariant
