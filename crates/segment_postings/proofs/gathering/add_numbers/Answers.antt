use Rattle.std.proofs.Common.{◌<◌, length, ap, ◌∙◌, arith}
use Rattle.std.specs.FinSet.{union, from_list}
use Rattle.segment_postings.proofs.Joining.{take_all}
use Rattle.segment_postings.proofs.SpanNumbers.{numbers_of_places, no_places, place_more}
use Rattle.segment_postings.proofs.gathering.add_numbers.Goals as goal

pub loop-place-init : goal.loop-place-init
loop-place-init c = no_places c.args.base c.expect.new.self

pub loop-place-preserved : goal.loop-place-preserved
loop-place-preserved c =
    let within : c.loop-place.place-index < length c.args.places.now = omega arith in
    place_more c.args.base c.expect.new.self c.loop-place.found c.add.new.self c.args.places.now c.loop-place.place-index _ within c.loop-place.invariant c.in-Ok-add.ensures

pub returns : goal.returns
returns c =
    c.loop-place.invariant
    ∙ ap (λ ps. union c.expect.new.self (from_list (numbers_of_places c.args.base ps))) (take_all c.loop-place.place-index c.args.places.now c.loop-place-test.false)
    ∙ ap (λ s. union s (from_list (numbers_of_places c.args.base c.args.places.now))) c.in-Ok.ensures
