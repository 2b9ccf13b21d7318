use Rattle.std.proofs.Common.{◌≡◌, ◌++◌, List, sym, ap, subst, ◌∙◌, arith}
use Rattle.field_schema.specs.declared.key.Key.{Key}
use Rattle.segment_postings.specs.declared.occurrence.Occurrence.{Occurrence}
use Rattle.segment_postings.specs.Segments.{with_key}
use Rattle.segment_postings.specs.Layout.{behind_of}
use Rattle.segment_postings.specs.Renumbering.{moved, moved_places}
use Rattle.segment_postings.proofs.TermWalks.{Walk, walks}
use Rattle.segment_postings.proofs.laid.Laid.joined.Goals as goal

pub keys-preserved : goal.keys-preserved
keys-preserved c =
    let pa = c.as_slice-first_places.result.now in
    let pb = c.as_slice-second_places.result.now in
    let ma = c.args.first_moves.now in
    let mb = c.args.second_moves.now in
    let all : Key → List Occurrence = λ k. moved ma (with_key k c.args.first.now) ++ moved mb (with_key k c.args.second.now) in
    let new = c.put_term.new.terms.items in
    let qs = c.add_moved-in-keys.new.all.items in
    let places : qs ≡ (c.keys.places.items ++ moved_places ma _) ++ moved_places mb _ =
    c.in_ok-add_moved-2.ensures ∙ (λ j. (c.in_ok-add_moved.ensures ∙ ap (λ ps. c.keys.places.items ++ moved_places ma ps) c.own.ensures) j ++ moved_places mb (c.own-in-keys.ensures j)) in
    let step = walks pa ma pb mb all c.keys.terms.items new c.keys.places.items qs c.keys.left.now c.keys.right.now c.in-Some.key.now c.len-start.result c.len.result
    c.keys.invariant c.in-Some.ensures (omega (arith, c.len-start.ensures)) (omega (arith, c.len.ensures)) places c.in_ok-put_term.ensures in
    subst (λ us. Walk pa ma pb mb all new qs us c.behind-right.result.now) (sym c.behind-left.ensures)
    (subst (λ us. Walk pa ma pb mb all new qs (behind_of c.in-Some.key.now c.keys.left.now) us) (sym c.behind-right.ensures) step)
