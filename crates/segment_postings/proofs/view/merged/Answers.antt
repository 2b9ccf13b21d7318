use Rattle.std.proofs.Common.{◌+◌, ◌<◌, ◌-◌, ◌++◌, length, map, drop, sym, ap, subst, ◌∙◌, arith, length-drop}
use Rattle.std.specs.Arc.{arc_value}
use Rattle.std.proofs.lemmas.List.{length-map, take-map, drop-map}
use Rattle.segment_postings.specs.Views.{AddsPart}
use Rattle.segment_postings.proofs.Joining.{take_all}
use Rattle.segment_postings.proofs.Packed.{merges_two}
use Rattle.segment_postings.proofs.view.merged.Goals as goal

pub returns : goal.returns
returns c =
    let xs = c.args.parts.now in
    let ps = map arc_value xs in
    let both : c.args.at + 1 < length ps = omega (arith, length-map xs arc_value, c.requires.both) in
    let rest = take_all (length xs - (c.args.at + 2)) (drop (c.args.at + 2) xs) (omega (arith, length-drop (c.args.at + 2) xs)) in
    let list = c.in_ok-share.ensures ∙ ap (λ ys. map arc_value c.in_ok-all.all.items ++ ys) (ap (map arc_value) rest ∙ sym (drop-map arc_value (c.args.at + 2) xs)) in
    merges_two ps (map arc_value c.in_ok-all.all.items) (map arc_value c.share.new.all.items) c.args.at c.args.part.docs both
    (subst (λ qs. AddsPart qs c.args.part.docs (map arc_value c.in_ok-all.all.items)) (sym (take-map arc_value c.args.at xs)) c.in_ok-all.ensures) list
