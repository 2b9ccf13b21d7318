use Rattle.std.proofs.Common.{◌++◌, length, length-append, map, sym, ap, ◌∙◌, arith}
use Rattle.std.specs.Arc.{arc_value}
use Rattle.std.proofs.lemmas.List.{length-map, take-map}
use Rattle.segment_postings.specs.Segments.{Part}
use Rattle.segment_postings.specs.Views.{all_docs, live_from}
use Rattle.segment_postings.proofs.Packed.{pair_of, pair_room}
use Rattle.segment_postings.proofs.view.packed.Goals as goal

pub count-start-requires : goal.count-start-requires
count-start-requires c =
    let room = pair_room arc_value c.args.parts.now c.args.at c.index-parts-at.result c.index-parts-at-2.result c.requires.both c.index-parts-at.is c.index-parts-at-2.is c.requires.most in
    omega (arith, room)

pub joined-requires : goal.joined-requires
joined-requires c =
    let room = pair_room arc_value c.args.parts.now c.args.at c.index-parts-at.result c.index-parts-at-2.result c.requires.both c.index-parts-at.is c.index-parts-at-2.is c.requires.most in
    let first = ap (λ (p : Part). length p.docs) c.deref.ensures in
    let second = ap (λ (p : Part). length p.docs) c.deref-2.ensures in
    omega (arith, room, first, second, c.count-start.ensures)

pub returns-clause-packs : goal.returns-clause-packs
returns-clause-packs c =
    let parts = map arc_value c.args.parts.now in
    let pair = pair_of arc_value c.args.parts.now c.args.at c.index-parts-at.result c.index-parts-at-2.result c.requires.both c.index-parts-at.is c.index-parts-at-2.is in
    let one = sym (length-map c.docs.result.now arc_value) ∙ ap length (c.docs.ensures.docs ∙ ap (λ (p : Part). p.docs) c.deref-4.ensures) in
    let other = sym (length-map c.docs-2.result.now arc_value) ∙ ap length (c.docs-2.ensures.docs ∙ ap (λ (p : Part). p.docs) c.deref-5.ensures) in
    let stay = sym (length-map c.docs-3.result.now arc_value) ∙ ap length c.docs-3.ensures.docs in
    let len = ap length pair ∙ length-append ((arc_value c.index-parts-at.result).docs) ((arc_value c.index-parts-at-2.result).docs) in
    record {
      start = c.count-start.ensures ∙ ap (λ ps. length (all_docs ps)) (sym (take-map arc_value c.args.at c.args.parts.now));
      count = omega (arith, len, one, other);
      kept = omega (arith, stay);
      lives = c.in_ok-part.ensures.docs
          ∙ (λ j. live_from (c.deref-3.ensures j) c.count-start.result (ap (λ (p : Part). p.docs) c.deref.ensures j ++ ap (λ (p : Part). p.docs) c.deref-2.ensures j))
          ∙ ap (live_from (arc_value c.args.live.now) c.count-start.result) (sym pair);
    }
