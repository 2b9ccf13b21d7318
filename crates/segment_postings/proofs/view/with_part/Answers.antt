use Rattle.std.proofs.Common.{◌≡◌, ◌<◌, ◌∷◌, [], ◌++◌, length, map, refl, ap, ◌∙◌, arith, inl, inr}
use Rattle.std.specs.Arc.{arc_value}
use Rattle.std.proofs.lemmas.List.{map-append, length-map}
use Rattle.std.proofs.lemmas.Bool.Decides.{eqb_tells}
use Rattle.segment_postings.proofs.ViewLaws.{part_added, nothing_added}
use Rattle.segment_postings.proofs.view.with_part.Goals as goal

pub returns-then-is_empty : goal.returns-then-is_empty
returns-then-is_empty c =
    let none : length c.args.part.docs ≡ 0 = elim (eqb_tells (length c.docs.result.now) 0) [
      | inl t ↦ omega (arith, t.1, length-map c.docs.result.now arc_value, ap length c.docs.ensures.docs)
      | inr t ↦ absurd (cc (c.if-is_empty.ensures, t.0))
    ] in
    nothing_added (map arc_value c.args.parts.now) (map arc_value c.in_ok-all.all.items) c.args.part.docs c.in_ok-all.ensures none

pub returns : goal.returns
returns c =
    let some : 0 < length c.args.part.docs = elim (eqb_tells (length c.docs.result.now) 0) [
      | inl t ↦ absurd (cc (c.if-is_empty.ensures, t.0))
      | inr t ↦ omega (arith, t.1, length-map c.docs.result.now arc_value, ap length c.docs.ensures.docs)
    ] in
    part_added (map arc_value c.args.parts.now) (map arc_value c.push.new.self.items) c.args.part c.args.part.docs
    (ap (map arc_value) c.in_ok-push.ensures.items ∙ map-append arc_value c.in_ok-all.all.items (c.in_ok-new.field-0 ∷ []) ∙ (λ j. c.in_ok-all.ensures j ++ c.in_ok-new.ensures.ok j ∷ []))
    refl some c.requires
