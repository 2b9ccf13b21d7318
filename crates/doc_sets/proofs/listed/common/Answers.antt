use Rattle.std.proofs.Common.{◌≡◌, ◌<◌, cond, [], ◌∷◌, ◌++◌, length, get_or, refl, sym, ap, ◌∙◌, arith}
use Rattle.doc_sets.specs.Sets.{is_in}
use Rattle.doc_sets.specs.declared.TheConstants.{MAX_DOCS}
use Rattle.doc_sets.proofs.Rising.{Rises-lower}
use Rattle.doc_sets.proofs.Walking.{walked_found, walked_more, pushed_if, pushed_not}
use Rattle.doc_sets.proofs.listed.common.Goals as goal
use Rattle.doc_sets.proofs.listed.common.Goals.{then-starts_with+in_ok-push, else-starts_with}

pub loop-number-preserved : goal.loop-number-preserved
loop-number-preserved c =
    let left = c.args.left.now in
    let right = c.args.right.now in
    let kept = c.loop-number.kept.items in
    let x = get_or left c.loop-number.number-index 0 in
    let next = c.from_number-rest.result.now in
    let within : c.loop-number.number-index < length left = omega arith in
    let same = walked_found MAX_DOCS x next c.loop-number.invariant c.requires.left within refl c.from_number-rest.ensures.same in
    let found : c.starts_with.result ≡ is_in right x = c.starts_with.ensures ∙ same x (omega arith) in
    let pushed : c.if-starts_with.kept.items ≡ kept ++ cond (is_in right x) (x ∷ []) [] =
    elim c.if-starts_with.branch [ then-starts_with+in_ok-push w ↦ pushed_if _ x kept _ (sym found ∙ w.if-starts_with.true) (ap (λ v. v.items) w.kept-is ∙ w.in_ok-push.ensures.items) | else-starts_with w ↦ pushed_not _ x kept _ (sym found ∙ w.if-starts_with.false) (ap (λ v. v.items) w.kept-is) ] in
    walked_more MAX_DOCS x next _ c.loop-number.invariant c.requires.left within refl (Rises-lower 0 x MAX_DOCS next (omega arith) c.from_number-rest.ensures.rises) same pushed
