use Rattle.std.proofs.Common.{ap, sym, ◌∙◌}
use Rattle.std.specs.List.{list_all, list_any}
use Rattle.std.proofs.lemmas.Result.{IfOk-weaker}
use Rattle.query_tree.specs.Matches.{matches}
use Rattle.query_eval.proofs.Parts.{told, told_empty, not_all, one_prohibited, by_optional, by_required}
use Rattle.query_eval.proofs.matching.+matching.Goals.{holds-then-not-branch-via-then-not-branch, holds-then-not-branch-via-else-not-branch+in_ok-some_hold-in-Bool+then-branch}
use Rattle.query_eval.proofs.matching.+matching.Goals as goal

pub holds-returns-then-not-branch : goal.holds-returns-then-not-branch
holds-returns-then-not-branch t c =
    let doc = c.args.doc.now.values in
    elim c.then-not-branch.branch [
      | holds-then-not-branch-via-then-not-branch w ↦ sym (not_all doc c.args.query.now c.in-Bool.must c.in-Bool.should c.in-Bool.not c.in-Bool.is
          (told (list_all (matches doc)) _ _ _ _ c.as_slice.ensures c.in_ok-all_hold-in-Bool.ensures w.if-not-branch.true))
      | holds-then-not-branch-via-else-not-branch+in_ok-some_hold-in-Bool+then-branch w ↦ sym (one_prohibited doc c.args.query.now c.in-Bool.must c.in-Bool.should c.in-Bool.not c.in-Bool.is
          (told (list_all (matches doc)) _ _ _ _ c.as_slice.ensures c.in_ok-all_hold-in-Bool.ensures w.if-not-branch.false)
          (told (list_any (matches doc)) _ _ _ _ w.as_slice-else-not-branch.ensures w.in_ok-some_hold-in-Bool.ensures w.if-branch.true))
    ]

pub holds-returns-then-is_empty : goal.holds-returns-then-is_empty
holds-returns-then-is_empty t c =
    let doc = c.args.doc.now.values in
    IfOk-weaker c.some_hold-then-is_empty.result _ _
    (λ b e. e ∙ ap (list_any (matches doc)) c.as_slice-then-is_empty.ensures ∙ sym (by_optional doc c.args.query.now c.in-Bool.must c.in-Bool.should c.in-Bool.not c.in-Bool.is
    (told (list_all (matches doc)) _ _ _ _ c.as_slice.ensures c.in_ok-all_hold-in-Bool.ensures c.if-not-branch.false)
    (told (list_any (matches doc)) _ _ _ _ c.as_slice-else-not-branch.ensures c.in_ok-some_hold-in-Bool.ensures c.if-branch.false)
    (told_empty _ _ _ _ c.as_slice-in-Bool.ensures c.is_empty.ensures c.if-is_empty.true)))
    c.some_hold-then-is_empty.ensures

pub holds-returns-else-is_empty : goal.holds-returns-else-is_empty
holds-returns-else-is_empty t c =
    let doc = c.args.doc.now.values in
    sym (by_required doc c.args.query.now c.in-Bool.must c.in-Bool.should c.in-Bool.not c.in-Bool.is
    (told (list_all (matches doc)) _ _ _ _ c.as_slice.ensures c.in_ok-all_hold-in-Bool.ensures c.if-not-branch.false)
    (told (list_any (matches doc)) _ _ _ _ c.as_slice-else-not-branch.ensures c.in_ok-some_hold-in-Bool.ensures c.if-branch.false)
    (told_empty _ _ _ _ c.as_slice-in-Bool.ensures c.is_empty.ensures c.if-is_empty.false))
