use Rattle.std.proofs.Common.{◌≡◌, ◌+◌, ◌∷◌, [], ◌++◌, sym, ap, ◌∙◌, arith}
use Rattle.std.specs.List.{range_with_len}
use Rattle.segment_postings.proofs.ViewLaws.{range_more}
use Rattle.segment_postings.proofs.view.range.Goals as goal

pub loop-i-preserved : goal.loop-i-preserved
loop-i-preserved c =
    c.in_ok-push.ensures.items ∙ ap (λ xs. xs ++ (c.args.first + c.loop-i.i) ∷ []) c.loop-i.invariant ∙ sym (range_more c.args.first c.loop-i.i)

pub returns : goal.returns
returns c = let whole : c.loop-i.i ≡ c.args.count = omega arith in c.loop-i.invariant ∙ ap (range_with_len c.args.first) whole
