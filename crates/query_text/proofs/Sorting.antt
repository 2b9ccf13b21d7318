-- Sorting clauses from the last to the first.
use Rattle.std.proofs.Common.{◌≡◌, ◌++◌, Bool, true, false, cond, List, [], ◌∷◌, reverse, refl, ap, ◌∙◌}
use Rattle.std.proofs.lemmas.List.{reverse-append}
use Rattle.query_tree.specs.declared.query.Query.{Query}
use Rattle.query_text.specs.declared.op.Op.{Op}
use Rattle.query_text.specs.declared.level.Clause.{Clause}
use Rattle.query_text.specs.declared.clause.Mark.{Mark}
use Rattle.query_text.specs.Clauses.{mark, conj_before, same_mark, kept, marked}

one_reversed : (b : Bool) (q : Query) → reverse (cond b (q ∷ []) []) ≡ cond b (q ∷ []) []
one_reversed true q = refl
one_reversed false q = refl

-- a clause in front of those that were sorted
pub marked_more : (m n : Mark) (o : Op) (c : Clause) (done : List Clause) (xs ys : List Query) → reverse xs ≡ marked m o done → n ≡ mark o c.before c.sign (conj_before done)
    → ys ≡ xs ++ kept m n c.query → reverse ys ≡ marked m o (c ∷ done)
unfolding marked
marked_more m n o c done xs ys before is more =
    ap reverse more ∙ reverse-append xs (kept m n c.query) ∙ ap (λ r. r ++ reverse xs) (one_reversed (same_mark m n) c.query)
    ∙ ap (λ r. kept m n c.query ++ r) before ∙ ap (λ k. kept m k c.query ++ marked m o done) is
