-- The clauses of a printed Boolean query join to it.
use Rattle.std.proofs.Common.{◌≡◌, ◌++◌, ◌∷◌, [], List, Bool, true, false, Option, None, Some, refl, ap, sym, ◌∙◌}
use Rattle.std.specs.Prelude.{if◌then◌else◌}
use Rattle.std.proofs.lemmas.List.{append-nil}
use Rattle.std.proofs.lemmas.Bool.{true≢false}
use Rattle.query_tree.specs.declared.query.Query.{Query}
use Rattle.query_tree.specs.declared.query.Query.TheViews as parts
use Rattle.query_text.specs.declared.level.Clause.{Clause}
use Rattle.query_text.specs.declared.level.Sign.{Sign}
use Rattle.query_text.specs.declared.level.Sign.TheVariants.{Required, Prohibited}
use Rattle.query_text.specs.declared.op.Op.TheVariants as op
use Rattle.query_text.specs.declared.clause.Mark.{Mark}
use Rattle.query_text.specs.declared.clause.Mark.TheVariants as as_
use Rattle.query_text.specs.Clauses.{mark, same_mark, conj_before, marked, sorted, joined}
use Rattle.query_text.specs.PrintLaws.{is_single}
use Rattle.query_text.proofs.Groups.{clauses}

-- what a clause with this sign alone counts as
abbrev mark_of : Option Sign → Mark
mark_of None = as_.Should
mark_of (Some Required) = as_.Must
mark_of (Some Prohibited) = as_.Not

mark_is : (sign : Option Sign) → mark op.Or None sign None ≡ mark_of sign
mark_is None = refl
mark_is (Some Required) = refl
mark_is (Some Prohibited) = refl

-- the queries, where their mark is the one that is asked for
abbrev picked : Bool → List Query → List Query
picked true qs = qs
picked false qs = []

pick_more : (b : Bool) (q : Query) (qs rest : List Query) → (if b then q ∷ [] else []) ++ (picked b qs ++ rest) ≡ picked b (q ∷ qs) ++ rest
pick_more true q qs rest = refl
pick_more false q qs rest = refl

pick_none : (b : Bool) (xs : List Query) → xs ≡ picked b [] ++ xs
pick_none true xs = refl
pick_none false xs = refl

conj_front : (sign : Option Sign) (qs : List Query) (tail : List Clause) → conj_before tail ≡ None → conj_before (clauses sign qs ++ tail) ≡ None
conj_front sign [] tail h = h
conj_front sign (q ∷ qs) tail h = refl

marked_front : (m : Mark) (sign : Option Sign) (qs : List Query) (tail : List Clause) → conj_before tail ≡ None
    → marked m op.Or (clauses sign qs ++ tail) ≡ picked (same_mark m (mark_of sign)) qs ++ marked m op.Or tail
unfolding marked
marked_front m sign [] tail h = pick_none (same_mark m (mark_of sign)) (marked m op.Or tail)
marked_front m sign (q ∷ qs) tail h =
    rw (conj_front sign qs tail h, mark_is sign, marked_front m sign qs tail h) (pick_more (same_mark m (mark_of sign)) q qs (marked m op.Or tail))

-- the clauses of a Boolean query
abbrev pub all_clauses : List Query → List Query → List Query → List Clause
all_clauses must should not_ = clauses (Some Required) must ++ (clauses None should ++ clauses (Some Prohibited) not_)

marked_all : (m : Mark) (must should not_ : List Query) → marked m op.Or (all_clauses must should not_)
    ≡ picked (same_mark m as_.Must) must ++ (picked (same_mark m as_.Should) should ++ (picked (same_mark m as_.Not) not_ ++ []))
unfolding marked
marked_all m must should not_ =
    ap (λ (cs : List Clause). marked m op.Or (clauses (Some Required) must ++ (clauses None should ++ cs))) (sym (append-nil (clauses (Some Prohibited) not_)))
    ∙ marked_front m (Some Required) must (clauses None should ++ (clauses (Some Prohibited) not_ ++ []))
    (conj_front None should (clauses (Some Prohibited) not_ ++ []) (conj_front (Some Prohibited) not_ [] refl))
    ∙ ap (λ (qs : List Query). picked (same_mark m as_.Must) must ++ qs)
    (marked_front m None should (clauses (Some Prohibited) not_ ++ []) (conj_front (Some Prohibited) not_ [] refl)
    ∙ ap (λ (qs : List Query). picked (same_mark m as_.Should) should ++ qs) (marked_front m (Some Prohibited) not_ [] refl))

pub sorted_all : (must should not_ : List Query) → sorted op.Or (all_clauses must should not_) ≡ parts.Bool must should not_
unfolding sorted
sorted_all must should not_ =
    let a : marked as_.Must op.Or (all_clauses must should not_) ≡ must = marked_all as_.Must must should not_ ∙ append-nil must in
    let b : marked as_.Should op.Or (all_clauses must should not_) ≡ should = marked_all as_.Should must should not_ ∙ append-nil should in
    let c : marked as_.Not op.Or (all_clauses must should not_) ≡ not_ = marked_all as_.Not must should not_ ∙ append-nil not_ in
    rw (a, b, c) refl

joined_signed : (s : Sign) (q : Query) (cs : List Clause)
    → joined op.Or ((record { before = None; sign = Some s; query = q }) ∷ cs) ≡ sorted op.Or ((record { before = None; sign = Some s; query = q }) ∷ cs)
unfolding joined
joined_signed s q [] = refl
joined_signed s q (c ∷ cs) = refl

joined_several : (must should not_ : List Query) → is_single must should not_ ≡ false → joined op.Or (all_clauses must should not_) ≡ sorted op.Or (all_clauses must should not_)
unfolding joined
joined_several (q ∷ must) should not_ h = joined_signed Required q (clauses (Some Required) must ++ (clauses None should ++ clauses (Some Prohibited) not_))
joined_several [] [] [] h = absurd (true≢false h)
joined_several [] [] (q ∷ not_) h = joined_signed Prohibited q (clauses (Some Prohibited) not_)
joined_several [] (q ∷ []) [] h = absurd (true≢false h)
joined_several [] (q ∷ []) (p ∷ not_) h = refl
joined_several [] (q ∷ p ∷ should) not_ h = refl

pub joined_all : (must should not_ : List Query) → is_single must should not_ ≡ false → joined op.Or (all_clauses must should not_) ≡ parts.Bool must should not_
joined_all must should not_ h = joined_several must should not_ h ∙ sorted_all must should not_
