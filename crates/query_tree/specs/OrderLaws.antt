-- Proofs, which no reader needs to believe: the laws of the order of ends and of sorts.
use Rattle.std.specs.Prelude.{◌≡◌, List, [], ◌∷◌, true, false, refl}
use Rattle.std.specs.Bool.{Decides}
use Rattle.std.specs.Ordering.{nat_cmp, bool_cmp, ordering_then, is_eq, is_lt, is_gt}
use Rattle.std.specs.declared.cmp.Ordering.{Ordering}
use Rattle.std.specs.declared.cmp.Ordering.TheVariants.{Less, Equal, Greater}
use Rattle.std.specs.Cmp.{IsTotalOrder, tied_itself, unsigned_Decides, unsigned_ties, Equal-is}
use Rattle.std.specs.Cmp.Lexicographic.{slice_cmp, lists_total}
use mathlib.Core.Path.{ap, ◌∙◌, sym}
use mathlib.Core.Bool.{true≢false}
use Rattle.field_schema.specs.Keys.{key_cmp}
use Rattle.field_schema.specs.Laws.{key_cmp-same}
use Rattle.query_tree.specs.declared.query.End.TheVariants.{Open, At}
use Rattle.query_tree.specs.declared.sort.SortBy.TheVariants.{Field, DocId}
use Rattle.query_tree.specs.declared.sort.SortKey.{SortKey}
use Rattle.query_tree.specs.contracts.query.EndOrd.TheImpl.Laws as end_laws
use Rattle.query_tree.specs.contracts.sort.SortByOrd.TheImpl as sort_by_ord
use Rattle.query_tree.specs.contracts.sort.SortKeyOrd.TheImpl.Laws as sort_key_laws
use Rattle.query_tree.specs.Order.{sort_key_cmp, sort_cmp, end_cmp, sort_eq}

-- ---- orders in general

-- the order tells each two values apart
abbrev pub TellsApart : {A : Type 0} → (A → A → Ordering) → Type 0
TellsApart {A} R = (x y : A) → R x y ≡ Equal → x ≡ y

pub then_Equal : (o : Ordering) → ordering_then o Equal ≡ o
then_Equal Less = refl
then_Equal Equal = refl
then_Equal Greater = refl

pub both_Equal : (a b : Ordering) → ordering_then a b ≡ Equal → (a ≡ Equal) × (b ≡ Equal)
both_Equal Less b e = absurd (true≢false (ap is_lt e))
both_Equal Equal b e = (refl, e)
both_Equal Greater b e = absurd (true≢false (ap is_gt e))

pub lists_apart : {A : Type 0} {R : A → A → Ordering} → TellsApart R → TellsApart (slice_cmp R)
lists_apart apart [] [] e = refl
lists_apart apart [] (y ∷ ys) e = absurd (true≢false (ap is_lt e))
lists_apart apart (x ∷ xs) [] e = absurd (true≢false (ap is_gt e))
lists_apart {A} {R} apart (x ∷ xs) (y ∷ ys) e =
    let both : (R x y ≡ Equal) × (slice_cmp R xs ys ≡ Equal) = both_Equal (R x y) (slice_cmp R xs ys) e in
    λ i. apart x y both.0 i ∷ lists_apart apart xs ys both.1 i

pub nats_apart : TellsApart nat_cmp
nats_apart x y e = (unsigned_Decides x y).0 (unsigned_ties x y ∙ ap is_eq e)

pub bools_apart : TellsApart bool_cmp
bools_apart false false e = refl
bools_apart false true e = absurd (true≢false (ap is_lt e))
bools_apart true false e = absurd (true≢false (ap is_gt e))
bools_apart true true e = refl

-- a test that the order answers decides equality
pub decided : {A : Type 0} {R : A → A → Ordering} → IsTotalOrder R → TellsApart R → (x y : A) → Decides (is_eq (R x y)) (x ≡ y)
decided {A} {R} total apart x y =
    (λ e. apart x y ((Equal-is (R x y)).0 e), λ e. ap is_eq (ap (R x) (sym e) ∙ tied_itself total x))

-- ---- sorts

pub sort_key_cmp_total : IsTotalOrder sort_key_cmp
sort_key_cmp_total = sort_key_laws.total-law

pub sort_by_cmp-same : TellsApart (sort_by_ord.ghosts).cmp
sort_by_cmp-same (Field f) (Field g) e = ap Field (nats_apart f g e)
sort_by_cmp-same (Field f) DocId e = absurd (true≢false (ap is_lt e))
sort_by_cmp-same DocId (Field g) e = absurd (true≢false (ap is_gt e))
sort_by_cmp-same DocId DocId e = refl

pub sort_key_cmp-same : TellsApart sort_key_cmp
sort_key_cmp-same a b e =
    let both : ((sort_by_ord.ghosts).cmp a.by b.by ≡ Equal) × (bool_cmp a.down b.down ≡ Equal) = both_Equal _ _ e in
    λ i. record { by = sort_by_cmp-same a.by b.by both.0 i; down = bools_apart a.down b.down both.1 i }

pub sort_cmp_total : IsTotalOrder sort_cmp
sort_cmp_total = lists_total sort_key_cmp_total

pub sort_cmp-same : TellsApart sort_cmp
sort_cmp-same = lists_apart sort_key_cmp-same

pub sort_eq-Decides : (a b : List SortKey) → Decides (sort_eq a b) (a ≡ b)
sort_eq-Decides = decided sort_cmp_total sort_cmp-same

pub sort_eq-same : (a b : List SortKey) → sort_eq a b ≡ true → a ≡ b
sort_eq-same a b = (sort_eq-Decides a b).0

-- ---- ends

pub end_cmp_total : IsTotalOrder end_cmp
end_cmp_total = end_laws.total-law

pub end_cmp-same : TellsApart end_cmp
end_cmp-same Open Open e = refl
end_cmp-same Open (At l j) e = absurd (true≢false (ap is_lt e))
end_cmp-same (At k i) Open e = absurd (true≢false (ap is_gt e))
end_cmp-same (At k i) (At l j) e =
    let both : (key_cmp k l ≡ Equal) × (bool_cmp i j ≡ Equal) = both_Equal (key_cmp k l) (bool_cmp i j) e in
    λ n. At (key_cmp-same k l both.0 n) (bools_apart i j both.1 n)
