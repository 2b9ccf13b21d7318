-- What is said of the document of a number, and the sets of those that pass.
use Rattle.std.proofs.Common.{◌≡◌, ℕ, suc, ◌<◌, Bool, true, false, cond, not, ◌&&◌, ◌||◌, List, [], ◌∷◌, map, filter, Option, Some, None, refl, sym, ap, ◌∙◌, arith, nat_eq, length}
use Rattle.std.specs.Ordering.{nat_cmp}
use Rattle.std.specs.Cmp.{nat_cmp_total}
use Rattle.std.specs.List.{list_any, list_all}
use Rattle.std.specs.FinSet.{contains, from_list, union, intersection, difference, empty, contains-from_list_nat, contains-union, contains-intersection, contains-difference, same_set, nat_cmp-IsAntisymmetric}
use Rattle.std.proofs.lemmas.Bool.{ne_eqb, eqb-true}
use Rattle.doc_model.specs.Document.{Document}
use Rattle.doc_sets.specs.Sets.{Numbers, Rises}
use Rattle.segment_postings.specs.Numbered.{Numbered, IsNumbered, numbers}
use Rattle.query_eval.specs.Found.{numbers_where, found}
use Rattle.query_eval.specs.Many.{IsUnion, IsCommon}

pub and_true : (b : Bool) → (b && true) ≡ b
and_true true = refl
and_true false = refl

pub and_false : (b : Bool) → (b && false) ≡ false
and_false true = refl
and_false false = refl

pub or_false : (b : Bool) → (b || false) ≡ b
or_false true = refl
or_false false = refl

-- the document of a number
abbrev pub doc_of : {D : Type 0} → List (ℕ × D) → ℕ → Option D
doc_of [] n = None
doc_of (e ∷ es) n = cond (nat_eq e.0 n) (Some e.1) (doc_of es n)

-- it is there and passes
abbrev pub verdict : {D : Type 0} → (D → Bool) → Option D → Bool
verdict p None = false
verdict p (Some d) = p d

-- some entry has the number and passes
abbrev pub passes : {D : Type 0} → (D → Bool) → List (ℕ × D) → ℕ → Bool
passes p list n = list_any (λ e. nat_eq e.0 n && p e.1) list

is_in-where : (p : Document → Bool) (list : List (ℕ × Document)) (n : ℕ) → list_any (λ x. nat_eq x n) (numbers_where p list) ≡ passes p list n
is_in-where p [] n = refl
is_in-where p (e ∷ es) n =
    elim (p e.1) as (λ b. list_any (λ x. nat_eq x n) (map (λ e. e.0) (cond b (e ∷ filter (λ e. p e.1) es) (filter (λ e. p e.1) es))) ≡ ((nat_eq e.0 n && b) || passes p es n)) [
      | true ↦ (λ i. sym (and_true (nat_eq e.0 n)) i || is_in-where p es n i)
      | false ↦ is_in-where p es n ∙ sym (ap (λ b. b || passes p es n) (and_false (nat_eq e.0 n)))
    ]

pub contains_found : (p : Document → Bool) (v : Numbered) (n : ℕ) → contains (found p v) n ≡ passes p v.list n
unfolding found
contains_found p v n = contains-from_list_nat (numbers_where p v.list) n ∙ is_in-where p v.list n

pub absent : {D : Type 0} (p : D → Bool) (low high : ℕ) (list : List (ℕ × D)) (n : ℕ) → Rises low high (map (λ e. e.0) list) → n < low → passes p list n ≡ false
absent p low high [] n r h = refl
absent p low high (e ∷ es) n r h =
    let here : nat_eq e.0 n ≡ false = ne_eqb e.0 n (λ q. omega (arith, r.0, q)) in
    (λ i. (here i && p e.1) || absent p (suc e.0) high es n r.2 (omega (arith, r.0)) i)

pub settle : {D : Type 0} (p : D → Bool) (low high : ℕ) (list : List (ℕ × D)) (n : ℕ) → Rises low high (map (λ e. e.0) list) → passes p list n ≡ verdict p (doc_of list n)
settle p low high [] n r = refl
settle p low high (e ∷ es) n r =
    elim (nat_eq e.0 n) as (λ b. nat_eq e.0 n ≡ b → ((b && p e.1) || passes p es n) ≡ verdict p (cond b (Some e.1) (doc_of es n))) [
      | true ↦ λ q. ap (λ b. p e.1 || b) (absent p (suc e.0) high es n r.2 (omega (arith, eqb-true e.0 n q))) ∙ or_false (p e.1)
      | false ↦ λ q. settle p (suc e.0) high es n r.2
    ] refl

-- a number is in the set where its document passes
pub at : (p : Document → Bool) (v : Numbered) → IsNumbered v → (n : ℕ) → contains (found p v) n ≡ verdict p (doc_of v.list n)
at p v sound n = contains_found p v n ∙ settle p 0 v.size v.list n sound.rising

verdict_and : (p q : Document → Bool) (o : Option Document) → (verdict p o && verdict q o) ≡ verdict (λ d. p d && q d) o
verdict_and p q None = refl
verdict_and p q (Some d) = refl

verdict_or : (p q : Document → Bool) (o : Option Document) → (verdict p o || verdict q o) ≡ verdict (λ d. p d || q d) o
verdict_or p q None = refl
verdict_or p q (Some d) = refl

verdict_minus : (p q : Document → Bool) (o : Option Document) → (verdict p o && not (verdict q o)) ≡ verdict (λ d. p d && not (q d)) o
verdict_minus p q None = refl
verdict_minus p q (Some d) = refl

pub found_and : (p q : Document → Bool) (v : Numbered) → IsNumbered v → intersection (found p v) (found q v) ≡ found (λ d. p d && q d) v
found_and p q v sound = same_set nat_cmp_total nat_cmp-IsAntisymmetric _ _ (λ n.
    contains-intersection nat_cmp_total (found p v) (found q v) n ∙ (λ i. at p v sound n i && at q v sound n i) ∙ verdict_and p q (doc_of v.list n) ∙ sym (at (λ d. p d && q d) v sound n))

pub found_or : (p q : Document → Bool) (v : Numbered) → IsNumbered v → union (found p v) (found q v) ≡ found (λ d. p d || q d) v
found_or p q v sound = same_set nat_cmp_total nat_cmp-IsAntisymmetric _ _ (λ n.
    contains-union nat_cmp_total (found p v) (found q v) n ∙ (λ i. at p v sound n i || at q v sound n i) ∙ verdict_or p q (doc_of v.list n) ∙ sym (at (λ d. p d || q d) v sound n))

pub found_minus : (p q : Document → Bool) (v : Numbered) → IsNumbered v → difference (found p v) (found q v) ≡ found (λ d. p d && not (q d)) v
found_minus p q v sound = same_set nat_cmp_total nat_cmp-IsAntisymmetric _ _ (λ n.
    contains-difference nat_cmp_total (found p v) (found q v) n ∙ (λ i. at p v sound n i && not (at q v sound n i)) ∙ verdict_minus p q (doc_of v.list n) ∙ sym (at (λ d. p d && not (q d)) v sound n))

all_pass : (list : List (ℕ × Document)) → filter (λ e. true) list ≡ list
all_pass [] = refl
all_pass (e ∷ es) = ap (λ xs. e ∷ xs) (all_pass es)

none_pass : (list : List (ℕ × Document)) → filter (λ e. false) list ≡ []
none_pass [] = refl
none_pass (e ∷ es) = none_pass es

-- all live documents
pub found_all : (v : Numbered) → from_list (numbers v) ≡ found (λ d. true) v
unfolding found
found_all v = sym (ap (λ list. from_list (map (λ e. e.0) list)) (all_pass v.list))

-- no document
pub found_none : (v : Numbered) → empty ≡ found (λ d. false) v
unfolding found
found_none v = sym (ap (λ list. from_list {R = nat_cmp} (map (λ e. e.0) list)) (none_pass v.list))

pub found_alike : (p q : Document → Bool) (v : Numbered) → ((d : Document) → p d ≡ q d) → found p v ≡ found q v
found_alike p q v same = λ i. found (λ d. same d i) v

-- ---- many sets

any_map : {A B : Type 0} (p : B → Bool) (f : A → B) (xs : List A) → list_any p (map f xs) ≡ list_any (λ x. p (f x)) xs
any_map p f [] = refl
any_map p f (x ∷ xs) = ap (λ b. p (f x) || b) (any_map p f xs)

all_map : {A B : Type 0} (p : B → Bool) (f : A → B) (xs : List A) → list_all p (map f xs) ≡ list_all (λ x. p (f x)) xs
all_map p f [] = refl
all_map p f (x ∷ xs) = ap (λ b. p (f x) && b) (all_map p f xs)

none_any : {A : Type 0} (xs : List A) → list_any (λ x. false) xs ≡ false
none_any [] = refl
none_any (x ∷ xs) = none_any xs

verdict_any : {Q : Type 0} (f : Q → Document → Bool) (qs : List Q) (o : Option Document) → list_any (λ q. verdict (f q) o) qs ≡ verdict (λ d. list_any (λ q. f q d) qs) o
verdict_any f qs None = none_any qs
verdict_any f qs (Some d) = refl

verdict_all : {Q : Type 0} (f : Q → Document → Bool) (qs : List Q) (o : Option Document) → 0 < length qs → list_all (λ q. verdict (f q) o) qs ≡ verdict (λ d. list_all (λ q. f q d) qs) o
verdict_all f [] o h = absurd (omega (arith, h))
verdict_all f (q ∷ qs) None h = refl
verdict_all f (q ∷ qs) (Some d) h = refl

pub found_some : {Q : Type 0} (f : Q → Document → Bool) (qs : List Q) (v : Numbered) (sets : List Numbers) (s : Numbers) → IsNumbered v → sets ≡ map (λ q. found (f q) v) qs → IsUnion sets s → s ≡ found (λ d. list_any (λ q. f q d) qs) v
found_some f qs v sets s sound are is = same_set nat_cmp_total nat_cmp-IsAntisymmetric _ _ (λ n.
    is.members n
    ∙ ap (list_any (λ t. contains t n)) are
    ∙ any_map (λ t. contains t n) (λ q. found (f q) v) qs
    ∙ (λ i. list_any (λ q. at (f q) v sound n i) qs)
    ∙ verdict_any f qs (doc_of v.list n)
    ∙ sym (at (λ d. list_any (λ q. f q d) qs) v sound n))

pub found_every : {Q : Type 0} (f : Q → Document → Bool) (qs : List Q) (v : Numbered) (sets : List Numbers) (s : Numbers) → 0 < length qs → IsNumbered v → sets ≡ map (λ q. found (f q) v) qs → IsCommon sets s → s ≡ found (λ d. list_all (λ q. f q d) qs) v
found_every f qs v sets s some sound are is = same_set nat_cmp_total nat_cmp-IsAntisymmetric _ _ (λ n.
    is.members n
    ∙ ap (list_all (λ t. contains t n)) are
    ∙ all_map (λ t. contains t n) (λ q. found (f q) v) qs
    ∙ (λ i. list_all (λ q. at (f q) v sound n i) qs)
    ∙ verdict_all f qs (doc_of v.list n) some
    ∙ sym (at (λ d. list_all (λ q. f q d) qs) v sound n))
