-- A walk along two ascending lists, which takes the numbers of both.
use Rattle.std.proofs.Common.{◌≡◌, ℕ, suc, ◌+◌, ◌-◌, ◌<◌, ◌≤◌, min, Bool, true, false, not, ◌&&◌, ◌||◌, eqb, List, [], ◌∷◌, ◌++◌, slice_get, Some, None, refl, sym, ap, subst, ◌∙◌, inl, inr, ◌⊎◌, append-nil, append_assoc, arith}
use Rattle.std.proofs.lemmas.Bool.{eq-eqb, ne_eqb, eqb-true, cases_order, cases_lt, or_right, or_left}
use Rattle.doc_sets.specs.Sets.{is_in, Rises}
use Rattle.doc_sets.specs.declared.TheConstants.{MAX_DOCS}
use Rattle.doc_sets.proofs.Rising.{end_of, end_of-push, Rises-push, Rises-append, Rises-lower, is_in-append, is_in-below}

-- the numbers merged so far, and what is left of both lists
pub record Merging (left right merged left_rest right_rest : List ℕ) : Type 0 where
  pub rises : Rises 0 MAX_DOCS merged
  pub left_rises : Rises (end_of 0 merged) MAX_DOCS left_rest
  pub right_rises : Rises (end_of 0 merged) MAX_DOCS right_rest
  pub same : (n : ℕ) → (is_in merged n || (is_in left_rest n || is_in right_rest n)) ≡ (is_in left n || is_in right n)

-- the first of a list
pub first_is : (low high x : ℕ) (xs : List ℕ) → Rises low high xs → Some x ≡ slice_get xs 0 → (low ≤ x) × (x < high) × Rises x high xs × (is_in xs x ≡ true)
first_is low high x [] r e = absurd (cc)
first_is low high x (y ∷ xs) r e =
    let same : x ≡ y = cc in
    let here : Rises x high (y ∷ xs) = (omega arith, r.1, r.2) in
    let below : low ≤ y = r.0 in
    let above : y < high = r.1 in
    (omega arith, omega arith, here, rw (eq-eqb y x (sym same)))

-- what is left of a list without its least number, if it has that
past : (least high : ℕ) (rest next : List ℕ) → Rises least high rest → Rises (suc least) high next → ((n : ℕ) → suc least ≤ n → is_in next n ≡ is_in rest n) → (n : ℕ) → is_in next n ≡ (is_in rest n && not (eqb least n))
past least high rest next r s same n =
    elim (cases_order least n) [
      | inl e ↦ rw (eq-eqb least n e) (is_in-below (suc least) high next n s (omega arith) ∙ sym (and-false (is_in rest n)))
      | inr (inl less) ↦ rw (ne_eqb least n (λ e. omega arith)) (same n less ∙ sym (and-true (is_in rest n)))
      | inr (inr more) ↦ rw (ne_eqb least n (λ e. omega arith)) (is_in-below (suc least) high next n s (omega arith) ∙ sym (is_in-below least high rest n r more) ∙ sym (and-true (is_in rest n)))
    ]
  where
    and-false : (b : Bool) → (b && false) ≡ false
    and-false true = refl
    and-false false = refl

    and-true : (b : Bool) → (b && true) ≡ b
    and-true true = refl
    and-true false = refl

merge_bits : (m l r l' r' e : Bool) → l' ≡ (l && not e) → r' ≡ (r && not e) → (e ≡ true → (l || r) ≡ true) → ((m || (e || false)) || (l' || r')) ≡ (m || (l || r))
merge_bits true l r l' r' e p q h = refl
merge_bits false l r l' r' true p q h = sym (h refl)
merge_bits false true r l' r' false p q h = rw p
merge_bits false false true l' r' false p q h = rw (p, q)
merge_bits false false false l' r' false p q h = rw (p, q)

pub merging_more : {left right merged left_rest right_rest : List ℕ} (first second least : ℕ) (more left_next right_next : List ℕ) → Merging left right merged left_rest right_rest → Some first ≡ slice_get left_rest 0 → Some second ≡ slice_get right_rest 0 → least ≡ min first second → more ≡ merged ++ least ∷ [] → Rises (least + 1) MAX_DOCS left_next → Rises (least + 1) MAX_DOCS right_next → ((n : ℕ) → least + 1 ≤ n → is_in left_next n ≡ is_in left_rest n) → ((n : ℕ) → least + 1 ≤ n → is_in right_next n ≡ is_in right_rest n) → Merging left right more left_next right_next × (MAX_DOCS - end_of 0 more < MAX_DOCS - end_of 0 merged)
merging_more {left} {right} {merged} {left_rest} {right_rest} first second least more left_next right_next m f s lowest pushed rl rr sl sr =
    let a = first_is (end_of 0 merged) MAX_DOCS first left_rest m.left_rises f in
    let b = first_is (end_of 0 merged) MAX_DOCS second right_rest m.right_rises s in
    let from : end_of 0 merged ≤ least = omega arith in
    let within : least < MAX_DOCS = omega arith in
    let left_from : Rises least MAX_DOCS left_rest = Rises-lower least first MAX_DOCS left_rest (omega arith) a.2 in
    let right_from : Rises least MAX_DOCS right_rest = Rises-lower least second MAX_DOCS right_rest (omega arith) b.2 in
    let end : end_of 0 more ≡ suc least = ap (end_of 0) pushed ∙ end_of-push 0 merged least in
    let one : least + 1 ≡ suc least = omega arith in
    let left_past : Rises (suc least) MAX_DOCS left_next = subst (λ (k : ℕ). Rises k MAX_DOCS left_next) one rl in
    let right_past : Rises (suc least) MAX_DOCS right_next = subst (λ (k : ℕ). Rises k MAX_DOCS right_next) one rr in
    let has_least : (n : ℕ) → eqb least n ≡ true → (is_in left_rest n || is_in right_rest n) ≡ true = λ n e.
    elim (cases_lt second first) [
      | inl less ↦ or_right (is_in left_rest n) (is_in right_rest n) (ap (is_in right_rest) (sym (eqb-true least n e) ∙ omega arith) ∙ b.3)
      | inr more ↦ or_left (is_in left_rest n) (is_in right_rest n) (ap (is_in left_rest) (sym (eqb-true least n e) ∙ omega arith) ∙ a.3)
    ] in (
      record {
        rises = subst (Rises 0 MAX_DOCS) (sym pushed) (Rises-push 0 MAX_DOCS merged least m.rises from within);
        left_rises = rw end left_past;
        right_rises = rw end right_past;
        same = λ n.
            ap (λ xs. is_in xs n || (is_in left_next n || is_in right_next n)) pushed
            ∙ ap (λ b. b || (is_in left_next n || is_in right_next n)) (is_in-append merged (least ∷ []) n)
            ∙ merge_bits (is_in merged n) (is_in left_rest n) (is_in right_rest n) (is_in left_next n) (is_in right_next n) (eqb least n)
            (past least MAX_DOCS left_rest left_next left_from left_past (λ k p. sl k (omega arith)) n)
            (past least MAX_DOCS right_rest right_next right_from right_past (λ k p. sr k (omega arith)) n)
            (has_least n)
            ∙ m.same n;
      },
      omega (arith, end),
    )

-- at the end of one list, what is left of the other follows
pub merging_all : {left right merged left_rest right_rest : List ℕ} (v : List ℕ) → Merging left right merged left_rest right_rest → (left_rest ≡ []) ⊎ (right_rest ≡ []) → v ≡ (merged ++ left_rest) ++ right_rest → Rises 0 MAX_DOCS v × ((n : ℕ) → is_in v n ≡ (is_in left n || is_in right n))
merging_all {left} {right} {merged} {left_rest} {right_rest} v m one_ends e = (
  subst (Rises 0 MAX_DOCS) (sym e) (elim one_ends [
    | inl no_left ↦ rw (no_left, append-nil) (Rises-append 0 MAX_DOCS merged right_rest m.rises m.right_rises)
    | inr no_right ↦ rw (no_right, append-nil) (Rises-append 0 MAX_DOCS merged left_rest m.rises m.left_rises)
  ]),
  λ n. ap (λ xs. is_in xs n) (e ∙ append_assoc merged left_rest right_rest) ∙ is_in-append merged (left_rest ++ right_rest) n ∙ ap (λ b. is_in merged n || b) (is_in-append left_rest right_rest n) ∙ m.same n,
)

pub empty_is : (xs : List ℕ) → None ≡ slice_get xs 0 → xs ≡ []
empty_is [] e = refl
empty_is (x ∷ xs) e = absurd (cc)
