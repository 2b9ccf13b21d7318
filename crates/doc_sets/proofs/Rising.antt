-- Facts on lists that strictly ascend, and on what they have.
use Rattle.std.proofs.Common.{◌≡◌, ℕ, zero, suc, ◌+◌, ◌-◌, ◌<◌, ◌≤◌, Bool, true, false, cond, ◌&&◌, ◌||◌, eqb, List, [], ◌∷◌, ◌++◌, length, get_or, take, slice_get, filter, Result, Ok, Err, is_ok, MatchResult, All, inl, inr, ◌⊎◌, Some, refl, sym, ap, subst, ◌∙◌, arith}
use Rattle.std.specs.List.{range_with_len}
use Rattle.std.specs.List.Sorted.{IsStrictlyIncreasing}
use Rattle.std.proofs.lemmas.Bool.{eq-eqb, ne_eqb, eqb-true, cases_order, cases_lt, false≢true, or_right}
use Rattle.std.proofs.lemmas.List.{take_more}
use Rattle.std.proofs.lemmas.List.Elements.{All-head, All-tail}
use Rattle.doc_sets.specs.Sets.{is_in, Rises}

-- the least number that a list could go on with
abbrev pub end_of : ℕ → List ℕ → ℕ
end_of low [] = low
end_of low (x ∷ xs) = end_of (suc x) xs

-- what is below the first of a list isn't in it
pub is_in-below : (low high : ℕ) (xs : List ℕ) (n : ℕ) → Rises low high xs → n < low → is_in xs n ≡ false
is_in-below low high [] n r p = refl
is_in-below low high (x ∷ xs) n r p =
    let below : low ≤ x = r.0 in
    rw (ne_eqb x n (λ e. omega arith)) (is_in-below (suc x) high xs n r.2 (omega arith))

-- what is in the list lies in its range
pub is_in-within : (low high : ℕ) (xs : List ℕ) (n : ℕ) → Rises low high xs → is_in xs n ≡ true → (low ≤ n) × (n < high)
is_in-within low high [] n r e = absurd (false≢true e)
is_in-within low high (x ∷ xs) n r e =
    let below : low ≤ x = r.0 in
    let above : x < high = r.1 in
    elim (cases_order x n) [
      | inl same ↦ (omega arith, omega arith)
      | inr (inl less) ↦
          let rest = is_in-within (suc x) high xs n r.2 (rw (ne_eqb x n (λ s. omega arith)) at e) in
          (omega arith, rest.1)
      | inr (inr more) ↦
          absurd (false≢true (sym (is_in-below (suc x) high xs n r.2 (omega arith)) ∙ (rw (ne_eqb x n (λ s. omega arith)) at e)))
    ]

pub Rises-lower : (lower low high : ℕ) (xs : List ℕ) → lower ≤ low → Rises low high xs → Rises lower high xs
Rises-lower lower low high [] p r = tt
Rises-lower lower low high (x ∷ xs) p r = let below : low ≤ x = r.0 in (omega arith, r.1, r.2)

pub Rises-filter : (p : ℕ → Bool) (low high : ℕ) (xs : List ℕ) → Rises low high xs → Rises low high (filter p xs)
Rises-filter p low high [] r = tt
Rises-filter p low high (x ∷ xs) r =
    elim (p x) as (λ b. Rises low high (cond b (x ∷ filter p xs) (filter p xs))) [
      | true ↦ (r.0, r.1, Rises-filter p (suc x) high xs r.2)
      | false ↦ let below : low ≤ x = r.0 in Rises-lower low (suc x) high (filter p xs) (omega arith) (Rises-filter p (suc x) high xs r.2)
    ]

is_in_filter_head : (b t : Bool) (x n : ℕ) (xs ys : List ℕ) → is_in ys n ≡ (is_in xs n && t) → (eqb x n ≡ true → b ≡ t) → is_in (cond b (x ∷ ys) ys) n ≡ (is_in (x ∷ xs) n && t)
is_in_filter_head b t x n xs ys e same =
    elim (eqb x n) as (λ q. eqb x n ≡ q → is_in (cond b (x ∷ ys) ys) n ≡ ((q || is_in xs n) && t)) [
      | true ↦ λ q. rw (same q) (elim t as (λ t. (is_in ys n ≡ (is_in xs n && t)) → is_in (cond t (x ∷ ys) ys) n ≡ t) [
        | true ↦ λ _. rw q
        | false ↦ λ h. h ∙ and_false (is_in xs n)
      ] e)
      | false ↦ λ q. elim b as (λ b. is_in (cond b (x ∷ ys) ys) n ≡ (is_in xs n && t)) [ true ↦ rw q e | false ↦ e ]
    ] refl
  where
    and_false : (a : Bool) → (a && false) ≡ false
    and_false true = refl
    and_false false = refl

pub is_in-filter : (p : ℕ → Bool) (xs : List ℕ) (n : ℕ) → is_in (filter p xs) n ≡ (is_in xs n && p n)
is_in-filter p [] n = refl
is_in-filter p (x ∷ xs) n = is_in_filter_head (p x) (p n) x n xs (filter p xs) (is_in-filter p xs n) (λ e. ap p (eqb-true x n e))

apart : (x n : ℕ) → (x < n) ⊎ (n < x) → x ≡ n → ⊥
apart x n (inl p) e = omega arith
apart x n (inr p) e = omega arith

Rises-head : (low high x : ℕ) (xs : List ℕ) → Rises low high (x ∷ xs) → Rises x high (x ∷ xs)
Rises-head low high x xs r = (omega arith, r.1, r.2)

has_head : (x : ℕ) (xs : List ℕ) → is_in (x ∷ xs) x ≡ true
has_head x xs = rw (eq-eqb x x refl)

-- under equal heads, the rests have the same numbers
same_rests : (x y high : ℕ) (xs ys : List ℕ) → x ≡ y → Rises (suc x) high xs → Rises (suc y) high ys → ((n : ℕ) → is_in (x ∷ xs) n ≡ is_in (y ∷ ys) n) → (n : ℕ) → is_in xs n ≡ is_in ys n
same_rests x y high xs ys e r s same n =
    elim (cases_order x n) [
      | inl q ↦ is_in-below (suc x) high xs n r (omega arith) ∙ sym (is_in-below (suc y) high ys n s (omega arith))
      | inr q ↦
          let x_not : eqb x n ≡ false = ne_eqb x n (apart x n q) in
          let y_not : eqb y n ≡ false = ne_eqb y n (λ h. apart x n q (e ∙ h)) in
          sym (ap (λ b. b || is_in xs n) x_not) ∙ same n ∙ ap (λ b. b || is_in ys n) y_not
    ]

-- two such lists with the same numbers are equal
pub same_rising : (low high : ℕ) (xs ys : List ℕ) → Rises low high xs → Rises low high ys → ((n : ℕ) → is_in xs n ≡ is_in ys n) → xs ≡ ys
same_rising low high [] [] r s same = refl
same_rising low high [] (y ∷ ys) r s same = absurd (false≢true (same y ∙ has_head y ys))
same_rising low high (x ∷ xs) [] r s same = absurd (false≢true (sym (same x) ∙ has_head x xs))
same_rising low high (x ∷ xs) (y ∷ ys) r s same =
    elim (cases_order x y) [
      | inl e ↦
          let P : ℕ → Type 0 = λ v. Rises (suc v) high ys in
          let rests = same_rising (suc x) high xs ys r.2 (subst P (sym e) s.2) (same_rests x y high xs ys e r.2 s.2 same) in
          λ i. e i ∷ rests i
      | inr (inl less) ↦ absurd (false≢true (sym (is_in-below y high (y ∷ ys) x (Rises-head low high y ys s) less) ∙ sym (same x) ∙ has_head x xs))
      | inr (inr more) ↦ absurd (false≢true (sym (is_in-below x high (x ∷ xs) y (Rises-head low high x xs r) more) ∙ same y ∙ has_head y ys))
    ]

or-false : (b : Bool) → (b || false) ≡ b
or-false true = refl
or-false false = refl

-- the first of the list is its least
pub is_in-first : (low high v : ℕ) (xs : List ℕ) → Rises low high xs → Some v ≡ slice_get xs 0 → eqb v low ≡ is_in xs low
is_in-first low high v [] r e = absurd (cc)
is_in-first low high v (x ∷ xs) r e =
    let same : v ≡ x = cc in
    let below : low ≤ x = r.0 in
    rw same (sym (ap (λ b. eqb x low || b) (is_in-below (suc x) high xs low r.2 (omega arith)) ∙ or-false (eqb x low)))

pub Rises-append : (low high : ℕ) (xs ys : List ℕ) → Rises low high xs → Rises (end_of low xs) high ys → Rises low high (xs ++ ys)
Rises-append low high [] ys r s = s
Rises-append low high (x ∷ xs) ys r s = (r.0, r.1, Rises-append (suc x) high xs ys r.2 s)

pub is_in-append : (xs ys : List ℕ) (n : ℕ) → is_in (xs ++ ys) n ≡ (is_in xs n || is_in ys n)
is_in-append [] ys n = refl
is_in-append (x ∷ xs) ys n = ap (λ b. eqb x n || b) (is_in-append xs ys n) ∙ or_assoc (eqb x n) (is_in xs n) (is_in ys n)
  where
    or_assoc : (a b c : Bool) → (a || (b || c)) ≡ ((a || b) || c)
    or_assoc true b c = refl
    or_assoc false b c = refl

pub end_of-push : (low : ℕ) (xs : List ℕ) (x : ℕ) → end_of low (xs ++ x ∷ []) ≡ suc x
end_of-push low [] x = refl
end_of-push low (y ∷ xs) x = end_of-push (suc y) xs x

pub Rises-push : (low high : ℕ) (xs : List ℕ) (x : ℕ) → Rises low high xs → end_of low xs ≤ x → x < high → Rises low high (xs ++ x ∷ [])
Rises-push low high xs x r p q = Rises-append low high xs (x ∷ []) r (p, q, tt)

-- as many numbers as there is room for
pub length-rising : (low high : ℕ) (xs : List ℕ) → low ≤ high → Rises low high xs → low + length xs ≤ high
length-rising low high [] p r = omega arith
length-rising low high (x ∷ xs) p r = let below : low ≤ x = r.0 in let above : x < high = r.1 in omega (arith, length-rising (suc x) high xs (omega arith) r.2)

pub Rises-range : (low n : ℕ) → Rises low (low + n) (range_with_len low n)
Rises-range low zero = tt
Rises-range low (suc n) =
    let P : ℕ → Type 0 = λ a. Rises a (low + suc n) (range_with_len (low + 1) n) in
    let Q : ℕ → Type 0 = λ a. Rises (low + 1) a (range_with_len (low + 1) n) in
    let to_end : (low + 1) + n ≡ low + suc n = omega arith in
    let from_next : low + 1 ≡ suc low = omega arith in
    (omega arith, omega arith, subst P from_next (subst Q to_end (Rises-range (low + 1) n)))

pub is_in-range : (low n k : ℕ) → low ≤ k → k < low + n → is_in (range_with_len low n) k ≡ true
is_in-range low zero k p q = absurd (omega arith)
is_in-range low (suc n) k p q =
    elim (cases_order low k) [
      | inl e ↦ rw (eq-eqb low k e)
      | inr (inl less) ↦ or_right (eqb low k) _ (is_in-range (low + 1) n k (omega arith) (omega arith))
      | inr (inr more) ↦ absurd (omega arith)
    ]

-- the numbers of a range that pass a test, which no other number passes
pub is_in-filter-range : (p : ℕ → Bool) (n k : ℕ) → (p k ≡ true → k < n) → is_in (filter p (range_with_len 0 n)) k ≡ p k
is_in-filter-range p n k within = is_in-filter p (range_with_len 0 n) k ∙
    elim (p k) as (λ b. p k ≡ b → (is_in (range_with_len 0 n) k && b) ≡ b) [
      | true ↦ λ e. ap (λ b. b && true) (is_in-range 0 n k (omega arith) (let small = within e in omega arith))
      | false ↦ λ _. and-false (is_in (range_with_len 0 n) k)
    ] refl
  where
    and-false : (b : Bool) → (b && false) ≡ false
    and-false true = refl
    and-false false = refl

pub Rises-filter-range : (p : ℕ → Bool) (n : ℕ) → Rises 0 n (filter p (range_with_len 0 n))
Rises-filter-range p n = let Q : ℕ → Type 0 = λ a. Rises 0 a (filter p (range_with_len 0 n)) in subst Q (omega arith) (Rises-filter p 0 (0 + n) (range_with_len 0 n) (Rises-range 0 n))

pub Rises-higher : (low high higher : ℕ) (xs : List ℕ) → high ≤ higher → Rises low high xs → Rises low higher xs
Rises-higher low high higher [] p r = tt
Rises-higher low high higher (x ∷ xs) p r = let above : x < high = r.1 in (r.0, omega arith, Rises-higher (suc x) high higher xs p r.2)

-- a list that rises by places rises by recursion
pub Rises-from_increasing : (low high : ℕ) (xs : List ℕ) → IsStrictlyIncreasing xs → All (λ n. n < high) xs → (0 < length xs → low ≤ get_or xs 0 0) → Rises low high xs
Rises-from_increasing low high [] up below from = tt
Rises-from_increasing low high (x ∷ xs) up below from = (
  from (omega arith),
  All-head (λ n. n < high) x xs below,
  Rises-from_increasing (suc x) high xs
      (λ k p.
      let P : ℕ → Type 0 = λ j. get_or (x ∷ xs) (suc k) 0 < get_or (x ∷ xs) j 0 in
      let next : suc k + 1 ≡ suc (k + 1) = omega arith in
      subst P next (up (suc k) (omega arith)))
      (All-tail (λ n. n < high) x xs below)
      (λ p. let P : ℕ → Type 0 = λ j. x < get_or (x ∷ xs) j 0 in
      let one : 0 + 1 ≡ suc 0 = omega arith in
      let next : x < get_or xs 0 0 = subst P one (up 0 (omega arith)) in
      omega arith),
)

pub is_in-at : (xs : List ℕ) (i n : ℕ) → i < length xs → get_or xs i 0 ≡ n → is_in xs n ≡ true
is_in-at [] i n p e = absurd (omega arith)
is_in-at (x ∷ xs) zero n p e = rw (eq-eqb x n e)
is_in-at (x ∷ xs) (suc i) n p e = or_right (eqb x n) (is_in xs n) (is_in-at xs i n (omega arith) e)

pub is_in-nowhere : (xs : List ℕ) (n : ℕ) → ((k : ℕ) → k < length xs → get_or xs k 0 ≡ n → ⊥) → is_in xs n ≡ false
is_in-nowhere [] n none = refl
is_in-nowhere (x ∷ xs) n none = rw (ne_eqb x n (none 0 (omega arith))) (is_in-nowhere xs n (λ k p. none (suc k) (omega arith)))

pub Rises-at : (low high i : ℕ) (xs : List ℕ) → Rises low high xs → i < length xs → (low ≤ get_or xs i 0) × (get_or xs i 0 < high)
Rises-at low high i [] r p = absurd (omega arith)
Rises-at low high zero (x ∷ xs) r p = (r.0, r.1)
Rises-at low high (suc i) (x ∷ xs) r p =
    let later = Rises-at (suc x) high i xs r.2 (omega arith) in
    let below : low ≤ x = r.0 in
    (omega arith, later.1)

-- an earlier number is less than a later one
pub Rises-apart : (low high i j : ℕ) (xs : List ℕ) → Rises low high xs → i < j → j < length xs → get_or xs i 0 < get_or xs j 0
Rises-apart low high i j [] r p q = absurd (omega arith)
Rises-apart low high i zero (x ∷ xs) r p q = absurd (omega arith)
Rises-apart low high zero (suc j) (x ∷ xs) r p q = (Rises-at (suc x) high j xs r.2 (omega arith)).0
Rises-apart low high (suc i) (suc j) (x ∷ xs) r p q = Rises-apart (suc x) high i j xs r.2 (omega arith) (omega arith)

pub Rises-not_falling : (low high : ℕ) (xs : List ℕ) → Rises low high xs → (i j : ℕ) → i ≤ j → j < length xs → get_or xs i 0 ≤ get_or xs j 0
Rises-not_falling low high xs r i j p q =
    elim (cases_order i j) [
      | inl e ↦ let same : get_or xs i 0 ≡ get_or xs j 0 = ap (λ k. get_or xs k 0) e in omega arith
      | inr (inl less) ↦ let apart = Rises-apart low high i j xs r less q in omega arith
      | inr (inr more) ↦ absurd (omega arith)
    ]

-- what a binary search answered says whether the number is there
pub is_in-searched : (xs : List ℕ) (n : ℕ) (r : Result ℕ ℕ) → MatchResult r (λ i. (i < length xs) × (get_or xs i 0 ≡ n)) (λ i. (i ≤ length xs) × ((k : ℕ) → k < i → get_or xs k 0 < n) × ((k : ℕ) → i ≤ k → k < length xs → n < get_or xs k 0)) → is_ok r ≡ is_in xs n
is_in-searched xs n (Ok i) found = sym (is_in-at xs i n found.0 found.1)
is_in-searched xs n (Err i) none =
    sym (is_in-nowhere xs n (λ k p e. elim (cases_lt k i) [
      | inl before ↦ let less = none.1 k before in omega arith
      | inr after ↦ let more = none.2 k after p in omega arith
    ]))

-- a walk along the list goes past a first number that is too small
pub past_first : (least high first : ℕ) (rest others numbers : List ℕ) → rest ≡ first ∷ others → first < least → Rises 0 high rest → ((n : ℕ) → least ≤ n → is_in rest n ≡ is_in numbers n) → Rises 0 high others × ((n : ℕ) → least ≤ n → is_in others n ≡ is_in numbers n)
past_first least high first rest others numbers e p r same =
    let cut : Rises 0 high (first ∷ others) = subst (Rises 0 high) e r in (
      Rises-lower 0 (suc first) high others (omega arith) cut.2,
      λ n q. sym (ap (λ b. b || is_in others n) (ne_eqb first n (λ h. omega arith))) ∙ sym (ap (λ xs. is_in xs n) e) ∙ same n q,
    )

pub slice_get-is : (xs : List ℕ) (i v : ℕ) → Some v ≡ slice_get xs i → (i < length xs) × (get_or xs i 0 ≡ v)
slice_get-is [] i v e = absurd (cc)
slice_get-is (x ∷ xs) zero v e = (omega arith, cc)
slice_get-is (x ∷ xs) (suc i) v e = let later = slice_get-is xs i v e in (omega arith, later.1)

-- where a number of the list stands
pub place_of : (xs : List ℕ) (n : ℕ) → is_in xs n ≡ true → (k : ℕ) × (k < length xs) × (get_or xs k 0 ≡ n)
place_of [] n e = absurd (false≢true e)
place_of (x ∷ xs) n e =
    elim (cases_order x n) [
      | inl same ↦ (0, omega arith, same)
      | inr other ↦
          let later = place_of xs n (rw (ne_eqb x n (apart x n other)) at e) in
          (suc later.0, omega arith, later.2)
    ]

-- none is above the last
pub is_in-last : (low high v n : ℕ) (xs : List ℕ) → Rises low high xs → Some v ≡ slice_get xs (length xs - 1) → is_in xs n ≡ true → n ≤ v
is_in-last low high v n xs r last e =
    let at = place_of xs n e in
    let end = slice_get-is xs (length xs - 1) v last in
    let below = Rises-not_falling low high xs r at.0 (length xs - 1) (omega arith) end.0 in
    omega arith

pub last-within : (low high v : ℕ) (xs : List ℕ) → Rises low high xs → Some v ≡ slice_get xs (length xs - 1) → v < high
last-within low high v xs r last =
    let end = slice_get-is xs (length xs - 1) v last in
    let within = Rises-at low high (length xs - 1) xs r end.0 in
    omega arith

-- one more number of a list that is tested from its front
pub tested_more : (high least i : ℕ) (xs : List ℕ) → i < length xs → Rises 0 high (take i xs) → end_of 0 (take i xs) ≡ least → least ≤ get_or xs i 0 → get_or xs i 0 < high → Rises 0 high (take (i + 1) xs) × (end_of 0 (take (i + 1) xs) ≡ get_or xs i 0 + 1)
tested_more high least i xs within r e p q =
    let more = take_more xs i 0 within in
    let one : suc (get_or xs i 0) ≡ get_or xs i 0 + 1 = omega arith in (
      subst (Rises 0 high) (sym more) (Rises-push 0 high (take i xs) (get_or xs i 0) r (omega arith) q),
      ap (end_of 0) more ∙ end_of-push 0 (take i xs) (get_or xs i 0) ∙ one,
    )
