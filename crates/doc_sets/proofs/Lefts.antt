-- What is left of a walk along a row.
use Rattle.std.proofs.Common.{◌≡◌, ℕ, suc, ◌+◌, ◌-◌, ◌*◌, ◌/◌, ◌%◌, ◌^◌, ◌<◌, ◌≤◌, true, ◌||◌, List, [], ◌∷◌, map, length, get_or, nat_eq, bit_and, w64, inl, inr, refl, sym, ap, subst, ◌∙◌, arith}
use Rattle.std.specs.Int.{bit_at, trailing_zeros}
use Rattle.std.proofs.lemmas.Nat.Bits.{bit_at-trailing_zeros, bit_at-zero}
use Rattle.std.proofs.lemmas.Bool.{cases_lt, cases_order, cases_eq, eq-eqb, ne_eqb, both_ways}
use Rattle.doc_sets.specs.Sets.{is_in, Rises}
use Rattle.doc_sets.specs.BitRows.{has_bit, numbers_of}
use Rattle.doc_sets.specs.Left.{numbers_left}
use Rattle.doc_sets.proofs.Bits.{has_bit-is, has_bit-past, is_in-numbers_of, Rises-numbers_of, numbers_of-same}
use Rattle.doc_sets.proofs.Rising.{Rises-lower, is_in-below}
use Rattle.doc_sets.proofs.Lowest.{LowestOne, cleared_low, cleared_high}

Rises-map : (k low high : ℕ) (xs : List ℕ) → Rises low high xs → Rises (k + low) (k + high) (map (λ n. k + n) xs)
Rises-map k low high [] r = tt
Rises-map k low high (x ∷ xs) r =
    let below : low ≤ x = r.0 in
    let above : x < high = r.1 in
    let up : k + suc x ≡ suc (k + x) = omega arith in
    (omega arith, omega arith, subst (λ (l : ℕ). Rises l (k + high) (map (λ n. k + n) xs)) up (Rises-map k (suc x) high xs r.2))

eqb_shift : (k x n : ℕ) → k ≤ n → nat_eq (k + x) n ≡ nat_eq x (n - k)
eqb_shift k x n p = elim (cases_eq x (n - k)) [
  | inl same ↦ eq-eqb (k + x) n (omega arith) ∙ sym (eq-eqb x (n - k) same)
  | inr other ↦ ne_eqb (k + x) n (λ e. other (omega arith)) ∙ sym (ne_eqb x (n - k) other)
]

is_in-map : (k n : ℕ) (xs : List ℕ) → k ≤ n → is_in (map (λ x. k + x) xs) n ≡ is_in xs (n - k)
is_in-map k n [] p = refl
is_in-map k n (x ∷ xs) p = (λ i. eqb_shift k x n p i || is_in-map k n xs p i)

-- an empty first word: the other words' numbers, 64 higher
numbers_of-empty_first : (ws : List ℕ) → numbers_of (0 ∷ ws) ≡ map (λ n. 64 + n) (numbers_of ws)
numbers_of-empty_first ws =
    numbers_of-same (64 + 64 * length ws) (0 ∷ ws) _ (omega arith)
    (Rises-lower 0 (64 + 0) (64 + 64 * length ws) (map (λ n. 64 + n) (numbers_of ws)) (omega arith) (Rises-map 64 0 (64 * length ws) (numbers_of ws) (Rises-numbers_of ws)))
    (λ n. elim (cases_lt n 64) [
      | inl first ↦
          let place : n / 64 ≡ 0 = omega arith in
          has_bit-is (0 ∷ ws) n ∙ ap (λ k. nat_eq (bit_at (get_or (0 ∷ ws) k 0) (n % 64)) 1) place ∙ ap (λ v. nat_eq v 1) (bit_at-zero (n % 64))
          ∙ sym (is_in-below (64 + 0) (64 + 64 * length ws) (map (λ n. 64 + n) (numbers_of ws)) n (Rises-map 64 0 (64 * length ws) (numbers_of ws) (Rises-numbers_of ws)) (omega arith))
      | inr later ↦
          let place : n / 64 ≡ suc ((n - 64) / 64) = omega arith in
          let bit : n % 64 ≡ (n - 64) % 64 = omega arith in
          has_bit-is (0 ∷ ws) n
          ∙ ap (λ k. nat_eq (bit_at (get_or (0 ∷ ws) k 0) (n % 64)) 1) place
          ∙ ap (λ k. nat_eq (bit_at (get_or ws ((n - 64) / 64) 0) k) 1) bit
          ∙ sym (is_in-map 64 n (numbers_of ws) later ∙ is_in-numbers_of ws (n - 64) ∙ has_bit-is ws (n - 64))
    ])

map_map : (j k : ℕ) (xs : List ℕ) → map (λ n. j + n) (map (λ n. k + n) xs) ≡ map (λ n. j + k + n) xs
map_map j k [] = refl
map_map j k (x ∷ xs) = let same : j + (k + x) ≡ j + k + x = omega arith in (λ i. same i ∷ map_map j k xs i)

-- past an empty word, the walk goes on at the next one
pub left_empty : (base word : ℕ) (words : List ℕ) → numbers_left base 0 (word ∷ words) ≡ numbers_left (base + 64) word words
unfolding numbers_left
left_empty base word words = ap (map (λ n. base + n)) (numbers_of-empty_first (word ∷ words)) ∙ map_map base 64 (numbers_of (word ∷ words))

pub left_none : (base : ℕ) → numbers_left base 0 [] ≡ []
unfolding numbers_left
left_none base = ap (map (λ n. base + n)) (numbers_of-empty_first [] ∙ ap (map (λ n. 64 + n)) (numbers_of-same 0 [] [] (omega arith) tt (λ n. has_bit-past [] n (omega arith))))

pub left_all : (word : ℕ) (words : List ℕ) → numbers_left 0 word words ≡ numbers_of (word ∷ words)
unfolding numbers_left
left_all word words = map_none (numbers_of (word ∷ words))
  where
    map_none : (xs : List ℕ) → map (λ n. 0 + n) xs ≡ xs
    map_none [] = refl
    map_none (x ∷ xs) = let same : 0 + x ≡ x = omega arith in (λ i. same i ∷ map_none xs i)

pub left_nothing : (words : List ℕ) → length words ≡ 0 → numbers_left 0 0 words ≡ numbers_of words
left_nothing [] e = left_none 0 ∙ sym (numbers_of-same 0 [] [] (omega arith) tt (λ n. has_bit-past [] n (omega arith)))
left_nothing (w ∷ words) e = absurd (omega arith)

Rises-raise : (low raised high : ℕ) (xs : List ℕ) → Rises low high xs → ((n : ℕ) → is_in xs n ≡ true → raised ≤ n) → Rises raised high xs
Rises-raise low raised high [] r from = tt
Rises-raise low raised high (x ∷ xs) r from = (from x (rw (eq-eqb x x refl) refl), r.1, r.2)

lowest_at : (w : ℕ) → 0 < w → w < 2 ^ 64 → LowestOne w (trailing_zeros w64 w)
lowest_at w p q = let found = bit_at-trailing_zeros w64 w p q in record { one = found.1; zeros = found.2 }

head_bit : (w : ℕ) (ws : List ℕ) (n : ℕ) → n < 64 → has_bit (w ∷ ws) n ≡ nat_eq (bit_at w n) 1
head_bit w ws n p =
    let place : n / 64 ≡ 0 = omega arith in
    let bit : n % 64 ≡ n = omega arith in
    has_bit-is (w ∷ ws) n ∙ ap (λ k. nat_eq (bit_at (get_or (w ∷ ws) k 0) (n % 64)) 1) place ∙ ap (λ k. nat_eq (bit_at w k) 1) bit

tail_bit : (w v : ℕ) (ws : List ℕ) (n : ℕ) → 64 ≤ n → has_bit (w ∷ ws) n ≡ has_bit (v ∷ ws) n
tail_bit w v ws n p =
    let place : n / 64 ≡ suc (n / 64 - 1) = omega arith in
    has_bit-is (w ∷ ws) n ∙ ap (λ k. nat_eq (bit_at (get_or (w ∷ ws) k 0) (n % 64)) 1) place
    ∙ sym (has_bit-is (v ∷ ws) n ∙ ap (λ k. nat_eq (bit_at (get_or (v ∷ ws) k 0) (n % 64)) 1) place)

-- the row's bits are those of the lowest one and of the rest
split_bit : (w t : ℕ) (ws : List ℕ) (n : ℕ) → t < 64 → LowestOne w t → has_bit (w ∷ ws) n ≡ (nat_eq t n || has_bit (bit_and w (w - 1) ∷ ws) n)
split_bit w t ws n small low =
    let cut = bit_and w (w - 1) in
    elim (cases_lt n 64) [
      | inr later ↦ tail_bit w cut ws n later ∙ sym (ap (λ b. b || has_bit (cut ∷ ws) n) (ne_eqb t n (λ e. omega arith)))
      | inl first ↦ head_bit w ws n first ∙ elim (cases_order n t) [
        | inl here ↦ ap (λ k. nat_eq (bit_at w k) 1) here ∙ ap (λ v. nat_eq v 1) low.one ∙ sym (ap (λ b. b || has_bit (cut ∷ ws) n) (eq-eqb t n (sym here)))
        | inr (inl below) ↦
            ap (λ v. nat_eq v 1) (low.zeros n below)
            ∙ sym (ap (λ b. b || has_bit (cut ∷ ws) n) (ne_eqb t n (λ e. omega arith)) ∙ head_bit cut ws n first ∙ ap (λ v. nat_eq v 1) (cleared_low w t n low (omega arith)))
        | inr (inr above) ↦
            ap (λ v. nat_eq v 1) (sym (cleared_high w t n low above)) ∙ sym (head_bit cut ws n first)
            ∙ sym (ap (λ b. b || has_bit (cut ∷ ws) n) (ne_eqb t n (λ e. omega arith)))
      ]
    ]

above_lowest : (w t : ℕ) (ws : List ℕ) (n : ℕ) → t < 64 → LowestOne w t → has_bit (bit_and w (w - 1) ∷ ws) n ≡ true → suc t ≤ n
above_lowest w t ws n small low has =
    elim (cases_lt t n) [
      | inl above ↦ above
      | inr below ↦ absurd (both_ways _ (head_bit (bit_and w (w - 1)) ws n (omega arith) ∙ ap (λ v. nat_eq v 1) (cleared_low w t n low below)) has)
    ]

numbers_of-next : (w t : ℕ) (ws : List ℕ) → t < 64 → LowestOne w t → numbers_of (w ∷ ws) ≡ t ∷ numbers_of (bit_and w (w - 1) ∷ ws)
numbers_of-next w t ws small low =
    let cut = bit_and w (w - 1) in
    numbers_of-same (64 * length (cut ∷ ws)) (w ∷ ws) (t ∷ numbers_of (cut ∷ ws)) (omega arith)
    (omega arith, omega arith, Rises-raise 0 (suc t) (64 * length (cut ∷ ws)) (numbers_of (cut ∷ ws)) (Rises-numbers_of (cut ∷ ws)) (λ n e. above_lowest w t ws n small low (sym (is_in-numbers_of (cut ∷ ws) n) ∙ e)))
    (λ n. split_bit w t ws n small low ∙ ap (λ b. nat_eq t n || b) (sym (is_in-numbers_of (cut ∷ ws) n)))

-- the lowest one of the word comes next
pub left_next : (base word : ℕ) (words : List ℕ) → 0 < word → word < 2 ^ 64 → numbers_left base word words ≡ (base + trailing_zeros w64 word) ∷ numbers_left base (bit_and word (word - 1)) words
unfolding numbers_left
left_next base word words p q =
    ap (map (λ n. base + n)) (numbers_of-next word (trailing_zeros w64 word) words (bit_at-trailing_zeros w64 word p q).0 (lowest_at word p q))

-- a walk has gone past empty words only, and stays in range
pub record Walking (start : List ℕ) (base word : ℕ) (words : List ℕ) : Type 0 where
  pub same : numbers_left base word words ≡ start
  pub within : base + 64 * length words ≤ 262144

pub walking_more : {start : List ℕ} {base word : ℕ} {words : List ℕ} (next : ℕ) (rest : List ℕ) → Walking start base word words → word ≡ 0 → words ≡ next ∷ rest → Walking start (base + 64) next rest
walking_more {start} {base} {word} {words} next rest w empty e =
    record {
      same = sym (left_empty base next rest) ∙ sym (λ i. numbers_left base (empty i) (e i)) ∙ w.same;
      within = omega (arith, w.within, ap length e);
    }

left_ends : (base word : ℕ) (words : List ℕ) → word ≡ 0 → length words ≡ 0 → numbers_left base word words ≡ []
left_ends base word [] empty none = ap (λ v. numbers_left base v []) empty ∙ left_none base
left_ends base word (v ∷ words) empty none = absurd (omega arith)

pub walking_ends : {start : List ℕ} {base word : ℕ} {words : List ℕ} → Walking start base word words → word ≡ 0 → length words ≡ 0 → (start ≡ []) × (numbers_left base word words ≡ [])
walking_ends {start} {base} {word} {words} w empty none = (sym w.same ∙ left_ends base word words empty none, left_ends base word words empty none)

pub walking_next : {start : List ℕ} {base word : ℕ} {words : List ℕ} → Walking start base word words → 0 < word → word < 2 ^ 64 → start ≡ (base + trailing_zeros w64 word) ∷ numbers_left base (bit_and word (word - 1)) words
walking_next {start} {base} {word} {words} w some fits = sym w.same ∙ left_next base word words some fits
