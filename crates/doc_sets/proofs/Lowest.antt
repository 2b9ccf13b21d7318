-- A word without its lowest one.
use Rattle.std.proofs.Common.{◌≡◌, ℕ, ◌+◌, ◌-◌, ◌*◌, ◌/◌, ◌%◌, ◌^◌, ◌<◌, ◌≤◌, min, bit_and, inl, inr, sym, ap, ◌∙◌, arith}
use Rattle.std.specs.Int.{bit_at}
use Rattle.std.proofs.Math.Nat.{mod-lt}
use Rattle.std.proofs.lemmas.Nat.{pow_pos, pow_below, shr_split}
use Rattle.std.proofs.lemmas.Nat.Bits.{bit_at_and, bit_at_cat_low, bit_at_cat_high, bit_at-pow_same, bit_at-pow_other, bit_at_ones_above, same_from_bits_below}
use Rattle.std.proofs.lemmas.Bool.{cases_order}

-- the lowest one, at t
pub record LowestOne (w t : ℕ) : Type 0 where
  pub one : bit_at w t ≡ 1
  pub zeros : (i : ℕ) → i < t → bit_at w i ≡ 0

-- the bits up to the lowest one
low_bits : (w t i : ℕ) → LowestOne w t → i < t + 1 → bit_at (w % 2 ^ (t + 1)) i ≡ bit_at (2 ^ t) i
low_bits w t i low p =
    let same : bit_at (w % 2 ^ (t + 1)) i ≡ bit_at w i = sym (bit_at_cat_low (w / 2 ^ (t + 1)) (t + 1) (w % 2 ^ (t + 1)) i p) ∙ ap (λ v. bit_at v i) (shr_split w (t + 1)) in
    same ∙ elim (cases_order i t) [
      | inl here ↦ ap (bit_at w) here ∙ low.one ∙ sym (ap (bit_at (2 ^ t)) here ∙ bit_at-pow_same t)
      | inr (inl below) ↦ low.zeros i below ∙ sym (bit_at-pow_other t i (λ e. omega arith))
      | inr (inr above) ↦ absurd (omega arith)
    ]

low_part : (w t : ℕ) → LowestOne w t → w % 2 ^ (t + 1) ≡ 2 ^ t
low_part w t low =
    same_from_bits_below (t + 1) (w % 2 ^ (t + 1)) (2 ^ t) (mod-lt w (pow_pos (t + 1))) (pow_below t (t + 1) (omega arith)) (λ i p. low_bits w t i low p)

whole : (w t : ℕ) → LowestOne w t → w ≡ w / 2 ^ (t + 1) * 2 ^ (t + 1) + 2 ^ t
whole w t low = sym (shr_split w (t + 1)) ∙ ap (λ r. w / 2 ^ (t + 1) * 2 ^ (t + 1) + r) (low_part w t low)

less_one : (a b c : ℕ) → a ≡ b + c → 0 < c → a - 1 ≡ b + (c - 1)
less_one a b c e p = omega arith

one_less : (w t : ℕ) → LowestOne w t → w - 1 ≡ w / 2 ^ (t + 1) * 2 ^ (t + 1) + (2 ^ t - 1)
one_less w t low = less_one w (w / 2 ^ (t + 1) * 2 ^ (t + 1)) (2 ^ t) (whole w t low) (pow_pos t)

min_zero : (a b : ℕ) → a ≡ 0 → min a b ≡ 0
min_zero a b e = omega arith

zero_min : (a b : ℕ) → b ≡ 0 → min a b ≡ 0
zero_min a b e = omega arith

min_same : (a b c : ℕ) → a ≡ c → b ≡ c → min a b ≡ a
min_same a b c e f = omega arith

-- the lowest one and what is below it are clear
pub cleared_low : (w t i : ℕ) → LowestOne w t → i ≤ t → bit_at (bit_and w (w - 1)) i ≡ 0
cleared_low w t i low p =
    bit_at_and w (w - 1) i ∙ elim (cases_order i t) [
      | inl here ↦ zero_min (bit_at w i) (bit_at (w - 1) i)
          (ap (λ v. bit_at v i) (one_less w t low) ∙ bit_at_cat_low (w / 2 ^ (t + 1)) (t + 1) (2 ^ t - 1) i (omega arith) ∙ bit_at_ones_above t i (omega arith))
      | inr (inl below) ↦ min_zero (bit_at w i) (bit_at (w - 1) i) (low.zeros i below)
      | inr (inr above) ↦ absurd (omega arith)
    ]

-- what is above it stays
pub cleared_high : (w t i : ℕ) → LowestOne w t → t < i → bit_at (bit_and w (w - 1)) i ≡ bit_at w i
cleared_high w t i low p =
    let half = pow_below t (t + 1) (omega arith) in
    bit_at_and w (w - 1) i ∙ min_same (bit_at w i) (bit_at (w - 1) i) (bit_at (w / 2 ^ (t + 1)) (i - (t + 1)))
    (ap (λ v. bit_at v i) (whole w t low) ∙ bit_at_cat_high (w / 2 ^ (t + 1)) (t + 1) (2 ^ t) i half (omega arith))
    (ap (λ v. bit_at v i) (one_less w t low) ∙ bit_at_cat_high (w / 2 ^ (t + 1)) (t + 1) (2 ^ t - 1) i (omega (arith, half)) (omega arith))
