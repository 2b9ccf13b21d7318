-- The bits of slots in the mask words, where one word is written.
use Rattle.std.proofs.Common.{◌≡◌, ◌≢◌, ℕ, ◌*◌, ◌%◌, ◌<◌, List, length, set, get_or-set_same, get_or-set_other, sym, ap, ◌∙◌, arith}
use mathlib.Core.Logic.{dite}
use native.Mathlib.Decide.{ℕ_discrete}
use mir.Syntax.{w64}
use mir.Val.{bits}
use lib.Bits.{bit_and}
use Rattle.std.specs.Prelude.{slice_index, ◌^◌}
use Rattle.std.specs.Int.{bit_at, bit_not}
use Rattle.std.specs.Int.RustNames.{bit_or}
use Rattle.std.proofs.lemmas.Nat.Bits.{bit_at_set_same, bit_at_set_other, bit_at_clear_same, bit_at_clear_other}
use Rattle.searcher_table.specs.Words.{word_count, mask_word, slot_word, bit_of}

module _ (words : List ℕ) (slot x : ℕ) (long : length words ≡ word_count) (low : slot < 128) where
  here : bit_of (set words (mask_word slot) x) slot ≡ bit_at x (slot % 64)
  here = ap (λ n. bit_at n (slot % 64)) (get_or-set_same words (mask_word slot) x 0 (omega arith))

  others : ((k : ℕ) → k < 64 → k ≢ slot % 64 → bit_at x k ≡ bit_at (slice_index words (mask_word slot)) k) → (b : ℕ) → b < 128 → b ≢ slot → bit_of (set words (mask_word slot) x) b ≡ bit_of words b
  others same b few away = dite (ℕ_discrete (mask_word b) (mask_word slot))
      (λ eq.
      ap (λ n. bit_at (slice_index (set words (mask_word slot) x) n) (b % 64)) eq ∙ ap (λ n. bit_at n (b % 64)) (get_or-set_same words (mask_word slot) x 0 (omega arith))
      ∙ same (b % 64) (omega arith) (λ z. absurd (away (omega arith))) ∙ ap (λ n. bit_at (slice_index words n) (b % 64)) (sym eq))
      (λ other. ap (λ n. bit_at n (b % 64)) (get_or-set_other words (mask_word slot) (mask_word b) x 0 other))

  -- the words of slots are no mask words
  pub slots_beside : (b : ℕ) → slice_index (set words (mask_word slot) x) (slot_word b) ≡ slice_index words (slot_word b)
  slots_beside b = get_or-set_other words (mask_word slot) (slot_word b) x 0 (λ z. absurd (omega arith))

module _ (words : List ℕ) (slot : ℕ) (long : length words ≡ word_count) (low : slot < 128) where
  -- a mask word without the slot's bit, and with it
  abbrev pub without : ℕ → ℕ
  without n = bit_and n (bit_not w64 (1 * 2 ^ (slot % 64) % 2 ^ bits w64))

  abbrev pub with : ℕ → ℕ
  with n = bit_or n (1 * 2 ^ (slot % 64) % 2 ^ bits w64)

  pub cleared_here : bit_of (set words (mask_word slot) (without (slice_index words (mask_word slot)))) slot ≡ 0
  cleared_here = here words slot (without (slice_index words (mask_word slot))) long low ∙ bit_at_clear_same w64 (slice_index words (mask_word slot)) (slot % 64) (omega arith)

  pub cleared_else : (b : ℕ) → b < 128 → b ≢ slot → bit_of (set words (mask_word slot) (without (slice_index words (mask_word slot)))) b ≡ bit_of words b
  cleared_else = others words slot (without (slice_index words (mask_word slot))) long low (λ k few away. bit_at_clear_other w64 (slice_index words (mask_word slot)) (slot % 64) (omega arith) k few away)

  pub marked_here : bit_of (set words (mask_word slot) (with (slice_index words (mask_word slot)))) slot ≡ 1
  marked_here = here words slot (with (slice_index words (mask_word slot))) long low ∙ bit_at_set_same w64 (slice_index words (mask_word slot)) (slot % 64) (omega arith)

  pub marked_else : (b : ℕ) → b < 128 → b ≢ slot → bit_of (set words (mask_word slot) (with (slice_index words (mask_word slot)))) b ≡ bit_of words b
  marked_else = others words slot (with (slice_index words (mask_word slot))) long low (λ k few away. bit_at_set_other w64 (slice_index words (mask_word slot)) (slot % 64) (omega arith) k away)
