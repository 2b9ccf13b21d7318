-- A call's step by the seat that has it in hand: what the other seats know stays true.
use Rattle.std.proofs.Common.{◌≡◌, ◌≢◌, ℕ, ◌≤◌, List, sym, ap, ◌∙◌, subst, arith, set, get_or, get_or-set_same, get_or-set_other, length, Option}
use mathlib.Core.Logic.{dite}
use native.Mathlib.Decide.{ℕ_discrete}
use Rattle.std.specs.Prelude.{slice_index}
use Rattle.searcher_table.specs.declared.board.Asked.{Asked}
use Rattle.searcher_table.specs.Words.{word_count, call_word, code}
use Rattle.searcher_table.specs.Rule.{World}
use Rattle.searcher_table.proofs.Frame.{put, put_here, put_else}

module _ {U : Type 0} where
  -- the words of the callers, where one of them is written
  pub calls_after : (words : List ℕ) (pending : ℕ → Option (Asked U)) (c x : ℕ) (now : Option (Asked U)) → length words ≡ word_count → c ≤ 64 → x ≡ code now
      → ((d : ℕ) → 1 ≤ d → d ≤ 64 → slice_index words (call_word d) ≡ code (pending d))
      → (d : ℕ) → 1 ≤ d → d ≤ 64 → slice_index (set words (call_word c) x) (call_word d) ≡ code (put c now pending d)
  calls_after words pending c x now long few is calls d low high = dite (ℕ_discrete d c)
      (λ e. subst (λ (n : ℕ). get_or (set words (call_word c) x) (call_word n) 0 ≡ code (put c now pending n)) (sym e)
      (get_or-set_same words (call_word c) x 0 (omega arith) ∙ is ∙ ap code (sym (put_here c now pending))))
      (λ n. get_or-set_other words (call_word c) (call_word d) x 0 (λ e. n (omega arith)) ∙ calls d low high ∙ ap code (sym (put_else c now pending d n)))

module _ {U X L : Type 0} where
  -- a seat that is another one than the pass's is another caller's pass
  pub another : (w : World U X L) (id j c d : ℕ) → w.pass_at c ≡ id → w.pass_at d ≡ j → j ≢ id → d ≢ c
  another w id j c d here there other e = other (sym there ∙ ap w.pass_at e ∙ here)

  -- what another seat has in hand is another caller's call
  pub other_hand : (w : World U X L) (id j c d : ℕ) → w.hand_at c ≡ id → w.hand_at d ≡ j → j ≢ id → d ≢ c
  other_hand w id j c d here there other e = other (sym there ∙ ap w.hand_at e ∙ here)
