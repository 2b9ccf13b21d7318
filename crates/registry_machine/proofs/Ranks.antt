-- Places ascend along a history, and each has one index.
use Rattle.std.proofs.Common.{◌≡◌, ℕ, zero, suc, ◌+◌, ◌-◌, ◌<◌, ◌≤◌, List, [], ◌∷◌, length, take, Bool, true, false, cond, Option, Some, None, refl, ap, subst, ◌∙◌, arith, slice_get}
use Rattle.std.proofs.lemmas.List.Sums.{sum_by-cons}
use Rattle.std.proofs.lemmas.Option.{same_Some, none-some}
use Rattle.registry_machine.specs.declared.entry.Entry.{Entry}
use Rattle.registry_machine.specs.Entries.{has_place}
use Rattle.registry_machine.specs.Places.{rank}

module _ {U D L : Type 0} where
  rank_cons : (e : Entry U D L) (h : List (Entry U D L)) (n : ℕ) → rank (e ∷ h) (suc n) ≡ cond (has_place e) 1 0 + rank h n
  rank_cons e h n = sum_by-cons (λ x. cond (has_place x) 1 0) e (take n h)

  -- the entry at n counts, where it has a place
  pub rank_next : (h : List (Entry U D L)) (n : ℕ) (e : Entry U D L) → slice_get h n ≡ Some e → rank h (suc n) ≡ rank h n + cond (has_place e) 1 0
  rank_next [] n e at = absurd (none-some e at)
  rank_next (x ∷ xs) zero e at = let a = rank_cons x xs 0 in let same : x ≡ e = same_Some x e at in subst (λ y. rank (x ∷ xs) 1 ≡ 0 + cond (has_place y) 1 0) same (omega (arith, a))
  rank_next (x ∷ xs) (suc n) e at = let a = rank_cons x xs n in let b = rank_cons x xs (suc n) in let k = rank_next xs n e at in omega (arith, a, b, k)

  rank_past : (h : List (Entry U D L)) (n : ℕ) → slice_get h n ≡ None → rank h (suc n) ≡ rank h n
  rank_past [] zero at = refl
  rank_past [] (suc n) at = refl
  rank_past (x ∷ xs) zero at = absurd (grind arith)
  rank_past (x ∷ xs) (suc n) at = let a = rank_cons x xs n in let b = rank_cons x xs (suc n) in let k = rank_past xs n at in omega (arith, a, b, k)

  rank_rises_one : (h : List (Entry U D L)) (n : ℕ) (found : Option (Entry U D L)) → slice_get h n ≡ found → rank h n ≤ rank h (suc n)
  rank_rises_one h n None at = let k = rank_past h n at in omega (arith, k)
  rank_rises_one h n (Some e) at = let k = rank_next h n e at in omega (arith, k)

  rank_rises_by : (h : List (Entry U D L)) (m d : ℕ) → rank h m ≤ rank h (m + d)
  rank_rises_by h m zero = let e : m ≡ m + 0 = omega arith in subst (λ k. rank h m ≤ rank h k) e (omega arith)
  rank_rises_by h m (suc d) = let e : suc (m + d) ≡ m + suc d = omega arith in subst (λ k. rank h m ≤ rank h k) e (let a = rank_rises_by h m d in let b = rank_rises_one h (m + d) (slice_get h (m + d)) refl in omega (arith, a, b))

  -- rank never falls
  pub rank_rises : (h : List (Entry U D L)) (m n : ℕ) → m ≤ n → rank h m ≤ rank h n
  rank_rises h m n le = let e : m + (n - m) ≡ n = omega arith in subst (λ k. rank h m ≤ rank h k) e (rank_rises_by h m (n - m))

  -- and rises over an entry with a place
  pub rank_rises_over : (h : List (Entry U D L)) (m n : ℕ) (e : Entry U D L) → slice_get h m ≡ Some e → has_place e ≡ true → m < n → rank h m < rank h n
  rank_rises_over h m n e at placed lt =
      let a = rank_next h m e at in
      let b : rank h (suc m) ≡ rank h m + 1 = a ∙ ap (λ b. rank h m + cond b 1 0) placed in
      let c = rank_rises h (suc m) n lt in omega (arith, b, c)

  -- each place has one index
  pub one_index : (h : List (Entry U D L)) (m n : ℕ) (d e : Entry U D L) → slice_get h m ≡ Some d → has_place d ≡ true → slice_get h n ≡ Some e → has_place e ≡ true → rank h m ≡ rank h n → m ≡ n
  one_index h m n d e at_m placed_m at_n placed_n same =
      let up : m < n → ⊥ = λ lt. let k = rank_rises_over h m n d at_m placed_m lt in omega (arith, k) in
      let down : n < m → ⊥ = λ lt. let k = rank_rises_over h n m e at_n placed_n lt in omega (arith, k) in
      grind (arith, up, down)

  -- an entry has the place
  abbrev pub IsPlaceOf : List (Entry U D L) → ℕ → Type 0
  IsPlaceOf h p = (n : ℕ) × (e : Entry U D L) × (slice_get h n ≡ Some e) × (has_place e ≡ true) × (rank h n ≡ p)

  -- and each place below the number of places has an index
  pub has_index : (h : List (Entry U D L)) (p : ℕ) → p < rank h (length h) → IsPlaceOf h p
  has_index [] p lt = absurd (omega arith)
  has_index (x ∷ xs) p lt = by_place (has_place x) refl p (subst (λ k. p < k) (rank_cons x xs (length xs)) lt) (has_index xs)
    where
      by_place : (b : Bool) → has_place x ≡ b → (p : ℕ) → p < cond (has_place x) 1 0 + rank xs (length xs) → ((q : ℕ) → q < rank xs (length xs) → IsPlaceOf xs q) → IsPlaceOf (x ∷ xs) p
      by_place true placed zero lt rest = (0, x, refl, placed, refl)
      by_place true placed (suc q) lt rest =
          let lt' : suc q < 1 + rank xs (length xs) = subst (λ b. suc q < cond b 1 0 + rank xs (length xs)) placed lt in
          let k = rest q (omega (arith, lt')) in
          (suc k.0, k.1, k.2, k.3, rank_cons x xs k.0 ∙ (ap (λ b. cond b 1 0 + rank xs k.0) placed ∙ omega (arith, k.4)))
      by_place false placed p lt rest =
          let lt' : p < 0 + rank xs (length xs) = subst (λ b. p < cond b 1 0 + rank xs (length xs)) placed lt in
          let k = rest p (omega (arith, lt')) in
          (suc k.0, k.1, k.2, k.3, rank_cons x xs k.0 ∙ (ap (λ b. cond b 1 0 + rank xs k.0) placed ∙ omega (arith, k.4)))
