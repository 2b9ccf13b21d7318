-- There is room: where fewer generations are warming than may be, some slot is free.
use Rattle.std.proofs.Common.{◌≡◌, ◌≢◌, ◌⊎◌, ℕ, zero, suc, ◌+◌, ◌-◌, ◌<◌, ◌≤◌, ◌==◌, Bool, true, false, not, ◌||◌, cond, List, [], ◌∷◌, length, sym, refl, ap, ◌∙◌, subst, inl, inr, ⊎_elim, arith, Option, Some, None}
use mathlib.Core.Logic.{dite}
use native.Mathlib.Decide.{ℕ_discrete}
use Rattle.std.specs.Prelude.{slice_get}
use Rattle.std.proofs.lemmas.Option.{same_Some, none-some}
use Rattle.std.proofs.lemmas.Bool.{cases_lt}
use Rattle.registry_machine.specs.declared.entry.Entry.{Entry}
use Rattle.registry_machine.specs.Callers.{mine}
use Rattle.registry_machine.specs.Machine.{State, is_in, is_some_of}
use Rattle.registry_machine.specs.Legal.{Legal, state_of}
use Rattle.registry_machine.proofs.Lists.{true_and_false, test_same}
use Rattle.searcher_table.specs.declared.board.Plan.{Plan}
use Rattle.searcher_table.specs.declared.board.Task.{Task}
use Rattle.searcher_table.specs.declared.board.Task.TheVariants.{Duty}
use Rattle.searcher_table.specs.Words.{limits}
use Rattle.searcher_table.specs.Counts.{pinned}
use Rattle.searcher_table.specs.Tasks.{claimed, unsettled, is_settled, IsFree, IsDuty, IsTask, Three}
use Rattle.searcher_table.specs.Rule.{Two, released}
use Rattle.searcher_table.proofs.Counts.{some_of, pins_it, pins_own, balance_of_all}
use Rattle.searcher_table.proofs.Standing.{bounded}
use Rattle.searcher_table.proofs.Beside.{first_within}
use Rattle.searcher_table.proofs.Slotted.{own_is, duty_parts}
use Rattle.searcher_table.proofs.Slotting.{IsNoDuty}

-- numbers below n with a number below m each, no two the same one, are no more than m
pigeon : (n m : ℕ) (R : ℕ → ℕ → Type 0) → ((i : ℕ) → i < n → (j : ℕ) × (j < m) × R i j) → ((i k j : ℕ) → R i j → R k j → i ≡ k) → n ≤ m
pigeon zero m R f one = omega arith
pigeon (suc n) m R f one =
    let last : (j : ℕ) × (j < m) × R n j = f n (omega arith) in
    let mid : ℕ = last.0 in
    let S : ℕ → ℕ → Type 0 = λ i j. ((j < mid) × R i j) ⊎ ((mid ≤ j) × R i (suc j)) in
    let r = pigeon n (m - 1) S
    (λ i low.
    let h : (j : ℕ) × (j < m) × R i j = f i (omega arith) in
    let away : h.0 ≢ mid = λ same. (let e = one i n mid (subst (R i) same h.2) last.2 in absurd (omega arith)) in
    let a = h.1 in
    let b = last.1 in
    ⊎_elim (λ below. (h.0, omega arith, inl (below, h.2)))
    (λ above. (h.0 - 1, omega arith, inr (omega arith, (let e : h.0 ≡ suc (h.0 - 1) = omega arith in subst (R i) e h.2))))
    (cases_lt h.0 mid))
    (λ i k j a b. ⊎_elim
    (λ (x : (j < mid) × R i j). ⊎_elim (λ (y : (j < mid) × R k j). one i k j x.1 y.1) (λ (y : (mid ≤ j) × R k (suc j)). let e = x.0 in let g = y.0 in absurd (omega arith)) b)
    (λ (x : (mid ≤ j) × R i (suc j)). ⊎_elim (λ (y : (j < mid) × R k j). let e = x.0 in let g = y.0 in absurd (omega arith)) (λ (y : (mid ≤ j) × R k (suc j)). one i k (suc j) x.1 y.1) b)
    a) in
    let b = last.1 in
    omega arith

-- some number below n has nothing, or all have something
find_none : (n : ℕ) (f : ℕ → Option ℕ) → ((i : ℕ) × (i < n) × (f i ≡ None)) ⊎ ((i : ℕ) → i < n → (g : ℕ) × (f i ≡ Some g))
find_none zero f = inr (λ i low. absurd (omega arith))
find_none (suc n) f = by_value (find_none n f) (f n) refl
  where
    by_value : ((i : ℕ) × (i < n) × (f i ≡ None)) ⊎ ((i : ℕ) → i < n → (g : ℕ) × (f i ≡ Some g)) → (o : Option ℕ) → f n ≡ o → ((i : ℕ) × (i < suc n) × (f i ≡ None)) ⊎ ((i : ℕ) → i < suc n → (g : ℕ) × (f i ≡ Some g))
    by_value rest None e = inl (n, omega arith, e)
    by_value rest (Some g) e = ⊎_elim
        (λ (k : (i : ℕ) × (i < n) × (f i ≡ None)). inl (k.0, (let a = k.1 in omega arith), k.2))
        (λ (k : (i : ℕ) → i < n → (g : ℕ) × (f i ≡ Some g)). inr (λ i low. dite (ℕ_discrete i n) (λ same. (g, ap f same ∙ e)) (λ other. k i (omega arith))))
        rest

-- where a number stands in a list
at_index : (g : ℕ) (xs : List ℕ) → is_in g xs ≡ true → (i : ℕ) × (i < length xs) × (slice_get xs i ≡ Some g)
at_index g [] e = absurd (true_and_false false e refl)
at_index g (x ∷ xs) e = by_test (at_index g xs) (x == g) refl e
  where
    by_test : (is_in g xs ≡ true → (i : ℕ) × (i < length xs) × (slice_get xs i ≡ Some g)) → (b : Bool) → (x == g) ≡ b → (b || is_in g xs) ≡ true → (i : ℕ) × (i < length (x ∷ xs)) × (slice_get (x ∷ xs) i ≡ Some g)
    by_test rest true same e = (0, omega arith, ap (λ n. Some n) (test_same x g same))
    by_test rest false same e = let k = rest e in (suc k.0, (let a = k.1 in omega arith), k.2)

pins_some : (g : ℕ) (o : Option ℕ) → 0 < pins_it g o → o ≡ Some g
pins_some g o some = by_test (is_some_of g o) refl some
  where
    by_test : (b : Bool) → is_some_of g o ≡ b → 0 < cond {A = ℕ} b 1 0 → o ≡ Some g
    by_test true e some = own_is g o e
    by_test false e some = absurd (omega arith)

module _ {W U X L : Type 0} (p : Plan W) (log : List (Entry U X L)) (tasks : ℕ → Task) (words : List ℕ) (next : ℕ) (legal : Legal (limits p) log) (two : Two p log words)
    (three : Three p (state_of (limits p) log) (released log) (tasks 0) tasks words) (none : claimed (tasks 0) ≡ None) (told : unsettled (tasks 0) ≡ None) (no_duty : IsNoDuty (tasks 0))
    (few : next ≤ p.callers + 1) (undealt : (c : ℕ) → next ≤ c → mine c log ≡ []) where
  abbrev s : State
  s = state_of (limits p) log

  -- who keeps the slot of a generation: the current one's, a caller's, or a warming one's
  IsKeeper : ℕ → ℕ → Type 0
  IsKeeper n g = ((n ≡ 0) × (s.current ≡ Some g)) ⊎ ((1 ≤ n) × (n ≤ p.callers) × ((s.pins n ≡ Some g) ⊎ ((slot : ℕ) × (tasks n ≡ Duty slot g)))) ⊎ ((i : ℕ) × (n ≡ p.callers + 1 + i) × (slice_get s.warming i ≡ Some g))

  duty_unpinned : (n slot g : ℕ) → tasks n ≡ Duty slot g → IsDuty p s (tasks 0) (released log) n slot g
  duty_unpinned n slot g is = subst (λ (a : Task). IsTask p s (tasks 0) (released log) words n a) is (three.begun n)

  caller_one : (n g h : ℕ) → (s.pins n ≡ Some g) ⊎ ((slot : ℕ) × (tasks n ≡ Duty slot g)) → (s.pins n ≡ Some h) ⊎ ((slot : ℕ) × (tasks n ≡ Duty slot h)) → g ≡ h
  caller_one n g h (inl a) (inl b) = same_Some g h (sym a ∙ b)
  caller_one n g h (inl a) (inr b) = absurd (none-some g (sym (duty_unpinned n b.0 h b.1).unpinned ∙ a))
  caller_one n g h (inr a) (inl b) = absurd (none-some h (sym (duty_unpinned n a.0 g a.1).unpinned ∙ b))
  caller_one n g h (inr a) (inr b) = (duty_parts a.0 b.0 g h (sym a.1 ∙ b.1)).1

  keeper_one : (n g h : ℕ) → IsKeeper n g → IsKeeper n h → g ≡ h
  unfolding IsKeeper
  keeper_one n g h (inl a) (inl b) = same_Some g h (sym a.1 ∙ b.1)
  keeper_one n g h (inl a) (inr (inl b)) = let x = a.0 in let y = b.0 in absurd (omega arith)
  keeper_one n g h (inl a) (inr (inr b)) = let x = a.0 in let y = b.1 in absurd (omega arith)
  keeper_one n g h (inr (inl a)) (inl b) = let x = b.0 in let y = a.0 in absurd (omega arith)
  keeper_one n g h (inr (inl a)) (inr (inl b)) = caller_one n g h a.2 b.2
  keeper_one n g h (inr (inl a)) (inr (inr b)) = let x = a.1 in let y = b.1 in absurd (omega arith)
  keeper_one n g h (inr (inr a)) (inl b) = let x = b.0 in let y = a.1 in absurd (omega arith)
  keeper_one n g h (inr (inr a)) (inr (inl b)) = let x = b.1 in let y = a.1 in absurd (omega arith)
  keeper_one n g h (inr (inr a)) (inr (inr b)) = let e : b.0 ≡ a.0 = (let x = a.1 in let y = b.1 in omega arith) in same_Some g h (sym a.2 ∙ ap (slice_get s.warming) (sym e) ∙ b.2)

  -- a caller that pins has a pass
  has_pass : (c g : ℕ) → s.pins c ≡ Some g → c ≤ p.callers
  has_pass c g is = ⊎_elim (λ low. omega arith) (λ past. absurd (none-some g (sym (pins_own (limits p) c log ∙ ap (pinned c) (undealt c past)) ∙ is))) (cases_lt c next)

  -- an open slot has a keeper
  keeper : length s.warming < p.max_warming → (slot g : ℕ) → s.slots slot ≡ Some g → (n : ℕ) × (n < p.callers + p.max_warming) × IsKeeper n g
  unfolding IsKeeper
  keeper room slot g opened = by_warming (is_in g s.warming) refl
    where
      by_count : is_settled s (tasks 0) g ≡ true → (n : ℕ) × (n < p.callers + p.max_warming) × IsKeeper n g
      by_count settled = dite (ℕ_discrete (released log g) (s.acquired g))
          (λ same.
          let d = three.drained slot g opened settled same in
          let f = duty_unpinned d.0 slot g d.1 in
          let few = f.within in
          let some : d.0 ≢ 0 = λ z. no_duty slot g (ap tasks (sym z) ∙ d.1) in
          (d.0, omega arith, inr (inl (omega arith, f.within, inr (slot, d.1)))))
          (λ other.
          let b = balance_of_all (limits p) g log legal two.named in
          let k = some_of 64 (λ c. pins_it g (s.pins c)) (omega arith) in
          let pins = pins_some g (s.pins k.0) k.3 in
          let c = has_pass k.0 g pins in
          (k.0, omega arith, inr (inl (k.1, c, inl pins))))

      by_current : is_in g s.warming ≡ false → (b : Bool) → is_some_of g s.current ≡ b → (n : ℕ) × (n < p.callers + p.max_warming) × IsKeeper n g
      by_current out true e = (0, omega arith, inl (refl, own_is g s.current e))
      by_current out false e = by_count (λ i. not (out i || e i || is_some_of g (told i)))

      by_warming : (b : Bool) → is_in g s.warming ≡ b → (n : ℕ) × (n < p.callers + p.max_warming) × IsKeeper n g
      by_warming true e = let k = at_index g s.warming e in let a = k.1 in (p.callers + 1 + k.0, omega arith, inr (inr (k.0, refl, k.2)))
      by_warming false e = by_current e (is_some_of g s.current) refl

  pub some_free : length s.warming < p.max_warming → (slot : ℕ) × IsFree (limits p) s (tasks 0) slot
  some_free room = ⊎_elim
      (λ (k : (i : ℕ) × (i < (limits p).slots) × (s.slots i ≡ None)). (k.0, record { below = k.1; none = k.2; unclaimed = λ z. none-some k.0 (sym none ∙ z) }))
      (λ (k : (i : ℕ) → i < (limits p).slots → (g : ℕ) × (s.slots i ≡ Some g)).
      let R : ℕ → ℕ → Type 0 = λ i n. (g : ℕ) × (s.slots i ≡ Some g) × IsKeeper n g in
      let b = bounded (limits p) log (first_within p two.sizes) legal in
      let most = pigeon (limits p).slots (p.callers + p.max_warming) R
      (λ i low. let g = k i low in let h = keeper room i g.0 g.1 in (h.0, h.1, (g.0, g.1, h.2)))
      (λ i j n (x : R i n) (y : R j n). b.one i j y.0 (x.1 ∙ ap (λ g. Some g) (keeper_one n x.0 y.0 x.2 y.2)) y.1) in
      absurd (omega arith))
      (find_none (limits p).slots s.slots)
