-- What an entry that tells a generation wants of the state before it, and what it leaves.
use Rattle.std.proofs.Common.{◌≡◌, ◌≢◌, ◌⊎◌, ℕ, ◌+◌, ◌<◌, ◌≤◌, [], ◌∷◌, ◌++◌, filter, not, Bool, true, false, cond, ◌==◌, Option, Some, IfSome, refl, sym, ap, ap₂, subst, ◌∙◌, inl, inr, arith}
use Rattle.std.proofs.lemmas.Option.{same_Some, none-some, some_pair_parts}
use Rattle.registry_machine.specs.declared.entry.Entry.{Entry}
use Rattle.registry_machine.specs.declared.entry.Entry.TheVariants.{Open, Finish, Superseded, Acquire}
use Rattle.registry_machine.specs.Entries.{opens, registers, ends, acquires}
use Rattle.registry_machine.specs.Machine.{Limits, State, is_in, after}
use Rattle.registry_machine.specs.Legal.{IsAllowed}
use Rattle.registry_machine.proofs.Lists.{same_test, test_same, in_last, in_last_here, in_kept, not_in_own}

-- an opening: the next generation, which is then the last opened and warming
pub record Opens (l : Limits) (s t : State) (g : ℕ) : Type 0 where
  pub next : g ≡ s.last_opened + 1
  pub last : t.last_opened ≡ g
  pub warming : is_in g t.warming ≡ true

-- an end: a warming generation, which is then not warming
pub record Ends (s t : State) (g : ℕ) : Type 0 where
  pub warming : is_in g s.warming ≡ true
  pub ended : is_in g t.warming ≡ false
  pub last : t.last_opened ≡ s.last_opened

-- a registration: none greater is current
pub record Registers (s t : State) (g : ℕ) : Type 0 where
  pub greatest : IfSome s.current (λ x. x ≤ g)
  pub current : t.current ≡ Some g

-- a superseding: a greater one is current
pub record Supersedes (s t : State) (g : ℕ) : Type 0 where
  pub by : ℕ
  pub current : s.current ≡ Some by
  pub greater : g < by
  pub still : t.current ≡ Some by

-- an acquire: of the current generation, at the count of its acquires
pub record Acquires (s t : State) (g k : ℕ) : Type 0 where
  pub current : s.current ≡ Some g
  pub counted : s.acquired g ≡ k
  pub more : t.acquired g ≡ k + 1

module _ {U D L : Type 0} (l : Limits) (s : State) where
  pub opens_next : (e : Entry U D L) (g : ℕ) → opens e ≡ Some g → IsAllowed l s e → Opens l s (after s e) g
  opens_next (Open c u x slot d) g h p = let same : x ≡ g = same_Some x g h in record { next = sym same ∙ p.next; last = same; warming = subst (λ y. is_in y (s.warming ++ x ∷ []) ≡ true) same (in_last_here x s.warming) }
  opens_next _ g h p = absurd (none-some g h)

  pub ends_warming : (e : Entry U D L) (g : ℕ) → ends e ≡ Some g → IsAllowed l s e → Ends s (after s e) g
  ends_warming (Finish x list) g h p = let same : x ≡ g = same_Some x g h in record { warming = subst (λ y. is_in y s.warming ≡ true) same p.warming; ended = subst (λ y. is_in y (filter (λ z. not (z == x)) s.warming) ≡ false) same (not_in_own x s.warming); last = refl }
  ends_warming (Superseded x by list) g h p = let same : x ≡ g = same_Some x g h in record { warming = subst (λ y. is_in y s.warming ≡ true) same p.warming; ended = subst (λ y. is_in y (filter (λ z. not (z == x)) s.warming) ≡ false) same (not_in_own x s.warming); last = refl }
  ends_warming _ g h p = absurd (none-some g h)

  pub registers_greatest : (e : Entry U D L) (g : ℕ) → registers e ≡ Some g → IsAllowed l s e → Registers s (after s e) g
  registers_greatest (Finish x list) g h p = let same : x ≡ g = same_Some x g h in record { greatest = subst (λ y. IfSome s.current (λ z. z ≤ y)) same p.greatest; current = ap Some same }
  registers_greatest _ g h p = absurd (none-some g h)

  pub registered_ends : (e : Entry U D L) (g : ℕ) → registers e ≡ Some g → ends e ≡ Some g
  registered_ends (Finish x list) g h = h
  registered_ends _ g h = absurd (none-some g h)

  pub supersedes_smaller : (e : Entry U D L) (g : ℕ) → ends e ≡ Some g → registers e ≢ Some g → IsAllowed l s e → Supersedes s (after s e) g
  supersedes_smaller (Finish x list) g h n p = absurd (n h)
  supersedes_smaller (Superseded x by list) g h n p = let same : x ≡ g = same_Some x g h in record { by = by; current = p.current; greater = subst (λ y. y < by) same p.greater; still = p.current }
  supersedes_smaller _ g h n p = absurd (none-some g h)

  pub acquires_current : (e : Entry U D L) (g k : ℕ) → acquires e ≡ Some (g, k) → IsAllowed l s e → Acquires s (after s e) g k
  acquires_current (Acquire c x m) g k h p =
      let same = some_pair_parts x g m k h in record {
        current = p.current ∙ ap Some same.0;
        counted = subst (λ y. s.acquired y ≡ k) same.0 (p.counted ∙ same.1);
        more = subst (λ y. cond (y == x) (s.acquired y + 1) (s.acquired y) ≡ k + 1) same.0 (subst (λ b. cond b (s.acquired x + 1) (s.acquired x) ≡ k + 1) (sym (same_test x)) (ap (λ n. n + 1) (p.counted ∙ same.1)));
      }
  acquires_current _ g k h p = absurd (none-some _ h)

  -- a count that an acquire raises had come to its ticket
  pub acquired_more : (e : Entry U D L) (g k : ℕ) → IsAllowed l s e → k < (after s e).acquired g → (k < s.acquired g) ⊎ (acquires e ≡ Some (g, k))
  acquired_more (Acquire c x m) g k p lt = by_test (g == x) refl lt
    where
      by_test : (b : Bool) → (g == x) ≡ b → k < cond b (s.acquired g + 1) (s.acquired g) → (k < s.acquired g) ⊎ (◌≡◌ {A = Option (ℕ × ℕ)} (Some (x, m)) (Some (g, k)))
      by_test true e lt =
          let same : g ≡ x = test_same g x e in
          let counted : s.acquired g ≡ m = subst (λ y. s.acquired y ≡ m) (sym same) p.counted in
          let cases : (k < s.acquired g) ⊎ (m ≡ k) = grind arith in
          elim cases [ inl i ↦ inl i | inr i ↦ inr (ap₂ (λ y z. Some (y, z)) (sym same) i) ]
      by_test false e lt = inl lt
  acquired_more _ g k p lt = inl lt

  -- what is warming was warming before, or is opened
  pub warming_more : (e : Entry U D L) (g : ℕ) → IsAllowed l s e → is_in g (after s e).warming ≡ true → (is_in g s.warming ≡ true) ⊎ (opens e ≡ Some g)
  warming_more (Open c u x slot d) g p i = elim (in_last g x s.warming i) [ inl before ↦ inl before | inr same ↦ inr (ap Some (sym same)) ]
  warming_more (Finish x list) g p i = inl (in_kept g x s.warming i).0
  warming_more (Superseded x by list) g p i = inl (in_kept g x s.warming i).0
  warming_more _ g p i = inl i
