-- Slots: what is warming, current or pinned has one, which is the slot of its opening.
use Rattle.std.proofs.Common.{◌≡◌, ◌≢◌, ◌⊎◌, ℕ, ◌≤◌, Bool, true, false, cond, ◌==◌, Option, Some, None, refl, sym, ap, subst, ◌∙◌, inl, inr, arith}
use Rattle.std.proofs.lemmas.Option.{same_Some, none-some}
use Rattle.registry_machine.specs.declared.entry.Entry.{Entry}
use Rattle.registry_machine.specs.declared.entry.Entry.TheVariants.{Open, Finish, Superseded, Acquire, Release, Free}
use Rattle.registry_machine.specs.Entries.{frees}
use Rattle.registry_machine.specs.Machine.{Limits, State, start, is_in, is_some_of, after}
use Rattle.registry_machine.specs.Legal.{CanOpen, IsAllowed}
use Rattle.registry_machine.proofs.Lists.{true_and_false, same_test, test_same, test_other, other_test, in_last, in_kept}

-- some slot is open for the generation
abbrev pub HasSlot : State → ℕ → Type 0
HasSlot s g = (slot : ℕ) × (s.slots slot ≡ Some g)

-- what is warming, current or pinned has a slot, and none is open for a generation that was not opened
pub record KeepsSlots (s : State) : Type 0 where
  pub warming : (g : ℕ) → is_in g s.warming ≡ true → HasSlot s g
  pub current : (g : ℕ) → s.current ≡ Some g → HasSlot s g
  pub pinned : (caller g : ℕ) → s.pins caller ≡ Some g → HasSlot s g
  pub opened : (slot g : ℕ) → s.slots slot ≡ Some g → g ≤ s.last_opened

-- no other slot is open for a generation that was opened
pub record HasOnly (s : State) (g slot : ℕ) : Type 0 where
  pub opened : g ≤ s.last_opened
  pub only : (other : ℕ) → s.slots other ≡ Some g → other ≡ slot

-- no slot is open for a generation that was opened
pub record IsFreed (s : State) (g : ℕ) : Type 0 where
  pub opened : g ≤ s.last_opened
  pub none : (slot : ℕ) → s.slots slot ≢ Some g

is_own : (g : ℕ) → is_some_of g (Some g) ≡ true
is_own g = same_test g

some_of_other : (g x : ℕ) → g ≢ x → is_some_of x (Some g) ≡ false
some_of_other g x n = other_test g x n

-- a slot that is open stays so at an opening in one that is not
kept_at_open : (slots : ℕ → Option ℕ) (free x slot g : ℕ) → slots free ≡ None → slots slot ≡ Some g → cond (slot == free) (Some x) (slots slot) ≡ Some g
kept_at_open slots free x slot g none h = by_test (slot == free) refl
  where
    by_test : (b : Bool) → (slot == free) ≡ b → cond b (Some x) (slots slot) ≡ Some g
    by_test true e = absurd (none-some g (sym none ∙ (ap slots (sym (test_same slot free e)) ∙ h)))
    by_test false e = h

-- a slot that is open for another generation stays so where one is freed
kept_at_free : (slots : ℕ → Option ℕ) (x slot g : ℕ) → g ≢ x → slots slot ≡ Some g → cond (is_some_of x (slots slot)) None (slots slot) ≡ Some g
kept_at_free slots x slot g n h = subst (λ o. cond (is_some_of x o) None o ≡ Some g) (sym h) (subst (λ b. cond b None (Some g) ≡ Some g) (sym (some_of_other g x n)) refl)

-- what a slot is open for after an opening it was open for before, or it is the opening's
at_open : (slots : ℕ → Option ℕ) (free x slot g : ℕ) → cond (slot == free) (Some x) (slots slot) ≡ Some g → ((slot ≡ free) × (x ≡ g)) ⊎ (slots slot ≡ Some g)
at_open slots free x slot g h = by_test (slot == free) refl h
  where
    by_test : (b : Bool) → (slot == free) ≡ b → cond b (Some x) (slots slot) ≡ Some g → ((slot ≡ free) × (x ≡ g)) ⊎ (slots slot ≡ Some g)
    by_test true e h = inl (test_same slot free e, same_Some x g h)
    by_test false e h = inr h

at_free : (o : Option ℕ) (x g : ℕ) → cond (is_some_of x o) None o ≡ Some g → (o ≡ Some g) × (g ≢ x)
at_free None x g h = absurd (none-some g h)
at_free (Some y) x g h = by_test (y == x) refl h
  where
    by_test : (b : Bool) → (y == x) ≡ b → cond b None (Some y) ≡ Some g → (◌≡◌ {A = Option ℕ} (Some y) (Some g)) × (g ≢ x)
    by_test true e h = absurd (none-some g h)
    by_test false e h = (h, λ same. test_other y x e (same_Some y g h ∙ same))

pub slots_start : (l : Limits) → KeepsSlots (start l)
slots_start l = record {
  warming = λ g h. absurd (grind arith);
  current = λ g h. absurd (none-some g h);
  pinned = λ c g h. absurd (none-some g h);
  opened = λ slot g h. absurd (none-some g h);
}

module _ {U D L : Type 0} (l : Limits) where
  pub slots_kept : (s : State) (e : Entry U D L) → IsAllowed l s e → KeepsSlots s → KeepsSlots (after s e)
  slots_kept s (Open c u x free d) p h = record {
    warming = λ g i. warm g (in_last g x s.warming i);
    current = λ g i. same g (h.current g i);
    pinned = λ c g i. same g (h.pinned c g i);
    opened = λ slot g i. bounded g slot (at_open s.slots free x slot g i);
  }
    where
      same : (g : ℕ) → HasSlot s g → (slot : ℕ) × (cond (slot == free) (Some x) (s.slots slot) ≡ Some g)
      same g k = (k.0, kept_at_open s.slots free x k.0 g p.free k.1)

      warm : (g : ℕ) → (is_in g s.warming ≡ true) ⊎ (g ≡ x) → (slot : ℕ) × (cond (slot == free) (Some x) (s.slots slot) ≡ Some g)
      warm g (inl i) = same g (h.warming g i)
      warm g (inr e) = (free, subst (λ b. cond b (Some x) (s.slots free) ≡ Some g) (sym (same_test free)) (ap Some (sym e)))

      bounded : (g slot : ℕ) → ((slot ≡ free) × (x ≡ g)) ⊎ (s.slots slot ≡ Some g) → g ≤ x
      bounded g slot (inl k) = omega (arith, k.1)
      bounded g slot (inr k) = omega (arith, h.opened slot g k, p.next)
  slots_kept s (Finish x list) p h = record {
    warming = λ g i. h.warming g (in_kept g x s.warming i).0;
    current = λ g i. subst (HasSlot s) (same_Some x g i) (h.warming x p.warming);
    pinned = h.pinned;
    opened = h.opened;
  }
  slots_kept s (Superseded x by list) p h = record { warming = λ g i. h.warming g (in_kept g x s.warming i).0; current = h.current; pinned = h.pinned; opened = h.opened }
  slots_kept s (Acquire c x k) p h = record { warming = h.warming; current = h.current; pinned = λ d g i. by_test d g (d == c) i; opened = h.opened }
    where
      by_test : (d g : ℕ) (b : Bool) → cond b (Some x) (s.pins d) ≡ Some g → HasSlot s g
      by_test d g true i = subst (HasSlot s) (same_Some x g i) (h.current x p.current)
      by_test d g false i = h.pinned d g i
  slots_kept s (Release c x list) p h = record { warming = h.warming; current = h.current; pinned = λ d g i. by_test d g (d == c) i; opened = h.opened }
    where
      by_test : (d g : ℕ) (b : Bool) → cond b None (s.pins d) ≡ Some g → HasSlot s g
      by_test d g true i = absurd (none-some g i)
      by_test d g false i = h.pinned d g i
  slots_kept s (Free x) p h = record {
    warming = λ g i. same g (h.warming g i) (λ e. true_and_false (is_in x s.warming) (subst (λ y. is_in y s.warming ≡ true) e i) p.not_warming);
    current = λ g i. same g (h.current g i) (λ e. p.not_current (i ∙ ap Some e));
    pinned = λ c g i. same g (h.pinned c g i) (λ e. p.not_pinned c (i ∙ ap Some e));
    opened = λ slot g i. h.opened slot g (at_free (s.slots slot) x g i).0;
  }
    where
      same : (g : ℕ) → HasSlot s g → g ≢ x → (slot : ℕ) × (cond (is_some_of x (s.slots slot)) None (s.slots slot) ≡ Some g)
      same g k n = (k.0, kept_at_free s.slots x k.0 g n k.1)
  slots_kept s _ p h = record { warming = h.warming; current = h.current; pinned = h.pinned; opened = h.opened }

  pub only_kept : (g slot : ℕ) (s : State) (e : Entry U D L) → IsAllowed l s e → HasOnly s g slot → HasOnly (after s e) g slot
  only_kept g slot s (Open c u x free d) p h = record { opened = omega (arith, p.next, h.opened); only = λ other i. again other (at_open s.slots free x other g i) }
    where
      again : (other : ℕ) → ((other ≡ free) × (x ≡ g)) ⊎ (s.slots other ≡ Some g) → other ≡ slot
      again other (inl k) = absurd (omega (arith, k.1, p.next, h.opened))
      again other (inr k) = h.only other k
  only_kept g slot s (Free x) p h = record { opened = h.opened; only = λ other i. h.only other (at_free (s.slots other) x g i).0 }
  only_kept g slot s _ p h = record { opened = h.opened; only = h.only }

  pub freed_kept : (g : ℕ) (s : State) (e : Entry U D L) → IsAllowed l s e → IsFreed s g → IsFreed (after s e) g
  freed_kept g s (Open c u x free d) p h = record { opened = omega (arith, p.next, h.opened); none = λ slot i. again slot (at_open s.slots free x slot g i) }
    where
      again : (slot : ℕ) → ((slot ≡ free) × (x ≡ g)) ⊎ (s.slots slot ≡ Some g) → ⊥
      again slot (inl k) = absurd (omega (arith, k.1, p.next, h.opened))
      again slot (inr k) = h.none slot k
  freed_kept g s (Free x) p h = record { opened = h.opened; none = λ slot i. h.none slot (at_free (s.slots slot) x g i).0 }
  freed_kept g s _ p h = record { opened = h.opened; none = h.none }

  -- after its opening a generation has the slot of the opening alone
  pub only_after : (s : State) (e : Entry U D L) (c : ℕ) (u : U) (g slot : ℕ) (d : D) → Open c u g slot d ≡ e → KeepsSlots s → IsAllowed l s e → HasOnly (after s e) g slot
  only_after s e c u g slot d same h p = subst (λ y. IsAllowed l s y → HasOnly (after s y) g slot) same opened p
    where
      opened : CanOpen l s g slot → HasOnly (after {U = U} {D = D} {L = L} s (Open c u g slot d)) g slot
      opened k = record { opened = omega arith; only = λ other i. again other (at_open s.slots slot g other g i) }
        where
          again : (other : ℕ) → ((other ≡ slot) × (g ≡ g)) ⊎ (s.slots other ≡ Some g) → other ≡ slot
          again other (inl i) = i.0
          again other (inr i) = absurd (omega (arith, h.opened other g i, k.next))

  pub freed_after : (s : State) (e : Entry U D L) (g : ℕ) → frees e ≡ Some g → KeepsSlots s → IsAllowed l s e → HasSlot s g × IsFreed (after s e) g
  freed_after s (Free x) g same h p = subst (λ y. HasSlot s y × IsFreed (after {U = U} {D = D} {L = L} s (Free x)) y) (same_Some x g same) (p.opened, record { opened = h.opened p.opened.0 x p.opened.1; none = λ slot i. (at_free (s.slots slot) x x i).1 refl })
  freed_after s _ g same h p = absurd (none-some g same)
