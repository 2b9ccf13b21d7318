-- What a legal history leaves: bounds of generations and slots, and the slot of a pinned generation.
use Rattle.std.proofs.Common.{◌≡◌, ◌⊎◌, ℕ, ◌+◌, ◌≤◌, ◌<◌, ◌==◌, Bool, true, false, cond, List, [], ◌∷◌, ◌++◌, fold, refl, sym, ap, ◌∙◌, subst, arith, inl, inr, ⊎_elim, Option, Some, None}
use Rattle.std.proofs.lemmas.Option.{same_Some, none-some}
use Rattle.registry_machine.specs.declared.entry.Entry.{Entry}
use Rattle.registry_machine.specs.declared.entry.Entry.TheVariants.{Open, TooMany, GenerationsSpent, Update, Finish, Superseded, Acquire, NotYet, Release, Free}
use Rattle.registry_machine.specs.Machine.{Limits, State, start, is_in, is_some_of, after}
use Rattle.registry_machine.specs.Legal.{IsAllowed, LegalFrom, Legal, state_of}
use Rattle.registry_machine.proofs.Lists.{true_and_false, test_same, other_test, in_last, in_kept}
use Rattle.registry_machine.proofs.Runs.{split, state_joined}
use Rattle.registry_machine.proofs.Steps.{Sound, sound_start, sound_kept}
use Rattle.registry_machine.proofs.Slots.{HasSlot, KeepsSlots, HasOnly, slots_start, slots_kept, only_kept}

-- open slots are below their number, no two are open for one generation, and the last generation is within the limit
pub record IsBounded (l : Limits) (s : State) : Type 0 where
  pub slots : KeepsSlots s
  pub below : (slot g : ℕ) → s.slots slot ≡ Some g → slot < l.slots
  pub one : (a b g : ℕ) → s.slots a ≡ Some g → s.slots b ≡ Some g → a ≡ b
  pub last : s.last_opened ≤ l.last_generation

-- what a slot is open for after an opening or a freeing
pub at_open : (slots : ℕ → Option ℕ) (free x slot g : ℕ) → cond (slot == free) (Some x) (slots slot) ≡ Some g → ((slot ≡ free) × (x ≡ g)) ⊎ (slots slot ≡ Some g)
at_open slots free x slot g h = by_test (slot == free) refl h
  where
    by_test : (b : Bool) → (slot == free) ≡ b → cond b (Some x) (slots slot) ≡ Some g → ((slot ≡ free) × (x ≡ g)) ⊎ (slots slot ≡ Some g)
    by_test true e h = inl (test_same slot free e, same_Some x g h)
    by_test false e h = inr h

at_free : (x g : ℕ) (o : Option ℕ) → cond (is_some_of x o) None o ≡ Some g → o ≡ Some g
at_free x g None h = absurd (none-some g h)
at_free x g (Some y) h = by_test (y == x) h
  where
    by_test : (b : Bool) → cond b None (Some y) ≡ Some g → ◌≡◌ {A = Option ℕ} (Some y) (Some g)
    by_test true h = absurd (none-some g h)
    by_test false h = h

-- what is warming was never acquired
abbrev NoneAcquired : State → Type 0
NoneAcquired s = (g : ℕ) → is_in g s.warming ≡ true → s.acquired g ≡ 0

module _ {U X L : Type 0} (l : Limits) where
  -- what each allowed entry keeps lasts over a run
  pub run_keeps : (P : State → Type 0) → ((s : State) (e : Entry U X L) → IsAllowed l s e → P s → P (after s e)) → (s : State) (es : List (Entry U X L)) → LegalFrom l s es → P s → P (fold after s es)
  run_keeps P keeps s [] may p = p
  run_keeps P keeps s (e ∷ es) may p = run_keeps P keeps (after s e) es may.1 (keeps s e may.0 p)

  bounded_kept : (s : State) (e : Entry U X L) → IsAllowed l s e → IsBounded l s → IsBounded l (after s e)
  bounded_kept s (Open c u x free d) p h = record {
    slots = slots_kept {U = U} {D = X} {L = L} l s (Open c u x free d) p h.slots;
    below = λ slot g i. ⊎_elim (λ (k : (slot ≡ free) × (x ≡ g)). let q = p.slot in let e = k.0 in omega arith) (λ (k : s.slots slot ≡ Some g). h.below slot g k) (at_open s.slots free x slot g i);
    one = λ a b g i j. ⊎_elim
        (λ (k : (a ≡ free) × (x ≡ g)). ⊎_elim
        (λ (m : (b ≡ free) × (x ≡ g)). k.0 ∙ sym m.0)
        (λ (m : s.slots b ≡ Some g). let o = h.slots.opened b g m in let n = p.next in let e = k.1 in absurd (omega arith))
        (at_open s.slots free x b g j))
        (λ (k : s.slots a ≡ Some g). ⊎_elim
        (λ (m : (b ≡ free) × (x ≡ g)). let o = h.slots.opened a g k in let n = p.next in let e = m.1 in absurd (omega arith))
        (λ (m : s.slots b ≡ Some g). h.one a b g k m)
        (at_open s.slots free x b g j))
        (at_open s.slots free x a g i);
    last = p.within;
  }
  bounded_kept s (Free x) p h = record {
    slots = slots_kept {U = U} {D = X} {L = L} l s (Free x) p h.slots;
    below = λ slot g i. h.below slot g (at_free x g (s.slots slot) i);
    one = λ a b g i j. h.one a b g (at_free x g (s.slots a) i) (at_free x g (s.slots b) j);
    last = h.last;
  }
  bounded_kept s (Finish x list) p h = record { slots = slots_kept {U = U} {D = X} {L = L} l s (Finish x list) p h.slots; below = h.below; one = h.one; last = h.last }
  bounded_kept s (Superseded x by list) p h = record { slots = slots_kept {U = U} {D = X} {L = L} l s (Superseded x by list) p h.slots; below = h.below; one = h.one; last = h.last }
  bounded_kept s (Acquire c x k) p h = record { slots = slots_kept {U = U} {D = X} {L = L} l s (Acquire c x k) p h.slots; below = h.below; one = h.one; last = h.last }
  bounded_kept s (Release c x list) p h = record { slots = slots_kept {U = U} {D = X} {L = L} l s (Release c x list) p h.slots; below = h.below; one = h.one; last = h.last }
  bounded_kept s (TooMany c u gs) p h = record { slots = slots_kept {U = U} {D = X} {L = L} l s (TooMany c u gs) p h.slots; below = h.below; one = h.one; last = h.last }
  bounded_kept s (GenerationsSpent c u) p h = record { slots = slots_kept {U = U} {D = X} {L = L} l s (GenerationsSpent c u) p h.slots; below = h.below; one = h.one; last = h.last }
  bounded_kept s (Update c u) p h = record { slots = slots_kept {U = U} {D = X} {L = L} l s (Update c u) p h.slots; below = h.below; one = h.one; last = h.last }
  bounded_kept s (NotYet c) p h = record { slots = slots_kept {U = U} {D = X} {L = L} l s (NotYet c) p h.slots; below = h.below; one = h.one; last = h.last }

  pub bounded : (log : List (Entry U X L)) → l.first_generation ≤ l.last_generation + 1 → Legal l log → IsBounded l (state_of l log)
  bounded log first legal = run_keeps (IsBounded l) bounded_kept (start l) log legal record {
    slots = slots_start l;
    below = λ slot g i. absurd (none-some g i);
    one = λ a b g i j. absurd (none-some g i);
    last = omega arith;
  }

  none_kept : (s : State) (e : Entry U X L) → IsAllowed l s e → Sound l s → NoneAcquired s → NoneAcquired (after s e)
  none_kept s (Open c u x slot d) p h n = λ g i. ⊎_elim (λ (k : is_in g s.warming ≡ true). n g k) (λ (k : g ≡ x). h.never_above g (let a = p.next in omega arith)) (in_last g x s.warming i)
  none_kept s (Finish x list) p h n = λ g i. n g (in_kept g x s.warming i).0
  none_kept s (Superseded x by list) p h n = λ g i. n g (in_kept g x s.warming i).0
  none_kept s (Acquire c x k) p h n = λ g i. ap (λ b. cond b (s.acquired g + 1) (s.acquired g))
      (other_test g x (λ same. true_and_false (is_in x s.warming) (ap (λ y. is_in y s.warming) (sym same) ∙ i) (h.current_opened x p.current).2)) ∙ n g i
  none_kept s (Release c x list) p h n = λ g i. n g i
  none_kept s (TooMany c u gs) p h n = λ g i. n g i
  none_kept s (GenerationsSpent c u) p h n = λ g i. n g i
  none_kept s (Update c u) p h n = λ g i. n g i
  none_kept s (NotYet c) p h n = λ g i. n g i
  none_kept s (Free x) p h n = λ g i. n g i

  pub unacquired : (log : List (Entry U X L)) (g : ℕ) → Legal l log → is_in g (state_of l log).warming ≡ true → (state_of l log).acquired g ≡ 0
  unacquired log g legal is = (run_keeps (λ s. Sound l s × NoneAcquired s) (λ s e may h. (sound_kept l s e may h.0, none_kept s e may h.0 h.1)) (start l) log legal (sound_start l, λ h i. refl)).1 g is

  pub sound : (log : List (Entry U X L)) → Legal l log → Sound l (state_of l log)
  sound log legal = run_keeps (Sound l) (sound_kept l) (start l) log legal (sound_start l)

  -- the slot of a generation is the same as long as a caller pins that generation
  pub slot_stays : (log seen : List (Entry U X L)) (rest : List (Entry U X L)) (c g slot : ℕ) → l.first_generation ≤ l.last_generation + 1 → Legal l log → log ≡ seen ++ rest
      → (state_of l seen).slots slot ≡ Some g → (state_of l log).pins c ≡ Some g → (state_of l log).slots slot ≡ Some g
  slot_stays log seen rest c g slot first legal grown opened pins =
      let parts = split l (start l) seen rest (subst (λ (h : List (Entry U X L)). Legal l h) grown legal) in
      let b = bounded seen first parts.0 in
      let only : HasOnly (state_of l seen) g slot = record { opened = b.slots.opened slot g opened; only = λ other i. b.one other slot g i opened } in
      let later : HasOnly (fold after (state_of l seen) rest) g slot = run_keeps (λ s. HasOnly s g slot) (only_kept l g slot) (state_of l seen) rest parts.1 only in
      let same : fold after (state_of l seen) rest ≡ state_of l log = sym (state_joined l seen rest) ∙ ap (state_of l) (sym grown) in
      let there : HasSlot (state_of l log) g = (bounded log first legal).slots.pinned c g pins in
      let is : there.0 ≡ slot = (subst (λ (s : State). HasOnly s g slot) same later).only there.0 there.1 in
      subst (λ (n : ℕ). (state_of l log).slots n ≡ Some g) is there.1
