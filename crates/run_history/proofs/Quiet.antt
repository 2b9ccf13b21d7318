-- States of the registry between two requests of a serial run, and what each kind of request does to them.
use Rattle.std.proofs.Common.{◌≡◌, ◌≢◌, ◌⊎◌, ℕ, ◌+◌, ◌<◌, ◌≤◌, [], ◌∷◌, ◌++◌, length, fold, not, filter, Bool, true, false, cond, ◌==◌, Option, Some, None, IfSome, refl, sym, ap, subst, ◌∙◌, inl, inr, arith}
use Rattle.std.proofs.lemmas.Option.{same_Some, none-some}
use Rattle.registry_machine.specs.Machine.{Limits, State, start, is_in, is_some_of, after}
use Rattle.registry_machine.specs.Legal.{LegalFrom}
use Rattle.registry_machine.proofs.Lists.{not_both, same_test, test_same, other_test, in_last_here}
use Rattle.run_history.specs.Serial.{Stand, start_entries, update_entries, query_entries, opening_entries}

pub record Quiet (s : State) (g k slot : ℕ) : Type 0 where
  pub current : s.current ≡ Some g
  pub last : s.last_opened ≡ g
  pub warming : s.warming ≡ []
  pub acquired : s.acquired g ≡ k
  pub slot_of : s.slots slot ≡ Some g
  pub others : (other : ℕ) → other ≢ slot → s.slots other ≡ None
  pub pins : (caller : ℕ) → s.pins caller ≡ None

-- a pin that was taken and released is gone
released_again : (b : Bool) (g : ℕ) (o : Option ℕ) → o ≡ None → cond b None (cond b (Some g) o) ≡ None
released_again true g o e = refl
released_again false g o e = e

own_pin : (caller g : ℕ) (o : Option ℕ) → cond (caller == caller) (Some g) o ≡ Some g
own_pin caller g o = ap (λ b. cond b (Some g) o) (same_test caller)

module _ (U D L : Type 0) where
  pub update_quiet : (s : State) (g k slot caller : ℕ) (u : U) → Quiet s g k slot → Quiet (fold (after {U = U} {D = D} {L = L}) s (update_entries caller u)) g k slot
  update_quiet s g k slot caller u q = record { current = q.current; last = q.last; warming = q.warming; acquired = q.acquired; slot_of = q.slot_of; others = q.others; pins = q.pins }

  pub query_legal : (l : Limits) (s : State) (n : Stand) (caller : ℕ) → Quiet s n.generation n.acquired n.slot → LegalFrom {U = U} {D = D} {L = L} l s (query_entries n caller)
  query_legal l s n caller q = (record { free = q.pins caller; current = q.current; counted = q.acquired }, (own_pin caller n.generation (s.pins caller), tt))

  pub query_quiet : (s : State) (n : Stand) (caller : ℕ) → Quiet s n.generation n.acquired n.slot → Quiet (fold (after {U = U} {D = D} {L = L}) s (query_entries n caller)) n.generation (n.acquired + 1) n.slot
  query_quiet s n caller q = record {
    current = q.current;
    last = q.last;
    warming = q.warming;
    acquired = ap (λ b. cond b (s.acquired n.generation + 1) (s.acquired n.generation)) (same_test n.generation) ∙ ap (λ x. x + 1) q.acquired;
    slot_of = q.slot_of;
    others = q.others;
    pins = λ d. released_again (d == caller) n.generation (s.pins d) (q.pins d);
  }

  module _ (l : Limits) (s : State) (n : Stand) (caller : ℕ) (u : U) (slot : ℕ) (d : D) (q : Quiet s n.generation n.acquired n.slot) (other : slot ≢ n.slot) where
    next_other : (n.generation + 1 == n.generation) ≡ false
    next_other = other_test (n.generation + 1) n.generation (λ e. omega (arith, e))

    old_slot : cond (n.slot == slot) (Some (n.generation + 1)) (s.slots n.slot) ≡ Some n.generation
    old_slot = ap (λ b. cond b (Some (n.generation + 1)) (s.slots n.slot)) (other_test n.slot slot (λ e. other (sym e))) ∙ q.slot_of

    warming_next : s.warming ++ (n.generation + 1) ∷ [] ≡ (n.generation + 1) ∷ []
    warming_next = ap (λ w. w ++ (n.generation + 1) ∷ []) q.warming

    warming_then : filter (λ x. not (x == n.generation + 1)) (s.warming ++ (n.generation + 1) ∷ []) ≡ []
    warming_then = ap (filter (λ x. not (x == n.generation + 1))) warming_next ∙ ap (λ b. cond (not b) ((n.generation + 1) ∷ []) []) (same_test (n.generation + 1))

    pub opening_legal : 0 < l.max_warming → n.generation + 1 ≤ l.last_generation → slot < l.slots → LegalFrom {U = U} {D = D} {L = L} l s (opening_entries n caller u slot d)
    opening_legal room within below = (
      record { room = (let e : length s.warming ≡ 0 = ap length q.warming in omega (arith, e, room)); next = ap (λ x. x + 1) (sym q.last); within = within; slot = below; free = q.others slot other },
      (
        record { free = q.pins caller; current = q.current; counted = q.acquired },
        (
          own_pin caller n.generation (s.pins caller),
          (
            record { warming = in_last_here (n.generation + 1) s.warming; greatest = subst (λ o. IfSome o (λ g. g ≤ n.generation + 1)) (sym q.current) (omega arith) },
            (
              record {
                opened = (n.slot, old_slot);
                not_current = λ e. let same = same_Some (n.generation + 1) n.generation e in omega (arith, same);
                not_warming = ap (is_in n.generation) warming_then;
                not_pinned = λ b e. none-some n.generation (sym (released_again (b == caller) n.generation (s.pins b) (q.pins b)) ∙ e);
              },
              tt,
            ),
          ),
        ),
      ),
    )

    pub opening_quiet : s.acquired (n.generation + 1) ≡ 0 → Quiet (fold (after {U = U} {D = D} {L = L}) s (opening_entries n caller u slot d)) (n.generation + 1) 0 slot
    opening_quiet none = record {
      current = refl;
      last = refl;
      warming = warming_then;
      acquired = ap (λ b. cond b (s.acquired (n.generation + 1) + 1) (s.acquired (n.generation + 1))) next_other ∙ none;
      slot_of = subst (λ b. cond (is_some_of n.generation (cond b (Some (n.generation + 1)) (s.slots slot))) None (cond b (Some (n.generation + 1)) (s.slots slot)) ≡ Some (n.generation + 1)) (sym (same_test slot)) (ap (λ b. cond b None (Some (n.generation + 1))) next_other);
      others = gone;
      pins = λ b. released_again (b == caller) n.generation (s.pins b) (q.pins b);
    }
      where
        freed : (o : Option ℕ) → ((o ≡ Some n.generation) ⊎ (o ≡ None)) → cond (is_some_of n.generation o) None o ≡ None
        freed o (inl e) = subst (λ x. cond (is_some_of n.generation x) None x ≡ None) (sym e) (ap (λ b. cond b None (Some n.generation)) (same_test n.generation))
        freed o (inr e) = subst (λ x. cond (is_some_of n.generation x) None x ≡ None) (sym e) refl

        before : (x : ℕ) (b : Bool) → (x == n.slot) ≡ b → (s.slots x ≡ Some n.generation) ⊎ (s.slots x ≡ None)
        before x true e = inl (ap s.slots (test_same x n.slot e) ∙ q.slot_of)
        before x false e = inr (q.others x (λ same. not_both (x == n.slot) e (subst (λ y. (x == y) ≡ true) same (same_test x))))

        gone : (x : ℕ) → x ≢ slot → cond (is_some_of n.generation (cond (x == slot) (Some (n.generation + 1)) (s.slots x))) None (cond (x == slot) (Some (n.generation + 1)) (s.slots x)) ≡ None
        gone x differs = subst (λ b. cond (is_some_of n.generation (cond b (Some (n.generation + 1)) (s.slots x))) None (cond b (Some (n.generation + 1)) (s.slots x)) ≡ None) (sym (other_test x slot differs)) (freed (s.slots x) (before x (x == n.slot) refl))

  -- ---- the start

  pub start_legal : (l : Limits) (caller : ℕ) (u : U) (slot : ℕ) (d : D) → l.first_generation ≡ 1 → 1 ≤ l.last_generation → 0 < l.max_warming → slot < l.slots → LegalFrom {U = U} {D = D} {L = L} l (start l) (start_entries caller u slot d false)
  start_legal l caller u slot d first last room below = (
    record { room = room; next = omega (arith, first); within = last; slot = below; free = refl },
    (record { warming = refl; greatest = tt }, tt),
  )

  pub start_quiet : (l : Limits) (caller : ℕ) (u : U) (slot : ℕ) (d : D) → Quiet (fold (after {U = U} {D = D} {L = L}) (start l) (start_entries caller u slot d false)) 1 0 slot
  start_quiet l caller u slot d = record {
    current = refl;
    last = refl;
    warming = refl;
    acquired = refl;
    slot_of = ap (λ b. cond b (Some 1) None) (same_test slot);
    others = λ other differs. ap (λ b. cond b (Some 1) None) (other_test other slot differs);
    pins = λ b. refl;
  }
