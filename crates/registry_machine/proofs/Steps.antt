-- What each allowed entry keeps of a state.
use Rattle.std.proofs.Common.{◌≡◌, ◌≢◌, ◌⊎◌, ℕ, ◌+◌, ◌<◌, ◌≤◌, Bool, true, false, not, cond, ◌==◌, filter, Option, Some, None, IfSome, refl, sym, subst, inl, inr, arith}
use Rattle.std.proofs.lemmas.Option.{same_Some, none-some}
use Rattle.registry_machine.specs.declared.entry.Entry.{Entry}
use Rattle.registry_machine.specs.declared.entry.Entry.TheVariants.{Open, Finish, Superseded, Acquire}
use Rattle.registry_machine.specs.Machine.{Limits, State, start, is_in, after}
use Rattle.registry_machine.specs.Orders.{Ascends}
use Rattle.registry_machine.specs.Legal.{IsAllowed}
use Rattle.registry_machine.proofs.Lists.{true_and_false, other_test, in_last, not_in_last, in_kept, not_in_kept, not_in_own, all_from_in, ascends_last, ascends_filter}

-- the generation that is current, or 0
abbrev pub current_or_0 : Option ℕ → ℕ
current_or_0 None = 0
current_or_0 (Some g) = g

-- the generation was opened and is not warming any more
pub record IsPast (s : State) (g : ℕ) : Type 0 where
  pub opened : g ≤ s.last_opened
  pub ended : is_in g s.warming ≡ false

-- one that was superseded is never current
pub record IsSkipped (s : State) (g : ℕ) : Type 0 where
  pub past : IsPast s g
  pub never : s.current ≢ Some g

-- what is true of each state
pub record Sound (l : Limits) (s : State) : Type 0 where
  pub warming_opened : (g : ℕ) → is_in g s.warming ≡ true → (l.first_generation ≤ g) × (g ≤ s.last_opened)
  pub current_opened : (g : ℕ) → s.current ≡ Some g → (l.first_generation ≤ g) × (g ≤ s.last_opened) × (is_in g s.warming ≡ false)
  pub ascending : Ascends s.warming
  pub from_first : l.first_generation ≤ s.last_opened + 1
  pub never_above : (g : ℕ) → s.last_opened < g → s.acquired g ≡ 0

pub sound_start : (l : Limits) → Sound l (start l)
sound_start l = record {
  warming_opened = λ g h. absurd (grind arith);
  current_opened = λ g h. absurd (none-some g h);
  ascending = tt;
  from_first = omega arith;
  never_above = λ g h. refl;
}

module _ {U D L : Type 0} (l : Limits) where
  -- ---- numbers that never fall

  pub last_rises : (n : ℕ) (s : State) (e : Entry U D L) → IsAllowed l s e → n ≤ s.last_opened → n ≤ (after s e).last_opened
  last_rises n s (Open c u g slot d) p h = omega (arith, p.next)
  last_rises n s _ p h = h

  pub acquired_rises : (g n : ℕ) (s : State) (e : Entry U D L) → IsAllowed l s e → n ≤ s.acquired g → n ≤ (after s e).acquired g
  acquired_rises g n s (Acquire c h k) p a = one_more (g == h)
    where
      one_more : (b : Bool) → n ≤ cond b (s.acquired g + 1) (s.acquired g)
      one_more true = omega arith
      one_more false = a
  acquired_rises g n s _ p h = h

  pub current_rises : (n : ℕ) (s : State) (e : Entry U D L) → IsAllowed l s e → n ≤ current_or_0 s.current → n ≤ current_or_0 (after s e).current
  current_rises n s (Finish g list) p h = below s.current h p.greatest
    where
      below : (now : Option ℕ) → n ≤ current_or_0 now → IfSome now (λ x. x ≤ g) → n ≤ g
      below None h k = omega arith
      below (Some x) h k = omega arith
  current_rises n s _ p h = h

  -- something stays current
  pub stays_current : (s : State) (e : Entry U D L) → IsAllowed l s e → (s.current ≡ None → ⊥) → (after s e).current ≡ None → ⊥
  stays_current s (Finish g list) p h k = none-some g (sym k)
  stays_current s _ p h k = h k

  -- ---- a generation that was warmed is never warming again

  pub stays_past : (g : ℕ) (s : State) (e : Entry U D L) → IsAllowed l s e → IsPast s g → IsPast (after s e) g
  stays_past g s (Open c u x slot d) p h = record { opened = omega (arith, p.next, h.opened); ended = not_in_last g x s.warming h.ended (λ same. absurd (omega (arith, p.next, h.opened, same))) }
  stays_past g s (Finish x list) p h = record { opened = h.opened; ended = not_in_kept g x s.warming h.ended }
  stays_past g s (Superseded x by list) p h = record { opened = h.opened; ended = not_in_kept g x s.warming h.ended }
  stays_past g s _ p h = record { opened = h.opened; ended = h.ended }

  pub stays_skipped : (g : ℕ) (s : State) (e : Entry U D L) → IsAllowed l s e → IsSkipped s g → IsSkipped (after s e) g
  stays_skipped g s (Open c u x slot d) p h = record { past = stays_past g s (Open c u x slot d) p h.past; never = h.never }
  stays_skipped g s (Finish x list) p h = record {
    past = stays_past g s (Finish x list) p h.past;
    never = λ same. true_and_false (is_in g s.warming) (subst (λ y. is_in y s.warming ≡ true) (same_Some x g same) p.warming) h.past.ended;
  }
  stays_skipped g s (Superseded x by list) p h = record { past = stays_past g s (Superseded x by list) p h.past; never = h.never }
  stays_skipped g s _ p h = record { past = record { opened = h.past.opened; ended = h.past.ended }; never = h.never }

  pub sound_kept : (s : State) (e : Entry U D L) → IsAllowed l s e → Sound l s → Sound l (after s e)
  sound_kept s (Open c u x slot d) p h = record {
    warming_opened = λ g i. opened g (in_last g x s.warming i);
    current_opened = λ g i. let k = h.current_opened g i in (k.0, omega (arith, k.1, p.next), not_in_last g x s.warming k.2 (λ same. absurd (omega (arith, k.1, p.next, same))));
    ascending = ascends_last s.warming x h.ascending (all_from_in (λ g. g < x) s.warming (λ g i. omega (arith, p.next, (h.warming_opened g i).1)));
    from_first = omega (arith, p.next, h.from_first);
    never_above = λ g i. h.never_above g (omega (arith, p.next));
  }
    where
      opened : (g : ℕ) → (is_in g s.warming ≡ true) ⊎ (g ≡ x) → (l.first_generation ≤ g) × (g ≤ x)
      opened g (inl i) = let k = h.warming_opened g i in (k.0, omega (arith, k.1, p.next))
      opened g (inr same) = (omega (arith, p.next, h.from_first, same), omega (arith, same))
  sound_kept s (Finish x list) p h = record {
    warming_opened = λ g i. h.warming_opened g (in_kept g x s.warming i).0;
    current_opened = λ g i. subst (λ y. (l.first_generation ≤ y) × (y ≤ s.last_opened) × (is_in y (filter (λ z. not (z == x)) s.warming) ≡ false)) (same_Some x g i) (let k = h.warming_opened x p.warming in (k.0, k.1, not_in_own x s.warming));
    ascending = ascends_filter (λ z. not (z == x)) s.warming h.ascending;
    from_first = h.from_first;
    never_above = h.never_above;
  }
  sound_kept s (Superseded x by list) p h = record {
    warming_opened = λ g i. h.warming_opened g (in_kept g x s.warming i).0;
    current_opened = λ g i. let k = h.current_opened g i in (k.0, k.1, not_in_kept g x s.warming k.2);
    ascending = ascends_filter (λ z. not (z == x)) s.warming h.ascending;
    from_first = h.from_first;
    never_above = h.never_above;
  }
  sound_kept s (Acquire c x k) p h = record {
    warming_opened = h.warming_opened;
    current_opened = h.current_opened;
    ascending = h.ascending;
    from_first = h.from_first;
    never_above = λ g i. let m = (h.current_opened x p.current).1 in let o = other_test g x (λ same. absurd (omega (arith, m, i, same))) in subst (λ b. cond b (s.acquired g + 1) (s.acquired g) ≡ 0) (sym o) (h.never_above g i);
  }
  sound_kept s _ p h = record { warming_opened = h.warming_opened; current_opened = h.current_opened; ascending = h.ascending; from_first = h.from_first; never_above = h.never_above }
