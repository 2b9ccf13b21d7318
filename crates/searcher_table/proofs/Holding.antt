-- The generations that slots were opened for last: they were opened, and no two slots have the same.
use Rattle.std.proofs.Common.{◌≡◌, ◌≢◌, ℕ, ◌+◌, ◌≤◌, List, [], ◌∷◌, fold, cond, eq-eqb, ne_eqb, sym, ap, ◌∙◌, ⊎_elim, arith, Option, Some, None}
use Rattle.std.proofs.lemmas.Option.{none-some}
use Rattle.registry_machine.specs.declared.entry.Entry.{Entry}
use Rattle.registry_machine.specs.declared.entry.Entry.TheVariants.{Open, TooMany, GenerationsSpent, Update, Finish, Superseded, Acquire, NotYet, Release, Free}
use Rattle.registry_machine.specs.Machine.{Limits, State, start, after}
use Rattle.registry_machine.specs.Legal.{IsAllowed, LegalFrom, Legal, state_of}
use Rattle.searcher_table.specs.Doors.{held_after, held_in}
use Rattle.searcher_table.proofs.Standing.{at_open}
use Rattle.searcher_table.proofs.Slotting.{at_freed}

pub record AreHeld (s : State) (held : ℕ → Option ℕ) : Type 0 where
  pub below : (b h : ℕ) → held b ≡ Some h → h ≤ s.last_opened
  pub once : (a b h : ℕ) → held a ≡ Some h → held b ≡ Some h → a ≡ b
  pub opened : (b h : ℕ) → s.slots b ≡ Some h → held b ≡ Some h

module _ {U X L : Type 0} (l : Limits) where
  held_kept : (s : State) (held : ℕ → Option ℕ) (e : Entry U X L) → IsAllowed l s e → AreHeld s held → AreHeld (after s e) (held_after held e)
  held_kept s held (Open c u x slot d) p k = record {
    below = λ b h is. let n = p.next in ⊎_elim
        (λ (z : (b ≡ slot) × (x ≡ h)). let e = z.1 in omega arith)
        (λ (z : held b ≡ Some h). let e = k.below b h z in omega arith)
        (at_open held slot x b h is);
    once = λ a b h i j. let n = p.next in ⊎_elim
        (λ (y : (a ≡ slot) × (x ≡ h)). ⊎_elim
        (λ (z : (b ≡ slot) × (x ≡ h)). y.0 ∙ sym z.0)
        (λ (z : held b ≡ Some h). let e = k.below b h z in let q = y.1 in absurd (omega arith))
        (at_open held slot x b h j))
        (λ (y : held a ≡ Some h). ⊎_elim
        (λ (z : (b ≡ slot) × (x ≡ h)). let e = k.below a h y in let q = z.1 in absurd (omega arith))
        (λ (z : held b ≡ Some h). k.once a b h y z)
        (at_open held slot x b h j))
        (at_open held slot x a h i);
    opened = λ b h is. ⊎_elim
        (λ (z : (b ≡ slot) × (x ≡ h)). ap (λ c. cond c (Some x) (held b)) (eq-eqb b slot z.0) ∙ ap (λ n. Some n) z.1)
        (λ (z : s.slots b ≡ Some h). ap (λ c. cond c (Some x) (held b)) (ne_eqb b slot (λ same. none-some h (sym p.free ∙ ap s.slots (sym same) ∙ z))) ∙ k.opened b h z)
        (at_open s.slots slot x b h is);
  }
  held_kept s held (TooMany c u gs) p k = record { below = k.below; once = k.once; opened = k.opened }
  held_kept s held (GenerationsSpent c u) p k = record { below = k.below; once = k.once; opened = k.opened }
  held_kept s held (Update c u) p k = record { below = k.below; once = k.once; opened = k.opened }
  held_kept s held (Finish g list) p k = record { below = k.below; once = k.once; opened = k.opened }
  held_kept s held (Superseded g by list) p k = record { below = k.below; once = k.once; opened = k.opened }
  held_kept s held (Acquire c g t) p k = record { below = k.below; once = k.once; opened = k.opened }
  held_kept s held (NotYet c) p k = record { below = k.below; once = k.once; opened = k.opened }
  held_kept s held (Release c g list) p k = record { below = k.below; once = k.once; opened = k.opened }
  held_kept s held (Free g) p k = record { below = k.below; once = k.once; opened = λ b h is. k.opened b h (at_freed g h (s.slots b) is).0 }

  held_from : (es : List (Entry U X L)) (s : State) (held : ℕ → Option ℕ) → LegalFrom l s es → AreHeld s held → AreHeld (fold after s es) (fold held_after held es)
  held_from [] s held legal k = k
  held_from (e ∷ es) s held legal k = held_from es (after s e) (held_after held e) legal.1 (held_kept s held e legal.0 k)

  pub are_held : (log : List (Entry U X L)) → Legal l log → AreHeld (state_of l log) (held_in log)
  are_held log legal = held_from log (start l) (λ _. None) legal record { below = λ b h is. absurd (none-some h is); once = λ a b h i _. absurd (none-some h i); opened = λ b h is. absurd (none-some h is) }
