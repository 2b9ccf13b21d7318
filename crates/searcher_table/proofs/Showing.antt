-- What a generation shows stays, since no later opening has its number.
use Rattle.std.proofs.Common.{◌≡◌, ℕ, ◌+◌, ◌≤◌, cond, ne_eqb, List, [], ◌∷◌, ◌++◌, fold, refl, ap, ◌∙◌, subst, arith, Option, Some, None}
use Rattle.std.proofs.lemmas.List.Sums.{fold-append}
use Rattle.registry_machine.specs.declared.entry.Entry.{Entry}
use Rattle.registry_machine.specs.declared.entry.Entry.TheVariants.{Open, TooMany, GenerationsSpent, Update, Finish, Superseded, Acquire, NotYet, Release, Free}
use Rattle.registry_machine.specs.Machine.{Limits, State, start, after}
use Rattle.registry_machine.specs.Legal.{IsAllowed, LegalFrom, Legal, state_of}
use Rattle.registry_machine.proofs.Runs.{split}
use Rattle.searcher_table.specs.Doors.{shown_after, shown_in}
use Rattle.searcher_table.proofs.Standing.{bounded}

module _ {U X L : Type 0} (l : Limits) where
  shown_still : (s : State) (f : ℕ → Option X) (e : Entry U X L) (g : ℕ) → IsAllowed l s e → g ≤ s.last_opened → (shown_after f e g ≡ f g) × (g ≤ (after s e).last_opened)
  shown_still s f (Open c u h slot x) g may low = let n = may.next in (ap (λ b. cond b (Some x) (f g)) (ne_eqb g h (λ z. absurd (omega arith))), omega arith)
  shown_still s f (TooMany c u gs) g may low = (refl, low)
  shown_still s f (GenerationsSpent c u) g may low = (refl, low)
  shown_still s f (Update c u) g may low = (refl, low)
  shown_still s f (Finish h list) g may low = (refl, low)
  shown_still s f (Superseded h by list) g may low = (refl, low)
  shown_still s f (Acquire c h k) g may low = (refl, low)
  shown_still s f (NotYet c) g may low = (refl, low)
  shown_still s f (Release c h list) g may low = (refl, low)
  shown_still s f (Free h) g may low = (refl, low)

  shown_run : (s : State) (f : ℕ → Option X) (es : List (Entry U X L)) (g : ℕ) → LegalFrom l s es → g ≤ s.last_opened → fold shown_after f es g ≡ f g
  shown_run s f [] g legal low = refl
  shown_run s f (e ∷ es) g legal low = let k = shown_still s f e g legal.0 low in shown_run (after s e) (shown_after f e) es g legal.1 k.1 ∙ k.0

  -- a generation for which a slot was open shows what it showed
  pub shown_stays : (log seen rest : List (Entry U X L)) (slot g : ℕ) → l.first_generation ≤ l.last_generation + 1 → Legal l log → log ≡ seen ++ rest → (state_of l seen).slots slot ≡ Some g → shown_in log g ≡ shown_in seen g
  shown_stays log seen rest slot g first legal grown opened =
      let parts = split l (start l) seen rest (subst (λ (h : List (Entry U X L)). Legal l h) grown legal) in
      let b = bounded l seen first parts.0 in
      ap (λ (h : List (Entry U X L)). shown_in h g) grown ∙ ap (λ (f : ℕ → Option X). f g) (fold-append shown_after (λ _. None) seen rest)
      ∙ shown_run (state_of l seen) (shown_in seen) rest g parts.1 (b.slots.opened slot g opened)
