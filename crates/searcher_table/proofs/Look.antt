-- Looking keeps the rule, and tells the history so far. At the current word it tells what is current.
use Rattle.std.proofs.Common.{◌≡◌, ℕ, List, get_or, set, sym, refl, ◌∙◌, subst, length-set, Some}
use mathlib.Core.Option.{some}
use mathlib.Core.Option as maybe
use Rattle.std.specs.Prelude.{slice_index}
use Rattle.atomic_table.specs.Table.{Me, Allows, keeps, step}
use Rattle.std.proofs.lemmas.Option.{same_Some}
use Rattle.registry_machine.specs.declared.entry.Entry.{Entry}
use Rattle.registry_machine.specs.Legal.{Legal, state_of}
use Rattle.searcher_table.specs.declared.board.Cell.{Cell}
use Rattle.searcher_table.specs.declared.board.Plan.{Plan}
use Rattle.searcher_table.specs.declared.board.Known.{Known}
use Rattle.searcher_table.specs.Words.{call_word, current_word, code, limits}
use Rattle.searcher_table.specs.Tasks.{Three}
use Rattle.searcher_table.specs.Rule.{Two, released, Kept}
use Rattle.searcher_table.specs.Steps.{looked, TellsCurrent, Looked, Peeked}
use Rattle.searcher_table.proofs.Current.{tells}
use Rattle.searcher_table.proofs.Frame.{set_same, own_task, one_after, covers}

module _ {D W U X L : Type 0} (setting : D → W) (docs : D → X) (deeds : D → List L) (p : Plan W) where
  -- a word is read, and what is told may rest on what the rule says of it
  reads : (slots id : ℕ) (me : Me (Cell D U) (Known W U X L)) (i : ℕ) (then : ℕ → Me (Cell D U) (Known W U X L) → Type 0)
      → ((log : List (Entry U X L)) (words : List ℕ) (new : Me (Cell D U) (Known W U X L)) → Two p log words → Legal (limits p) log → (told : Looked (step slots i 0 0 maybe.none) me (slice_index words i) new) → told.log ≡ log → then (slice_index words i) new)
      → Allows (Kept setting docs deeds p) slots id me i (λ n. n) then
  reads slots id me i then told s kept deep at small =
      let w = kept.world in
      let f = kept.one.fits id me.0 at in
      let same : set s.words i (get_or s.words i 0) ≡ s.words = set_same s.words i in (
        looked me.0 w.log w.pending,
        keeps,
        tt,
        record {
          words = length-set s.words i (get_or s.words i 0) ∙ kept.words;
          world = w;
          legal = kept.legal;
          two = subst (Two p w.log) (sym same) kept.two;
          four = kept.four;
          three = subst (Three p (state_of (limits p) w.log) (released w.log) (w.tasks 0) w.tasks) (sym same) kept.three;
          one = one_after p w w.log w.pending w.hand_at w.tasks w.fresh_at id me.0 me.0.hand me.0.task me.0.fresh s.words (set s.words i (get_or s.words i 0)) s.views kept.one at
              record { log = λ _ t. t; passes = λ _ _ _ _ t. t; hands = λ _ _ _ t. t; freshes = λ _ _ _ t. t; registrars = λ _ _ _ t. t; backs = λ _ _ _ t. t }
              (λ c low high. subst (λ (ws : List ℕ). slice_index ws (call_word c) ≡ code (w.pending c)) (sym same) (kept.one.calls c low high))
              kept.one.undealt kept.one.over record { hands = f.hand; freshes = f.fresh; begun = own_task p w id me.0 f; backs = f.back };
        },
        told w.log s.words (looked me.0 w.log w.pending, me.1) kept.two kept.legal record {
          log = w.log;
          pending = w.pending;
          covers = covers p w id me.0 f kept.legal;
          calls = λ c. (f.pass c).calls;
          after = refl;
        } refl,
      )

  pub looks : (slots id : ℕ) (me : Me (Cell D U) (Known W U X L)) (i : ℕ) → Allows (Kept setting docs deeds p) slots id me i (λ n. n) (Looked (step slots i 0 0 maybe.none) me)
  looks slots id me i = reads slots id me i (Looked (step slots i 0 0 maybe.none) me) (λ _ _ _ _ _ told _. told)

  -- the current word tells what is current
  pub peeks : (slots id : ℕ) (me : Me (Cell D U) (Known W U X L)) → me.0.plan ≡ Some p → Allows (Kept setting docs deeds p) slots id me current_word (λ n. n) (Peeked (step slots current_word 0 0 maybe.none) me)
  peeks slots id me is = reads slots id me current_word (Peeked (step slots current_word 0 0 maybe.none) me)
      (λ log words new two legal told same. record {
        looked = told;
        tells = λ q e. subst (λ (z : Plan W × List (Entry U X L)). TellsCurrent (limits z.0) z.1 (slice_index words current_word)) (λ j. (same_Some p q (sym is ∙ e) j, sym same j)) (tells p log words legal two);
      })
