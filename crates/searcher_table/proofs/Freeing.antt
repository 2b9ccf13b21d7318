-- Freeing a slot keeps the rule: whose duty it is sets its bit, and nobody uses its generation.
use Rattle.std.proofs.Common.{◌≡◌, ◌≢◌, ◌⊎◌, ℕ, ◌<◌, ◌≤◌, false, cond, ne_eqb, List, [], ◌∷◌, ◌++◌, set, sym, refl, ap, ◌∙◌, subst, inl, inr, ⊎_elim, arith, get_or-set_other, Option, Some, None, IfSome}
use mathlib.Core.Option.{some}
use mathlib.Core.Option as maybe
use mathlib.Core.Logic.{dite}
use native.Mathlib.Decide.{ℕ_discrete}
use Rattle.std.specs.Prelude.{slice_index, length}
use Rattle.std.specs.List.{AllByRecursion}
use Rattle.std.proofs.lemmas.Option.{same_Some, none-some}
use Rattle.std.proofs.lemmas.Bool.{cases_lt}
use Rattle.atomic_table.specs.Table.{Me, Allows, keeps, step}
use Rattle.registry_machine.specs.declared.entry.Entry.{Entry}
use Rattle.registry_machine.specs.declared.entry.Entry.TheVariants.{Free}
use Rattle.registry_machine.specs.Callers.{mine}
use Rattle.registry_machine.specs.Entries.{caller_of}
use Rattle.registry_machine.specs.Machine.{State, is_in, is_some_of, after}
use Rattle.registry_machine.specs.Legal.{CanFree, Legal, state_of}
use Rattle.registry_machine.proofs.Lists.{true_and_false}
use Rattle.searcher_table.specs.declared.board.Cell.{Cell}
use Rattle.searcher_table.specs.declared.board.Plan.{Plan}
use Rattle.searcher_table.specs.declared.board.Known.{Known}
use Rattle.searcher_table.specs.declared.board.Task.{Task}
use Rattle.searcher_table.specs.declared.board.Task.TheVariants.{Idle, Found, Claimed, Filled, Filling, Unsettled, Duty, Back, Emptied}
use Rattle.searcher_table.specs.declared.board.Fresh.{Fresh}
use Rattle.searcher_table.specs.Words.{word_count, current_word, mask_word, limits}
use Rattle.searcher_table.specs.Counts.{releases, pinned, NamesCaller}
use Rattle.searcher_table.specs.Tasks.{claimed, unsettled, emptied, IsDuty, IsTask, IsWarming, Three}
use Rattle.searcher_table.specs.Rule.{Two, released, Kept}
use Rattle.searcher_table.specs.Steps.{looked, HasMade, Freed}
use Rattle.searcher_table.proofs.Frame.{put, put_here, put_else, Acts, own_task, covers}
use Rattle.searcher_table.proofs.Counts.{pins_own, pinned_counts}
use Rattle.searcher_table.proofs.Execute.{grows_legal}
use Rattle.searcher_table.proofs.Quiet.{state_next}
use Rattle.searcher_table.proofs.Standing.{bounded}
use Rattle.searcher_table.proofs.Beside.{Apart, first_within, not_counted, two_entry}
use Rattle.searcher_table.proofs.Bits.{with, marked_here, marked_else, slots_beside}
use Rattle.searcher_table.proofs.Slotted.{three_after, settled_parts}
use Rattle.searcher_table.proofs.Slotting.{three_freed}
use Rattle.searcher_table.specs.Doors.{laid, reached, told_in, held_in, Four}
use Rattle.searcher_table.proofs.Doors.{told_next, held_next, four_freed}
use Rattle.searcher_table.proofs.Turning.{turns}

-- ---- who can pin

named_not : (c : ℕ) → (c ≡ 0) ⊎ (64 < c) → (o : Option ℕ) → IfSome o (λ d. (1 ≤ d) × (d ≤ 64)) → is_some_of c o ≡ false
named_not c out None n = refl
named_not c out (Some d) n = let a = n.0 in let b = n.1 in ne_eqb d c (λ e. ⊎_elim (λ z. absurd (omega arith)) (λ z. absurd (omega arith)) out)

module _ {U X L : Type 0} where
  pub none_own : (c : ℕ) → (c ≡ 0) ⊎ (64 < c) → (es : List (Entry U X L)) → AllByRecursion NamesCaller es → mine c es ≡ []
  none_own c out [] named = refl
  none_own c out (e ∷ es) named = ap (λ b. cond b (e ∷ mine c es) (mine c es)) (named_not c out (caller_of e) named.0) ∙ none_own c out es named.1

  -- the registrar pins nothing
  pub nothing_pinned : {W : Type 0} (p : Plan W) (log : List (Entry U X L)) → AllByRecursion NamesCaller log → (state_of (limits p) log).pins 0 ≡ None
  nothing_pinned p log named = pins_own (limits p) 0 log ∙ ap (pinned 0) (none_own 0 (inl refl) log named)

  -- nobody pins a generation that was released as often as acquired
  pub nobody_pins : {W : Type 0} (p : Plan W) (log : List (Entry U X L)) (g : ℕ) → Legal (limits p) log → AllByRecursion NamesCaller log → released log g ≡ (state_of (limits p) log).acquired g → (c : ℕ) → (state_of (limits p) log).pins c ≢ Some g
  nobody_pins p log g legal named drained c pins =
      let none : (c ≡ 0) ⊎ (64 < c) → ⊥ = λ out. none-some g (sym (pins_own (limits p) c log ∙ ap (pinned c) (none_own c out log named)) ∙ pins) in
      dite (ℕ_discrete c 0) (λ z. none (inl z)) (λ some. ⊎_elim (λ high. none (inr high))
      (λ few. let a = pinned_counts (limits p) g c log legal named (omega arith) few pins in absurd (omega arith)) (cases_lt 64 c))

module _ {W : Type 0} (p : Plan W) (s : State) (own : Task) (rel : ℕ → ℕ) (words : List ℕ) where
  -- a claimed slot is open for none
  claimed_none : (a : Task) (slot : ℕ) → IsTask p s own rel words 0 a → claimed a ≡ Some slot → s.slots slot ≡ None
  claimed_none Idle slot h e = absurd (none-some slot e)
  claimed_none (Found b) slot h e = absurd (none-some slot e)
  claimed_none (Claimed b) slot h e = ap s.slots (sym (same_Some b slot e)) ∙ h.2
  claimed_none (Filled b n) slot h e = ap s.slots (sym (same_Some b slot e)) ∙ h.1.none
  claimed_none (Filling b n) slot h e = ap s.slots (sym (same_Some b slot e)) ∙ h.1.none
  claimed_none (Unsettled b g total) slot h e = absurd (none-some slot e)
  claimed_none (Duty b g) slot h e = absurd (none-some slot e)
  claimed_none Back slot h e = absurd (none-some slot e)
  claimed_none (Emptied n) slot h e = absurd (none-some slot e)

-- who frees has claimed nothing and leaves nothing to tell
same_of : {A : Type 0} (f : Task → A) (tasks : ℕ → Task) (c slot g : ℕ) → f Idle ≡ f (Duty slot g) → tasks c ≡ Duty slot g → f (put c Idle tasks 0) ≡ f (tasks 0)
same_of f tasks c slot g same has = dite (ℕ_discrete 0 c)
    (λ z. ap f (ap (put c Idle tasks) z ∙ put_here c Idle tasks) ∙ same ∙ ap f (sym (ap tasks z ∙ has)))
    (λ other. ap f (put_else c Idle tasks 0 other))

module _ {D W U X L : Type 0} (setting : D → W) (docs : D → X) (deeds : D → List L) (p : Plan W) where
  pub frees : (slots id : ℕ) (me : Me (Cell D U) (Known W U X L)) (i q slot g : ℕ) (f : ℕ → ℕ) → i ≡ mask_word slot → slot < 128 → Acts me.0 → me.0.task ≡ Duty slot g
      → ((words : List ℕ) (long : length words ≡ word_count) (low : slot < 128) (n : ℕ) → f n ≡ with words slot long low n)
      → Allows (Kept setting docs deeds p) slots id me i f (Freed (step slots i q 0 maybe.none) me)
  frees slots id me i q slot g f at_word low acts duty is s kept deep at small =
      let w = kept.world in
      let k = me.0 in
      let c : ℕ = k.caller in
      let l = limits p in
      let all = kept.one.fits id k at in
      let v : State = state_of l w.log in
      let e : Entry U X L = Free g in
      let log : List (Entry U X L) = w.log ++ e ∷ [] in
      let own : w.tasks c ≡ Duty slot g = sym (own_task p w id k all acts) ∙ duty in
      let d : IsDuty p v (w.tasks 0) (released w.log) c slot g = subst (λ (a : Task). IsTask p v (w.tasks 0) (released w.log) s.words c a) own (kept.three.begun c) in
      let parts = settled_parts v (w.tasks 0) g d.settled in
      let may : CanFree v g = record { opened = (slot, d.opened); not_current = parts.1; not_warming = parts.0; not_pinned = nobody_pins p w.log g kept.legal kept.two.named d.drained } in
      let legal = grows_legal l w.log e kept.legal may in
      let b = bounded l w.log (first_within p kept.two.sizes) kept.legal in
      let x : ℕ = with s.words slot kept.words low (slice_index s.words (mask_word slot)) in
      let value : f (slice_index s.words i) ≡ x = is s.words kept.words low (slice_index s.words i) ∙ ap (λ m. with s.words slot kept.words low (slice_index s.words m)) at_word in
      let next = state_next l w.log e in
      let three : Three p (state_of l log) (released log) (put c Idle w.tasks 0) (put c Idle w.tasks) (set s.words (mask_word slot) x) =
      three_after p w.log e (put c Idle w.tasks 0) (put c Idle w.tasks) (set s.words (mask_word slot) x) (λ h. not_counted (releases h) w.log e refl)
      (three_freed U X L p v (released w.log) w.tasks s.words kept.three c slot g (put c Idle w.tasks 0) (set s.words (mask_word slot) x) own (b.below slot g d.opened) (λ a z. b.one a slot g z d.opened)
      (same_of claimed w.tasks c slot g refl own) (same_of unsettled w.tasks c slot g refl own)
      (λ z. none-some g (sym (claimed_none p v (w.tasks 0) (released w.log) s.words (w.tasks 0) slot (kept.three.begun 0) z) ∙ d.opened))
      (marked_here s.words slot kept.words low) (marked_else s.words slot kept.words low) (slots_beside s.words slot x kept.words low)) in
      let four : Four setting docs deeds p (state_of l log) (told_in log) (held_in log) (put c Idle w.tasks 0) w.filling s.homes =
      subst (λ (z : State × (ℕ → ℕ → Option X × List L) × (ℕ → Option ℕ)). Four setting docs deeds p z.0 z.1 z.2 (put c Idle w.tasks 0) w.filling s.homes) (λ j. (sym next j, (λ h d. sym (told_next w.log e h d) j), (λ b. sym (held_next w.log e b) j)))
      (four_freed setting docs deeds p v (told_in w.log) (held_in w.log) (w.tasks 0) (put c Idle w.tasks 0) g w.filling s.homes may.not_pinned (same_of reached w.tasks c slot g refl own) (same_of laid w.tasks c slot g refl own) (same_of emptied w.tasks c slot g refl own) kept.four) in
      let kept_slot : (h a : ℕ) → h ≢ g → v.slots a ≡ Some h → (after v e).slots a ≡ Some h = λ h a away z. ap (λ o. cond (is_some_of g o) None o) z ∙ ap (λ t. cond t None (Some h)) (ne_eqb h g away) in
      let apart : Apart l w.log e = record {
        current = refl;
        acquired = λ _. refl;
        stays = λ a h current z. kept_slot h a (λ same. parts.1 (current ∙ ap (λ n. Some n) same)) z;
        early = refl;
        acquire = refl;
        released = λ _. refl;
      } in
      let two : Two p log (set s.words i (f (slice_index s.words i))) =
      two_entry p w.log e s.words (set s.words i (f (slice_index s.words i))) (get_or-set_other s.words i current_word (f (slice_index s.words i)) 0 (λ z. absurd (omega arith))) apart tt kept.two in
      let warm : (h : Fresh) → IsWarming v h → IsWarming (state_of l log) h = λ h z. subst (λ (n : State). IsWarming n h) (sym next)
      record { warming = z.warming; opened = kept_slot h.generation h.slot (λ same. true_and_false (is_in g v.warming) (ap (λ n. is_in n v.warming) (sym same) ∙ z.warming) parts.0) z.opened } in
      let new : Me (Cell D U) (Known W U X L) = (record (looked k log w.pending) { hand = None; task = Idle; fresh = k.fresh }, me.1) in (
        new.0,
        keeps,
        tt,
        turns setting docs deeds p s kept id i (f (slice_index s.words i)) me log (e ∷ []) Idle k.fresh w.fresh_at keeps at acts (λ _ z. let q : Duty slot g ≡ Back = sym duty ∙ z in absurd (cc)) (λ m _ z. absurd (none-some m z)) (omega arith) refl (refl, tt) (inl (refl, tt)) legal two
            (subst (λ (z : ℕ × ℕ). Three p (state_of l log) (released log) (put c Idle w.tasks 0) (put c Idle w.tasks) (set s.words z.0 z.1)) (λ j. (sym at_word j, sym value j)) three)
            four
            (λ j h away z. (z.here, warm h z.warming))
            (λ h z. let y = all.fresh h z in (y.here, warm h y.warming)),
        λ a h has. subst (λ (n : ℕ). HasMade (Free n) Idle me new) (ap generation_of (sym duty ∙ has)) record {
          entered = record {
            log = w.log;
            pending = w.pending;
            covers = covers p w id k all kept.legal;
            legal = λ r eq. subst (λ (z : Plan W). Legal (limits z) log) (sym (all.plan r eq)) legal;
            after = refl;
          };
          calls = λ own. (all.pass own).calls;
        },
      )
    where
      generation_of : Task → ℕ
      generation_of (Duty a h) = h
      generation_of _ = 0
