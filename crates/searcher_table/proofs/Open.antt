-- Executing an opening keeps the rule: it opens the next generation.
use Rattle.std.proofs.Common.{◌≡◌, ◌≢◌, ℕ, ◌+◌, ◌<◌, ◌≤◌, ◌||◌, cond, eq-eqb, ne_eqb, List, [], ◌∷◌, ◌++◌, length, set, true, false, sym, refl, ap, ◌∙◌, subst, arith, Option, Some, None}
use mathlib.Core.Option as maybe
use prog.Atomic.{either}
use Rattle.std.specs.Prelude.{◌==◌}
use Rattle.std.proofs.lemmas.Option.{same_Some, none-some}
use Rattle.atomic_table.specs.Table.{Me, Allows, step}
use Rattle.registry_machine.specs.declared.entry.Entry.{Entry}
use Rattle.registry_machine.specs.Machine.{State, is_in}
use Rattle.registry_machine.specs.Legal.{state_of}
use Rattle.registry_machine.proofs.Lists.{in_append, in_last_here}
use Rattle.searcher_table.specs.declared.board.Call.TheVariants.{Open as ToOpen}
use Rattle.searcher_table.specs.declared.board.Cell.{Cell}
use Rattle.searcher_table.specs.declared.board.Plan.{Plan}
use Rattle.searcher_table.specs.declared.board.Hand.{Hand}
use Rattle.searcher_table.specs.declared.board.Known.{Known}
use Rattle.searcher_table.specs.declared.board.Task.{Task}
use Rattle.searcher_table.specs.declared.board.Task.TheVariants.{Idle, Filled}
use Rattle.searcher_table.specs.declared.board.Fresh.{Fresh}
use Rattle.searcher_table.specs.Tasks.{IsWarming, Three}
use Rattle.searcher_table.specs.Words.{call_word, code_of, limits, last_generation}
use Rattle.searcher_table.specs.Counts.{releases}
use Rattle.searcher_table.specs.Rule.{IsFresh, released, Kept}
use Rattle.searcher_table.specs.Steps.{opening_of, HasExecuted, Opened}
use Rattle.searcher_table.proofs.Frame.{put, put_here, put_else}
use Rattle.searcher_table.proofs.Quiet.{quiet_since, state_next}
use Rattle.searcher_table.proofs.Standing.{bounded}
use Rattle.searcher_table.proofs.Beside.{AreSame, call_beside, few_slots, first_within, kept_open, never_released, not_counted, opening_apart}
use Rattle.searcher_table.proofs.Slotted.{three_words, three_after, slots_same}
use Rattle.searcher_table.proofs.Slotting.{three_opened}
use Rattle.searcher_table.specs.Doors.{shown_in, left_in, told_in, held_in, Four}
use Rattle.searcher_table.proofs.Doors.{told_next, held_next, four_opened}
use Rattle.searcher_table.proofs.Holding.{are_held}
use Rattle.searcher_table.proofs.Execute.{executes}

-- what is given, if anything is
abbrev given_or : {X : Type 0} → X → Option X → X
given_or x None = x
given_or x (Some y) = y

in_still : (f g : ℕ) (xs : List ℕ) → is_in f xs ≡ true → is_in f (xs ++ g ∷ []) ≡ true
in_still f g xs is = in_append f xs (g ∷ []) ∙ ap (λ b. b || (g == f || false)) is

module _ {D W U X L : Type 0} (setting : D → W) (docs : D → X) (deeds : D → List L) (p : Plan W) where
  -- an opening has the next generation, in the slot that was filled
  pub opens_next : (slots id : ℕ) (me : Me (Cell D U) (Known W U X L)) (i : ℕ) (h : Hand U) (slot n : ℕ) (x : X) → i ≡ call_word h.caller → 1 ≤ h.caller → h.caller ≤ 64 → me.0.hand ≡ Some h → me.0.registrar ≡ true → me.0.plan ≡ Some p
      → h.asked.call ≡ ToOpen → me.0.task ≡ Filled slot n → n ≡ p.callers → me.0.filling ≡ Some x → slot < (limits p).slots → (state_of (limits p) me.0.seen).slots slot ≡ None → length (state_of (limits p) me.0.seen).warming < p.max_warming → (state_of (limits p) me.0.seen).last_opened < last_generation
      → Allows (Kept setting docs deeds p) slots id me i (λ n. either (n == 1) 0 n) (Opened (step slots i 1 0 maybe.none) me)
  opens_next slots id me i h slot n x at_word low few has role told is full all shows below none room left =
      let l = limits p in
      let t = state_of l me.0.seen in
      let g : ℕ = t.last_opened + 1 in
      let e : Entry U X L = opening_of p me.0.seen h slot x in
      let fresh : Fresh = record { generation = g; slot = slot } in
      executes setting docs deeds p slots id me i (λ n. either (n == 1) 0 n) h e Idle (Some fresh) at_word low few (ap (λ c. either (code_of c == 1) 0 (code_of c)) is) has role
      record { caller = refl; content = refl; call = ap (λ x. Some x) (sym is) }
      (λ log q. let o = quiet_since l log me.0.seen q in record {
        room = subst (λ (gs : List ℕ). length gs < p.max_warming) (sym o.warming) room;
        next = ap (λ n. n + 1) (sym o.last);
        within = omega arith;
        slot = below;
        free = o.free slot none;
      })
      (λ log legal named may. opening_apart l log h.caller h.asked.content g slot x may)
      (λ s kept at may.
      let w = kept.world in
      let r = (kept.one.fits id me.0 at).registrar role in
      let v : State = state_of l w.log in
      let b = bounded l w.log (first_within p kept.two.sizes) kept.legal in
      let held = are_held l w.log kept.legal in
      let olds : (b h : ℕ) → v.slots b ≡ Some h → h ≢ g = λ a h opened same. (let o = b.slots.opened a h opened in let n = may.next in absurd (omega arith)) in
      let words : Three p v (released w.log) (w.tasks 0) w.tasks (set s.words i 0) =
      three_words p v (released w.log) w.tasks (few_slots p kept.two.sizes) s.words (set s.words i 0) (slots_same s.words (set s.words i 0) (subst (λ (n : ℕ). AreSame s.words (set s.words n 0)) (sym at_word) (call_beside s.words h.caller 0))) kept.three in
      let after_it = three_opened U X L p v (released w.log) w.tasks (set s.words i 0) words h.caller h.asked.content g slot n x (sym r.task ∙ full) (never_released l w.log g kept.legal kept.two.named may.next) olds in
      let next = state_next l w.log e in
      record {
        fresh_at = put g id w.fresh_at;
        over = λ m _ z. absurd (none-some m z);
        three = three_after p w.log e Idle (put 0 Idle w.tasks) (set s.words i 0) (λ h. not_counted (releases h) w.log e refl) after_it;
        four =
            let before : Four setting docs deeds p v (told_in w.log) (held_in w.log) (Filled slot n) (Some x) s.homes =
            subst (λ (z : Task × Option X). Four setting docs deeds p v (told_in w.log) (held_in w.log) z.0 z.1 s.homes) (λ j. ((sym r.task ∙ full) j, (sym r.filling ∙ shows) j)) kept.four in
            subst (λ (z : State × Option X). Four setting docs deeds p z.0 (told_in (w.log ++ e ∷ [])) (held_in (w.log ++ e ∷ [])) Idle z.1 s.homes) (λ j. (sym next j, (sym shows ∙ r.filling) j))
            (four_opened setting docs deeds p v (told_in w.log) (told_in (w.log ++ e ∷ [])) (held_in w.log) (held_in (w.log ++ e ∷ [])) slot n h.caller g h.asked.content x s.homes all may.free olds
            (λ y d at. told_next w.log e y d ∙ (λ j. (cond (eq-eqb y g at j) (Some x) (shown_in w.log y), cond (eq-eqb y g at j) [] (left_in w.log y d))))
            (λ y d away. told_next w.log e y d ∙ (λ j. (cond (ne_eqb y g away j) (Some x) (shown_in w.log y), cond (ne_eqb y g away j) [] (left_in w.log y d))))
            (λ a y is same. (let o = held.below a y is in let n = may.next in absurd (omega arith)))
            (held_next w.log e slot ∙ ap (λ b. cond b (Some g) (held_in w.log slot)) (eq-eqb slot slot refl))
            (λ a away. held_next w.log e a ∙ ap (λ b. cond b (Some g) (held_in w.log a)) (ne_eqb a slot away)) before);
        others = λ j f away (i : IsFresh w j l f). (
          put_else g id w.fresh_at f.generation (olds f.slot f.generation i.warming.opened) ∙ i.here,
          subst (λ (z : State). IsWarming z f) (sym next) record { warming = in_still f.generation g v.warming i.warming.warming; opened = kept_open v.slots slot g f.slot f.generation may.free i.warming.opened },
        );
        own = λ f is. subst (λ (z : Fresh). (put g id w.fresh_at z.generation ≡ id) × IsWarming (state_of l (w.log ++ e ∷ [])) z) (same_Some fresh f is) (
          put_here g id w.fresh_at,
          subst (λ (z : State). IsWarming z fresh) (sym next) record { warming = in_last_here g v.warming; opened = ap (λ b. cond b (Some g) (v.slots slot)) (eq-eqb slot slot refl) },
        );
      })
      (Opened (step slots i 1 0 maybe.none) me)
      (λ _ new done g' r b m y e' t' c' s'. subst (λ (z : Hand U × Plan W × ℕ × X). HasExecuted (opening_of z.1 me.0.seen z.0 z.2 z.3) Idle (Some (record { generation = (state_of (limits z.1) me.0.seen).last_opened + 1; slot = z.2 })) me new)
      (λ j. (same_Some h g' (sym has ∙ e') j, same_Some p r (sym told ∙ t') j, ap filled_slot (sym full ∙ c') j, ap (given_or x) (sym shows ∙ s') j)) done)
    where
      filled_slot : Task → ℕ
      filled_slot (Filled b m) = b
      filled_slot _ = 0
