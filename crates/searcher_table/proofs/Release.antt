-- Releasing keeps the rule: the slot's word counts one more, and the caller pins nothing any more.
use Rattle.std.proofs.Common.{◌≡◌, ◌≢◌, ◌⊎◌, ℕ, ◌+◌, ◌*◌, ◌/◌, ◌%◌, ◌≤◌, ◌<◌, ◌==◌, Bool, true, false, cond, List, [], ◌∷◌, ◌++◌, length, length-set, set, get_or-set_same, get_or-set_other, eq-eqb, ne_eqb, refl, sym, ap, ◌∙◌, subst, arith, inl, inr, ⊎_elim, Option, Some, None}
use mathlib.Core.Option.{some}
use mathlib.Core.Option as maybe
use mathlib.Core.Logic.{dite}
use native.Mathlib.Decide.{ℕ_discrete}
use Rattle.std.specs.Prelude.{slice_index, ◌^◌}
use Rattle.std.proofs.lemmas.Option.{same_Some}
use Rattle.atomic_table.specs.Table.{Me, Allows, gives, homes_after, step}
use Rattle.atomic_table.proofs.Lists.{set_here, set_else}
use Rattle.registry_machine.specs.declared.entry.Entry.{Entry}
use Rattle.registry_machine.specs.declared.entry.Entry.TheVariants.{Release}
use Rattle.registry_machine.specs.Callers.{mine}
use Rattle.registry_machine.specs.Machine.{State, after}
use Rattle.registry_machine.specs.Legal.{Legal, state_of}
use Rattle.registry_machine.proofs.Lists.{test_same}
use Rattle.searcher_table.specs.declared.board.Cell.{Cell}
use Rattle.searcher_table.specs.declared.board.Cell.TheVariants.{Full}
use Rattle.searcher_table.specs.declared.board.Plan.{Plan}
use Rattle.searcher_table.specs.declared.board.Known.{Known}
use Rattle.searcher_table.specs.Words.{word_count, current_word, slot_word, packed, limits}
use Rattle.searcher_table.specs.Counts.{is_acquire, is_not_yet, releases, pinned, NamesCaller}
use Rattle.searcher_table.specs.Rule.{CountsTooEarly, IsPacked, Two, released, Kept}
use Rattle.searcher_table.specs.declared.board.Task.{Task}
use Rattle.searcher_table.specs.declared.board.Task.TheVariants.{Idle, Duty, Back}
use Rattle.searcher_table.specs.Tasks.{is_settled, IsTask, Three}
use Rattle.searcher_table.specs.Doors.{cell_of, shown_in, left_in, left_after, told_in, held_in, IsDoor, IsDoorLeft, Four}
use Rattle.searcher_table.proofs.Doors.{cell_below, told_next, held_next, filled_none, four_own}
use Rattle.searcher_table.proofs.Showing.{shown_stays}
use Rattle.searcher_table.specs.Steps.{looked, duty_by, HasMade, Released}
use Rattle.searcher_table.proofs.Slotted.{three_released}
use Rattle.searcher_table.proofs.Frame.{put, covers}
use Rattle.searcher_table.proofs.Execute.{grows_legal}
use Rattle.searcher_table.proofs.Counts.{counts_last, not_own, pins_own, few_acquired, pinned_counts}
use Rattle.searcher_table.proofs.Holding.{are_held}
use Rattle.searcher_table.proofs.Standing.{bounded, slot_stays}
use Rattle.searcher_table.proofs.Beside.{own_last, not_counted, all_snoc, open_below, first_within}
use Rattle.searcher_table.proofs.Quiet.{state_next}
use Rattle.searcher_table.proofs.OwnStep.{pinned_still, own_step}

cond_most : (b : Bool) (n : ℕ) → cond b n 0 ≤ n
cond_most true n = omega arith
cond_most false n = omega arith

module _ {W U X L : Type 0} (p : Plan W) (log : List (Entry U X L)) (ls : List L) (words : List ℕ) (tasks : ℕ → Task) (c g slot x : ℕ) (long : length words ≡ word_count) (legal : Legal (limits p) log) (two : Two p log words) (three : Three p (state_of (limits p) log) (released log) (tasks 0) tasks words)
    (low : 1 ≤ c) (few_callers : c ≤ 64) (pins : (state_of (limits p) log).pins c ≡ Some g) (here : (state_of (limits p) log).slots slot ≡ Some g) where
  -- the word has room for one more
  fits : (slice_index words (slot_word slot) + 1) % 2 ^ 64 ≡ slice_index words (slot_word slot) + 1
  fits =
      let a = three.counts slot g (open_below p log slot g two.sizes legal here) here in
      let z = cond_most (is_settled (state_of (limits p) log) (tasks 0) g) (((state_of (limits p) log).acquired g + 1) * 4294967296) in
      let b = pinned_counts (limits p) g c log legal two.named low few_callers pins in
      let d = few_acquired (limits p) g p.budget log two.named two.within in
      let s = two.sizes.budget in
      omega arith

  -- what the words say after a release
  two_released : x ≡ slice_index words (slot_word slot) + 1 → Two p (log ++ Release c g ls ∷ []) (set words (slot_word slot) x)
  two_released is =
      let l = limits p in
      let e : Entry U X L = Release c g ls in
      let next = state_next l log e in
      let below = open_below p log slot g two.sizes legal here in
      let others : (i : ℕ) → i ≢ slot_word slot → slice_index (set words (slot_word slot) x) i ≡ slice_index words i = λ i n. get_or-set_other words (slot_word slot) i x 0 n in
      let word = others current_word (λ z. absurd (omega arith)) in
      record {
        sizes = two.sizes;
        current = ⊎_elim
            (λ (k : CountsTooEarly l log (slice_index words current_word)). inl record {
              none = ap (λ (s : State). s.current) next ∙ k.none;
              counted = word ∙ k.counted ∙ sym (not_counted is_not_yet log e refl);
            })
            (λ (k : IsPacked l log (slice_index words current_word)). inr record {
              generation = k.generation;
              slot = k.slot;
              current = ap (λ (s : State). s.current) next ∙ k.current;
              opened = ap (λ (s : State). s.slots k.slot) next ∙ k.opened;
              word_is = word ∙ k.word_is ∙ ap (packed k.generation k.slot) (sym (ap (λ (s : State). s.acquired k.generation) next));
            })
            two.current;
        named = all_snoc NamesCaller log e two.named (low, few_callers);
        within = λ d. let a = own_last d is_acquire log e in let b = not_own d is_acquire e refl in let w = two.within d in omega arith;
      }

  -- what the word found tells: the slot is to be freed exactly where its generation is settled and this was the last release
  abbrev own : Task
  own = tasks 0

  abbrev s : State
  s = state_of (limits p) log

  abbrev found : ℕ
  found = slice_index words (slot_word slot)

  last_release : (b : Bool) → is_settled s own g ≡ b → (duty_by found slot g ≡ cond b (cond (s.acquired g == released log g + 1) (Duty slot g) Idle) Idle)
  last_release true e =
      let w = three.counts slot g (open_below p log slot g two.sizes legal here) here in
      let k = ap (λ z. released log g + cond z ((s.acquired g + 1) * 4294967296) 0) e in
      let few = few_acquired (limits p) g p.budget log two.named two.within in
      let most = two.sizes.budget in
      let pinned = pinned_counts (limits p) g c log legal two.named low few_callers pins in
      dite (ℕ_discrete (s.acquired g) (released log g + 1))
      (λ same. ap (λ z. cond z (Duty slot g) Idle) (eq-eqb (found / 4294967296) (found % 4294967296 + 2) (omega arith) ∙ sym (eq-eqb (s.acquired g) (released log g + 1) same)))
      (λ other. ap (λ z. cond z (Duty slot g) Idle) (ne_eqb (found / 4294967296) (found % 4294967296 + 2) (λ z. other (omega arith)) ∙ sym (ne_eqb (s.acquired g) (released log g + 1) other)))
  last_release false e =
      let w = three.counts slot g (open_below p log slot g two.sizes legal here) here in
      let k = ap (λ z. released log g + cond z ((s.acquired g + 1) * 4294967296) 0) e in
      let few = few_acquired (limits p) g p.budget log two.named two.within in
      let most = two.sizes.budget in
      let pinned = pinned_counts (limits p) g c log legal two.named low few_callers pins in
      ap (λ z. cond z (Duty slot g) Idle) (ne_eqb (found / 4294967296) (found % 4294967296 + 2) (λ z. absurd (omega arith)))

  -- the slots after the release
  three_later : tasks c ≡ Idle → c ≤ p.callers → x ≡ slice_index words (slot_word slot) + 1 → Three p (after {U = U} {D = X} {L = L} s (Release c g ls)) (released (log ++ Release c g ls ∷ [])) own (put c (duty_by found slot g) tasks) (set words (slot_word slot) x)
  three_later idle callers is =
      let e : Entry U X L = Release c g ls in
      let below = open_below p log slot g two.sizes legal here in
      let pinned = pinned_counts (limits p) g c log legal two.named low few_callers pins in
      let more : released (log ++ e ∷ []) g ≡ released log g + 1 = (let b = counts_last (releases g) log e in let f : cond {A = ℕ} (g == g) 1 0 ≡ 1 = ap (λ b. cond b 1 0) (eq-eqb g g refl) in omega arith) in
      let b = bounded (limits p) log (first_within p two.sizes) legal in
      three_released U X L p s (released log) tasks words three c g slot ls (released (log ++ e ∷ [])) (set words (slot_word slot) x) (duty_by found slot g) (λ z. absurd (omega arith)) callers below here idle pinned
      (λ a at. b.one a slot g at here) more (λ h away. not_counted (releases h) log e (ne_eqb g h (λ z. away (sym z))))
      (get_or-set_same words (slot_word slot) x 0 (omega arith) ∙ is) (λ i n. get_or-set_other words (slot_word slot) i x 0 n)
      (λ settled out. last_release true settled ∙ ap (λ z. cond z (Duty slot g) Idle) (eq-eqb (s.acquired g) (released log g + 1) (sym out ∙ more)))
      (by_test (is_settled s own g) refl)
    where
      by_count : is_settled s own g ≡ true → (b : Bool) → (s.acquired g == released log g + 1) ≡ b → (duty_by found slot g ≡ Idle) ⊎ ((duty_by found slot g ≡ Duty slot g) × (is_settled s own g ≡ true) × (released (log ++ Release c g ls ∷ []) g ≡ s.acquired g))
      by_count settled true e = inr (
        last_release true settled ∙ ap (λ z. cond z (Duty slot g) Idle) e,
        settled,
        (let m = counts_last (releases g) log (Release c g ls) in let f : cond {A = ℕ} (g == g) 1 0 ≡ 1 = ap (λ b. cond b 1 0) (eq-eqb g g refl) in let t = test_same (s.acquired g) (released log g + 1) e in omega arith),
      )
      by_count settled false e = inl (last_release true settled ∙ ap (λ z. cond z (Duty slot g) Idle) e)

      by_test : (b : Bool) → is_settled s own g ≡ b → (duty_by found slot g ≡ Idle) ⊎ ((duty_by found slot g ≡ Duty slot g) × (is_settled s own g ≡ true) × (released (log ++ Release c g ls ∷ []) g ≡ s.acquired g))
      by_test true e = by_count e (s.acquired g == released log g + 1) refl
      by_test false e = inl (last_release false e)

-- what a release leaves of the deeds of others' doors, and of its own
module _ {L : Type 0} (U X : Type 0) (c g : ℕ) (ls : List L) (left : ℕ → ℕ → List L) where
  pub still_left : (h b : ℕ) → (h ≢ g) ⊎ (b ≢ c) → left_after {U = U} {X = X} left (Release c g ls) h b ≡ left h b
  still_left h b away = ⊎_elim
      (λ n. ap (λ z. cond z (cond (b == c) ls (left h b)) (left h b)) (ne_eqb h g n))
      (λ n. ap (λ z. cond (h == g) (cond z ls (left h b)) (left h b)) (ne_eqb b c n) ∙ either_way (h == g) (left h b))
      away
    where
      either_way : (z : Bool) (l : List L) → cond z l l ≡ l
      either_way true l = refl
      either_way false l = refl

  pub now_left : left_after {U = U} {X = X} left (Release c g ls) g c ≡ ls
  now_left = (λ i. cond (eq-eqb g g refl i) (cond (eq-eqb c c refl i) ls (left g c)) (left g c))

-- the act of a release: the door is back in its cell
module _ {D W U X L : Type 0} (setting : D → W) (docs : D → X) (deeds : D → List L) (p : Plan W) (log : List (Entry U X L)) (c slot g : ℕ) (own : Task) (filling : Option X) (homes : List (maybe.Option (Cell D U))) (d : D) where
  gives_by : (rel : ℕ → ℕ) (words : List ℕ) → Four setting docs deeds p (state_of (limits p) log) (told_in log) (held_in log) own filling homes → ((a b h : ℕ) → held_in log a ≡ Some h → held_in log b ≡ Some h → a ≡ b) → p.callers ≤ 64 → 1 ≤ c → c ≤ p.callers → (state_of (limits p) log).pins c ≡ Some g
      → (state_of (limits p) log).slots slot ≡ Some g → slot < (limits p).slots → IsTask p (state_of (limits p) log) own rel words 0 own → ((b : ℕ) → (state_of (limits p) log).slots b ≡ Some g → b ≡ slot) → IsDoor setting docs p (shown_in log g) d
      → Four setting docs deeds p (after {U = U} {D = X} {L = L} (state_of (limits p) log) (Release c g (deeds d))) (told_in (log ++ Release c g (deeds d) ∷ [])) (held_in (log ++ Release c g (deeds d) ∷ [])) own filling (set homes (cell_of slot c) (some (Full d)))
  gives_by rel words four once few low within pins here below begun one is =
      let s : State = state_of (limits p) log in
      let e : Entry U X L = Release c g (deeds d) in
      let cell : ℕ = cell_of slot c in
      let in_it : cell < 64 * (limits p).slots = cell_below slot c (limits p).slots below low (omega arith) in
      let long = four.size in
      four_own setting docs deeds p s (after {U = U} {D = X} {L = L} s e) (told_in log) (told_in (log ++ e ∷ [])) (held_in log) (held_in (log ++ e ∷ [])) own filling homes (set homes cell (some (Full d))) slot g c four few here low (omega arith) one (filled_none p s own rel words own begun)
      (λ _. refl) (λ b other. ap (λ z. cond z None (s.pins b)) (ne_eqb b c other)) (λ h away z. away (same_Some h g (sym z ∙ pins))) (λ h b away. told_next log e h b ∙ (λ i. (shown_in log h, still_left U X c g (deeds d) (left_in log) h b away i))) (λ b. held_next log e b) (λ b z. once b slot g z (four.opened slot g here))
      (length-set homes cell (some (Full d))) (λ j away. set_else homes cell j (some (Full d)) away)
      (λ _. (d, set_here homes cell (some (Full d)) (omega arith), subst (λ (o : Option X × List L). IsDoorLeft setting docs deeds p o d) (sym (told_next log e g c ∙ (λ i. (shown_in log g, now_left U X c g (deeds d) (left_in log) i)))) (is, refl)))

module _ {D W U X L : Type 0} (setting : D → W) (docs : D → X) (deeds : D → List L) (p : Plan W) where
  pub releases_slot : (slots id : ℕ) (me : Me (Cell D U) (Known W U X L)) (i slot g : ℕ) → i ≡ slot_word slot → slot < 70 → 1 ≤ me.0.caller → me.0.caller ≤ 64 → me.0.back ≡ []
      → pinned me.0.caller me.0.mine ≡ Some g → me.0.task ≡ Idle → (state_of (limits p) me.0.seen).slots slot ≡ Some g → (d : D) → me.1 ≡ (cell_of slot me.0.caller, Full d) ∷ [] → IsDoor setting docs p (shown_in me.0.seen g) d
      → Allows (Kept setting docs deeds p) slots id me i (λ n. (n + 1) % 2 ^ 64) (Released deeds (step slots i 1 0 maybe.none) me)
  releases_slot slots id me i slot g at_word below low few bare holds idle opened d out is_door s kept deep at small =
      let w = kept.world in
      let k = me.0 in
      let c : ℕ = k.caller in
      let all = kept.one.fits id k at in
      let calls = (all.pass low).calls in
      let l = limits p in
      let e : Entry U X L = Release c g (deeds d) in
      let log : List (Entry U X L) = w.log ++ e ∷ [] in
      let x : ℕ = (slice_index s.words i + 1) % 2 ^ 64 in
      let pins : (state_of l w.log).pins c ≡ Some g = pins_own l c w.log ∙ pinned_still c k.mine (mine c w.log) k.announced (w.pending c) calls ∙ holds in
      let here = slot_stays l w.log k.seen all.seen.0 c g slot (first_within p kept.two.sizes) kept.legal all.seen.1 opened pins in
      let is : x ≡ slice_index s.words (slot_word slot) + 1 =
      ap (λ n. (slice_index s.words n + 1) % 2 ^ 64) at_word ∙ fits p w.log (deeds d) s.words w.tasks c g slot x kept.words kept.legal kept.two kept.three low few pins here in
      let later = subst (λ (n : ℕ). Two p log (set s.words n x)) (sym at_word) (two_released p w.log (deeds d) s.words w.tasks c g slot x kept.words kept.legal kept.two kept.three low few pins here is) in
      let task : Task = duty_by (slice_index s.words i) slot g in
      let few_passes = kept.one.few in
      let dealt = (all.pass low).dealt in
      let slots : Three p (after (state_of l w.log) e) (released log) (w.tasks 0) (put c task w.tasks) (set s.words i x) =
      subst (λ (n : ℕ). Three p (after (state_of l w.log) e) (released log) (w.tasks 0) (put c (duty_by (slice_index s.words n) slot g) w.tasks) (set s.words n x)) (sym at_word)
      (three_later p w.log (deeds d) s.words w.tasks c g slot x kept.words kept.legal kept.two kept.three low few pins here (sym (all.pass low).task ∙ idle) (omega arith) is) in
      let b = bounded l w.log (first_within p kept.two.sizes) kept.legal in
      let cell : ℕ = cell_of slot c in
      let four_here : Four setting docs deeds p (after (state_of l w.log) e) (told_in log) (held_in log) (w.tasks 0) w.filling (set s.homes cell (some (Full d))) =
      gives_by setting docs deeds p w.log c slot g (w.tasks 0) w.filling s.homes d (released w.log) s.words kept.four (are_held l w.log kept.legal).once kept.two.sizes.callers low (omega arith) pins here (b.below slot g here) (kept.three.begun 0) (λ a z. b.one a slot g z here)
      (subst (λ (o : Option X). IsDoor setting docs p o d) (sym (shown_stays l w.log k.seen all.seen.0 slot g (first_within p kept.two.sizes) kept.legal all.seen.1 opened)) is_door) in
      let four : Four setting docs deeds p (after (state_of l w.log) e) (told_in log) (held_in log) (w.tasks 0) w.filling (homes_after s.homes me.1 gives) =
      subst (λ (hs : List (ℕ × Cell D U)). Four setting docs deeds p (after (state_of l w.log) e) (told_in log) (held_in log) (w.tasks 0) w.filling (homes_after s.homes hs gives)) (sym out) four_here in
      let new : Me (Cell D U) (Known W U X L) = (record (looked k log w.pending) { hand = None; task = task; fresh = k.fresh }, me.1) in (
        new.0,
        gives,
        tt,
        own_step setting docs deeds p s kept id i x me e task gives at low (λ z. let q : Idle ≡ Back = sym idle ∙ z in absurd (cc)) bare (omega arith) refl refl pins later slots four (λ f z. record { warming = z.warming; opened = z.opened }),
        λ t h x at_slot same carried. (
          subst (λ (n : (ℕ × ℕ) × D). HasMade (Release c n.0.1 (deeds n.1)) (duty_by (slice_index s.words i) n.0.0 n.0.1) me new)
              (λ j. (((let q : slot ≡ t = omega arith in q) j, same_Some g h (sym holds ∙ same) j), ap (door_in d) (sym out ∙ carried) j)) record {
                entered = record {
                  log = w.log;
                  pending = w.pending;
                  covers = covers p w id k all kept.legal;
                  legal = λ q eq. subst (λ (r : Plan W). Legal (limits r) log) (sym (all.plan q eq)) (grows_legal l w.log e kept.legal pins);
                  after = refl;
                };
                calls = λ _. calls;
              },
          refl,
        ),
      )
    where
      door_in : D → List (ℕ × Cell D U) → D
      door_in e ((k, Full x) ∷ xs) = x
      door_in e _ = e
