-- Ending a warming keeps the rule: its generation is current, or a greater one is, and a slot is then to be settled.
use Rattle.std.proofs.Common.{◌≡◌, ◌≢◌, ℕ, ◌+◌, ◌*◌, ◌/◌, ◌%◌, ◌<◌, ◌≤◌, ◌==◌, Bool, true, false, not, ◌||◌, ◌&&◌, cond, eq-eqb, ne_eqb, List, [], ◌∷◌, ◌++◌, filter, set, get_or-set_same, get_or-set_other, sym, refl, ap, ◌∙◌, subst, inr, ⊎_elim, arith, Option, Some, None, IfSome}
use mathlib.Core.Option.{some}
use mathlib.Core.Option as maybe
use mathlib.Core.Logic.{dite}
use native.Mathlib.Decide.{ℕ_discrete}
use Rattle.std.specs.Prelude.{slice_index}
use Rattle.std.proofs.lemmas.Option.{same_Some, none-some}
use Rattle.atomic_table.specs.Table.{Me, Allows, keeps, step}
use Rattle.atomic_table.specs.Table.{stepped}
use Rattle.registry_machine.specs.declared.entry.Entry.{Entry}
use Rattle.registry_machine.specs.declared.entry.Entry.TheVariants.{Finish, Superseded}
use Rattle.registry_machine.specs.Callers.{mine}
use Rattle.registry_machine.specs.Machine.{Limits, State, is_in, is_some_of, after}
use Rattle.registry_machine.specs.Legal.{CanFinish, IsSuperseded, Legal, state_of}
use Rattle.registry_machine.proofs.Lists.{true_and_false, in_without, not_in_kept, not_in_own}
use Rattle.searcher_table.specs.declared.board.Cell.{Cell}
use Rattle.searcher_table.specs.declared.board.Plan.{Plan}
use Rattle.searcher_table.specs.declared.board.Known.{Known}
use Rattle.searcher_table.specs.declared.board.Task.{Task}
use Rattle.searcher_table.specs.declared.board.Task.TheVariants.{Idle, Unsettled, Duty}
use Rattle.searcher_table.specs.declared.board.Fresh.{Fresh}
use Rattle.searcher_table.specs.Words.{current_word, slot_word, packed, limits}
use Rattle.searcher_table.specs.Warming.{number_of}
use Rattle.searcher_table.specs.Counts.{is_acquire, releases}
use Rattle.searcher_table.specs.Tasks.{claimed, unsettled, emptied, is_settled, IsDuty, IsTask, IsWarming, Three}
use Rattle.searcher_table.specs.Rule.{IsFresh, Two, released, Kept}
use Rattle.searcher_table.specs.Steps.{looked, left_by, TellsNone, TellsGeneration, TellsCurrent, HasExecuted, HasPublished, Published, Superseding}
use Rattle.searcher_table.proofs.Frame.{put, not_some, covers}
use Rattle.searcher_table.proofs.Counts.{not_own}
use Rattle.searcher_table.proofs.Execute.{grows_legal}
use Rattle.searcher_table.proofs.Quiet.{quiet_since, state_next}
use Rattle.searcher_table.proofs.Standing.{sound, unacquired}
use Rattle.searcher_table.proofs.Beside.{Apart, few_slots, not_counted, own_last, all_snoc, two_entry}
use Rattle.searcher_table.proofs.Current.{tells}
use Rattle.searcher_table.proofs.Slotted.{SlotsSame, bit_same, idle_duty, map_duty, begun_by, duty_still, was_duty, three_after}
use Rattle.searcher_table.proofs.Slotting.{IsNoDuty}
use Rattle.searcher_table.specs.Doors.{laid, reached, told_in, held_in, Four}
use Rattle.searcher_table.proofs.Doors.{claims_none, fills_none, four_entry}
use Rattle.searcher_table.proofs.Turning.{turns}

-- ---- what a step leaves of the slots that ends a warming

module _ {W : Type 0} (p : Plan W) (s t : State) (rel : ℕ → ℕ) (tasks : ℕ → Task) (words news : List ℕ) (three : Three p s rel (tasks 0) tasks words) (few : (limits p).slots ≤ 70) (beside : SlotsSame words news)
    (opened : (b : ℕ) → t.slots b ≡ s.slots b) (pinned : (c : ℕ) → t.pins c ≡ s.pins c) (acquired : (g : ℕ) → t.acquired g ≡ s.acquired g) where
  pub three_ended : (a : Task) → tasks 0 ≡ Idle → claimed a ≡ None → IsNoDuty a → IsTask p t a rel news 0 a → ((g : ℕ) → is_settled t a g ≡ is_settled s Idle g) → Three p t rel a (put 0 a tasks) news
  three_ended a idle none is mine settled =
      let e : (g : ℕ) → is_settled s (tasks 0) g ≡ is_settled t a g = λ g. ap (λ o. is_settled s o g) idle ∙ sym (settled g) in
      record {
        masks = λ b low. let m = three.masks b low in let z = bit_same words news beside b low in record {
          free = λ one. let f = m.free (sym z ∙ one) in record { below = f.below; none = opened b ∙ f.none; unclaimed = λ y. none-some b (sym none ∙ y) };
          marked = λ f. z ∙ m.marked record { below = f.below; none = sym (opened b) ∙ f.none; unclaimed = λ y. none-some b (sym (ap claimed idle) ∙ y) };
        };
        counts = λ b g low here. beside (slot_word b) (omega arith) (omega arith) ∙ three.counts b g low (sym (opened b) ∙ here) ∙ (λ i. rel g + cond (e g i) ((sym (acquired g) i + 1) * 4294967296) 0);
        begun = begun_by p t a rel news tasks 0 a mine (λ d other. map_duty p s t (tasks 0) a rel rel words news d other (tasks d)
            (λ b g has (f : IsDuty p s (tasks 0) rel d b g). record { opened = opened b ∙ f.opened; settled = sym (e g) ∙ f.settled; drained = f.drained ∙ sym (acquired g); unpinned = pinned d ∙ f.unpinned; within = f.within })
            (three.begun d));
        drained = λ b g here was out. let d = three.drained b g (sym (opened b) ∙ here) (e g ∙ was) (out ∙ acquired g) in
            (d.0, duty_still tasks 0 a d.0 b g d.1 (λ z. idle_duty b g (sym idle ∙ ap tasks (sym z) ∙ d.1)));
        alone = λ d e x y g i j. ⊎_elim
            (λ (m : (d ≡ 0) × (a ≡ Duty x g)). absurd (is x g m.1))
            (λ (m : (d ≢ 0) × (tasks d ≡ Duty x g)). ⊎_elim
            (λ (n : (e ≡ 0) × (a ≡ Duty y g)). absurd (is y g n.1))
            (λ (n : (e ≢ 0) × (tasks e ≡ Duty y g)). three.alone d e x y g m.1 n.1)
            (was_duty tasks 0 a e y g j))
            (was_duty tasks 0 a d x g i);
      }

-- ---- which generations are settled then

kept_test : (b c : Bool) → c ≡ false → (b && not c) ≡ b
kept_test true false e = refl
kept_test false false e = refl
kept_test b true e = absurd (true_and_false true refl e)

turned_test : (a b c d : Bool) → c ≡ false → not (a || c || b) ≡ not (a || b || false)
turned_test true b c d e = refl
turned_test false true false d e = refl
turned_test false false false d e = refl
turned_test false b true d e = absurd (true_and_false true refl e)

first_true : (a b c : Bool) → a ≡ true → not (a || b || c) ≡ false
first_true true b c e = refl
first_true false b c e = absurd (true_and_false false e refl)

second_true : (a b c : Bool) → b ≡ true → not (a || b || c) ≡ false
second_true true b c e = refl
second_true false true c e = refl
second_true false false c e = absurd (true_and_false false e refl)

third_true : (a b c : Bool) → c ≡ true → not (a || b || c) ≡ false
third_true true b c e = refl
third_true false true c e = refl
third_true false false true e = refl
third_true false false false e = absurd (true_and_false false e refl)

module _ (s : State) (g : ℕ) (warming : is_in g s.warming ≡ true) where
  abbrev others : List ℕ
  others = filter (λ x. not (x == g)) s.warming

  still_in : (h : ℕ) → h ≢ g → is_in h others ≡ is_in h s.warming
  still_in h away = in_without h g s.warming ∙ kept_test (is_in h s.warming) (h == g) (ne_eqb h g away)

  finish_settled : (a : Task) (h : ℕ) → unsettled a ≡ s.current → not (is_in h others || is_some_of h (Some g) || is_some_of h (unsettled a)) ≡ is_settled s Idle h
  finish_settled a h left = dite (ℕ_discrete h g)
      (λ same.
      second_true (is_in h others) (is_some_of h (Some g)) (is_some_of h (unsettled a)) (eq-eqb g h (sym same))
      ∙ sym (first_true (is_in h s.warming) (is_some_of h s.current) (is_some_of h (unsettled Idle)) (ap (λ n. is_in n s.warming) same ∙ warming)))
      (λ away.
      (λ i. not (still_in h away i || is_some_of h (Some g) || is_some_of h (left i)))
      ∙ turned_test (is_in h s.warming) (is_some_of h s.current) (is_some_of h (Some g)) false (ne_eqb g h (λ z. away (sym z))))

  superseded_settled : (slot h : ℕ) → s.current ≢ Some g → not (is_in h others || is_some_of h s.current || is_some_of h (unsettled (Unsettled slot g 0))) ≡ is_settled s Idle h
  superseded_settled slot h other = dite (ℕ_discrete h g)
      (λ same.
      third_true (is_in h others) (is_some_of h s.current) (is_some_of h (Some g)) (eq-eqb g h (sym same))
      ∙ sym (first_true (is_in h s.warming) (is_some_of h s.current) (is_some_of h (unsettled Idle)) (ap (λ n. is_in n s.warming) same ∙ warming)))
      (λ away. λ i. not (still_in h away i || is_some_of h s.current || ne_eqb g h (λ z. away (sym z)) i))

-- ---- what was current before

pub left_low : (n : ℕ) → n < 549755813888 → left_by n ≡ Idle
left_low n low = ap (λ b. cond b Idle (Unsettled (n / 4294967296 % 128) (n / 549755813888) (n % 4294967296))) (eq-eqb (n / 549755813888) 0 (omega arith))

pub least_of : (o : Option ℕ) (n g : ℕ) → n ≡ number_of o → n ≤ g → IfSome o (λ h. h ≤ g)
least_of None n g is low = tt
least_of (Some h) n g is low = omega arith

module _ {U X L : Type 0} (l : Limits) (log : List (Entry U X L)) (n : ℕ) where
  abbrev s : State
  s = state_of l log

  pub left_none : TellsNone l log n → left_by n ≡ Idle
  left_none k = left_low n k.early

  pub few_left : TellsCurrent l log n → 549755813888 ≤ n → n % 4294967296 < 4294967295
  few_left t high = ⊎_elim (λ (k : TellsNone l log n). let a = k.early in absurd (omega arith)) (λ (k : TellsGeneration l log n). k.few) t

  pub left_some : 549755813888 ≤ n → left_by n ≡ Unsettled (n / 4294967296 % 128) (n / 549755813888) (n % 4294967296)
  left_some high = ap (λ b. cond b Idle (Unsettled (n / 4294967296 % 128) (n / 549755813888) (n % 4294967296))) (ne_eqb (n / 549755813888) 0 (λ z. absurd (omega arith)))

  left_is : TellsCurrent l log n → (unsettled (left_by n) ≡ s.current) × (claimed (left_by n) ≡ None) × IsNoDuty (left_by n)
  left_is t = ⊎_elim
      (λ (k : TellsNone l log n). (ap unsettled (left_none k) ∙ sym k.none, ap claimed (left_none k), λ b g e. idle_duty b g (sym (left_none k) ∙ e)))
      (λ (k : TellsGeneration l log n).
      let is = left_some k.some in
      (ap unsettled is ∙ sym k.current, ap claimed is, λ b g e. let q : Unsettled (n / 4294967296 % 128) (n / 549755813888) (n % 4294967296) ≡ Duty b g = sym is ∙ e in absurd (cc)))
      t

module _ {U X L : Type 0} where
  -- the others that can publish what is warming
  others_warm : (v : State) (e : Entry U X L) (g : ℕ) → (after v e).warming ≡ filter (λ x. not (x == g)) v.warming → ((b : ℕ) → (after v e).slots b ≡ v.slots b) → (f : Fresh) → f.generation ≢ g → IsWarming v f → IsWarming (after v e) f
  others_warm v e g warm same f away z = record {
    warming = ap (is_in f.generation) warm ∙ in_without f.generation g v.warming ∙ kept_test (is_in f.generation v.warming) (f.generation == g) (ne_eqb f.generation g away) ∙ z.warming;
    opened = same f.slot ∙ z.opened;
  }

module _ {D W U X L : Type 0} (setting : D → W) (docs : D → X) (deeds : D → List L) (p : Plan W) where
  pub publishes : (list : List L) (slots id : ℕ) (me : Me (Cell D U) (Known W U X L)) (i x : ℕ) (f : Fresh) → i ≡ current_word → x ≡ packed f.generation f.slot 0 → me.0.registrar ≡ true → me.0.task ≡ Idle → me.0.fresh ≡ Some f
      → IfSome (state_of (limits p) me.0.seen).current (λ h. h ≤ f.generation) → Allows (Kept setting docs deeds p) slots id me i (λ _. x) (Published list (step slots i x 0 maybe.none) me)
  publishes list slots id me i x f at_word value role idle fresh least s kept deep at small =
      let w = kept.world in
      let k = me.0 in
      let g : ℕ = f.generation in
      let l = limits p in
      let all = kept.one.fits id k at in
      let r = all.registrar role in
      let v : State = state_of l w.log in
      let n : ℕ = slice_index s.words current_word in
      let e : Entry U X L = Finish g list in
      let log : List (Entry U X L) = w.log ++ e ∷ [] in
      let h : IsFresh w id l f = all.fresh f fresh in
      let quiet = quiet_since l w.log k.seen r.seen in
      let may : CanFinish v g = record { warming = h.warming.warming; greatest = subst (λ (o : Option ℕ). IfSome o (λ y. y ≤ g)) (sym quiet.current) least } in
      let legal = grows_legal l w.log e kept.legal may in
      let next = state_next l w.log e in
      let told = tells p w.log s.words kept.legal kept.two in
      let a : Task = left_by n in
      let left = left_is l w.log n told in
      let sane = sound l w.log kept.legal in
      let left_over : emptied a ≡ None = ⊎_elim (λ (z : TellsNone l w.log n). ap emptied (left_none l w.log n z)) (λ (z : TellsGeneration l w.log n). ap emptied (left_some l w.log n z.some)) told in
      let news : List ℕ = set s.words current_word x in
      let mine : IsTask p (after v e) a (released w.log) news 0 a = ⊎_elim
      (λ (z : TellsNone l w.log n). subst (λ (y : Task). IsTask p (after v e) a (released w.log) news 0 y) (sym (left_none l w.log n z)) tt)
      (λ (z : TellsGeneration l w.log n). subst (λ (y : Task). IsTask p (after v e) a (released w.log) news 0 y) (sym (left_some l w.log n z.some)) (
        refl,
        record {
          opened = z.opened;
          not_warming = not_in_kept (n / 549755813888) g v.warming (sane.current_opened (n / 549755813888) z.current).2;
          not_current = λ y. true_and_false (is_in g v.warming) h.warming.warming (ap (λ m. is_in m v.warming) (same_Some g (n / 549755813888) y) ∙ (sane.current_opened (n / 549755813888) z.current).2);
          total_is = z.count;
        },
      ))
      told in
      let three : Three p (state_of l log) (released log) a (put 0 a w.tasks) news =
      three_after p w.log e a (put 0 a w.tasks) news (λ m. not_counted (releases m) w.log e refl)
      (three_ended p v (after v e) (released w.log) w.tasks s.words news kept.three (few_slots p kept.two.sizes) (λ j low _. get_or-set_other s.words current_word j x 0 (λ z. absurd (omega arith))) (λ _. refl) (λ _. refl) (λ _. refl)
      a (sym r.task ∙ idle) left.1 left.2 mine (λ m. finish_settled v g h.warming.warming a m left.0)) in
      let four : Four setting docs deeds p (state_of l log) (told_in log) (held_in log) a w.filling s.homes =
      four_entry setting docs deeds p w.log e (w.tasks 0) a w.filling s.homes (λ _. refl) (λ _. refl) (λ _ _. refl) (λ _ _ _. refl) (λ _ _. refl) (fills_none (w.tasks 0) a (ap reached (sym r.task ∙ idle)) (ap (λ (z : Task). (laid z).1) (sym r.task ∙ idle)) (ap emptied (sym r.task ∙ idle)) (claims_none a left.1).1) kept.four in
      let none : v.acquired g ≡ 0 = unacquired l w.log g kept.legal h.warming.warming in
      let two : Two p log news = record {
        sizes = kept.two.sizes;
        current = inr record {
          generation = g;
          slot = f.slot;
          current = ap (λ (z : State). z.current) next;
          opened = ap (λ (z : State). z.slots f.slot) next ∙ h.warming.opened;
          word_is = get_or-set_same s.words current_word x 0 (let b = kept.words in omega arith) ∙ value ∙ ap (packed g f.slot) (sym (ap (λ (z : State). z.acquired g) next ∙ none));
        };
        named = all_snoc _ w.log e kept.two.named tt;
        within = λ c. let b = own_last c is_acquire w.log e in let d = not_own c is_acquire e refl in let y = kept.two.within c in omega arith;
      } in
      let new : Me (Cell D U) (Known W U X L) = (record (looked k log w.pending) { hand = None; task = a; fresh = None }, me.1) in
      let goes : Kept setting docs deeds p (stepped s current_word x id me.1 new.0 keeps) =
      turns setting docs deeds p s kept id current_word x me log (e ∷ []) a None w.fresh_at keeps at (inr role) (λ low. let z = r.nobody in absurd (omega arith)) (λ m _ z. not_some (emptied a) m left_over z) (omega arith) refl (refl, tt) (inr role) legal two
      (subst (λ (m : ℕ). Three p (state_of l log) (released log) (put m a w.tasks 0) (put m a w.tasks) news) (sym r.nobody) three)
      (subst (λ (m : ℕ). Four setting docs deeds p (state_of l log) (told_in log) (held_in log) (put m a w.tasks 0) w.filling s.homes) (sym r.nobody) four)
      (λ j y away (z : IsFresh w j l y). (
        z.here,
        subst (λ (m : State). IsWarming m y) (sym next)
            (others_warm v e g refl (λ _. refl) y (λ same. away (sym z.here ∙ ap w.fresh_at same ∙ h.here)) z.warming),
      ))
      (λ y z. absurd (none-some y z)) in (
        (record (looked k log w.pending) { hand = None; task = left_by (slice_index s.words i); fresh = None }),
        keeps,
        tt,
        subst (λ (m : ℕ). Kept setting docs deeds p (stepped s m x id me.1 (record (looked k log w.pending) { hand = None; task = left_by (slice_index s.words m); fresh = None }) keeps)) (sym at_word) goes,
        λ y has. subst (λ (z : ℕ × Fresh). HasPublished list z.1 (slice_index s.words z.0) me (record (looked k log w.pending) { hand = None; task = left_by (slice_index s.words z.0); fresh = None }, me.1)) (λ j. (sym at_word j, same_Some f y (sym fresh ∙ has) j)) record {
          executed = record {
            log = w.log;
            pending = w.pending;
            covers = covers p w id k all kept.legal;
            legal = λ q is. subst (λ (z : Plan W). Legal (limits z) log) (sym (all.plan q is)) legal;
            after = refl;
          };
          tells = λ q is. subst (λ (z : Plan W). TellsCurrent (limits z) w.log n) (sym (all.plan q is)) told;
        },
      )

  pub supersedes : (list : List L) (slots id : ℕ) (me : Me (Cell D U) (Known W U X L)) (i by : ℕ) (f : Fresh) → i ≡ 16 → me.0.registrar ≡ true → me.0.task ≡ Idle → me.0.fresh ≡ Some f → me.0.plan ≡ Some p
      → (state_of (limits p) me.0.seen).current ≡ Some by → f.generation < by → Allows (Kept setting docs deeds p) slots id me i (λ _. 0) (λ _. Superseding list (step slots i 0 0 maybe.none) me 0)
  supersedes list slots id me i by f at_word role idle fresh plan current later s kept deep at small =
      let w = kept.world in
      let k = me.0 in
      let g : ℕ = f.generation in
      let l = limits p in
      let all = kept.one.fits id k at in
      let r = all.registrar role in
      let v : State = state_of l w.log in
      let e : Entry U X L = Superseded g by list in
      let log : List (Entry U X L) = w.log ++ e ∷ [] in
      let h : IsFresh w id l f = all.fresh f fresh in
      let quiet = quiet_since l w.log k.seen r.seen in
      let may : IsSuperseded v g by = record { warming = h.warming.warming; current = quiet.current ∙ current; greater = later } in
      let legal = grows_legal l w.log e kept.legal may in
      let next = state_next l w.log e in
      let a : Task = Unsettled f.slot g 0 in
      let other : v.current ≢ Some g = λ z. let q = same_Some by g (sym may.current ∙ z) in absurd (omega arith) in
      let news : List ℕ = set s.words i 0 in
      let mine : IsTask p (after v e) a (released w.log) news 0 a = (
        refl,
        record {
          opened = h.warming.opened;
          not_warming = not_in_own g v.warming;
          not_current = other;
          total_is = unacquired l w.log g kept.legal h.warming.warming;
        },
      ) in
      let three : Three p (state_of l log) (released log) a (put 0 a w.tasks) news =
      three_after p w.log e a (put 0 a w.tasks) news (λ m. not_counted (releases m) w.log e refl)
      (three_ended p v (after v e) (released w.log) w.tasks s.words news kept.three (few_slots p kept.two.sizes) (λ j low _. get_or-set_other s.words i j 0 0 (λ z. absurd (omega arith))) (λ _. refl) (λ _. refl) (λ _. refl)
      a (sym r.task ∙ idle) refl (λ b m z. let q : Unsettled f.slot g 0 ≡ Duty b m = z in absurd (cc)) mine (λ m. superseded_settled v g h.warming.warming f.slot m other)) in
      let four : Four setting docs deeds p (state_of l log) (told_in log) (held_in log) a w.filling s.homes =
      four_entry setting docs deeds p w.log e (w.tasks 0) a w.filling s.homes (λ _. refl) (λ _. refl) (λ _ _. refl) (λ _ _ _. refl) (λ _ _. refl) (fills_none (w.tasks 0) a (ap reached (sym r.task ∙ idle)) (ap (λ (z : Task). (laid z).1) (sym r.task ∙ idle)) (ap emptied (sym r.task ∙ idle)) refl) kept.four in
      let apart : Apart l w.log e = record { current = refl; acquired = λ _. refl; stays = λ _ _ _ z. z; early = refl; acquire = refl; released = λ _. refl } in
      let new : Me (Cell D U) (Known W U X L) = (record (looked k log w.pending) { hand = None; task = a; fresh = None }, me.1) in (
        new.0,
        keeps,
        tt,
        turns setting docs deeds p s kept id i 0 me log (e ∷ []) a None w.fresh_at keeps at (inr role) (λ low. let z = r.nobody in absurd (omega arith)) (λ m _ z. absurd (none-some m z)) (omega arith) refl (refl, tt) (inr role) legal
            (two_entry p w.log e s.words news (get_or-set_other s.words i current_word 0 0 (λ z. absurd (omega arith))) apart tt kept.two)
            (subst (λ (m : ℕ). Three p (state_of l log) (released log) (put m a w.tasks 0) (put m a w.tasks) news) (sym r.nobody) three)
            (subst (λ (m : ℕ). Four setting docs deeds p (state_of l log) (told_in log) (held_in log) (put m a w.tasks 0) w.filling s.homes) (sym r.nobody) four)
            (λ j y away (z : IsFresh w j l y). (
              z.here,
              subst (λ (m : State). IsWarming m y) (sym next)
                  (others_warm v e g refl (λ _. refl) y (λ same. away (sym z.here ∙ ap w.fresh_at same ∙ h.here)) z.warming),
            ))
            (λ y z. absurd (none-some y z)),
        λ y q b has told is. subst (λ (z : Fresh × ℕ). HasExecuted (Superseded z.0.generation z.1 list) (Unsettled z.0.slot z.0.generation 0) None me new)
            (λ j. (same_Some f y (sym fresh ∙ has) j, same_Some by b (sym current ∙ ap (λ (z : Plan W). (state_of (limits z) k.seen).current) (same_Some p q (sym plan ∙ told)) ∙ is) j)) record {
              log = w.log;
              pending = w.pending;
              covers = covers p w id k all kept.legal;
              legal = λ q is. subst (λ (z : Plan W). Legal (limits z) log) (sym (all.plan q is)) legal;
              after = refl;
            },
      )
