-- Giving a table up keeps the rule, once all passes were taken back: no slot is kept but for what is current or warming. So does emptying its cells.
use Rattle.std.proofs.Common.{◌≡◌, ◌≢◌, ◌⊎◌, ℕ, ◌+◌, ◌-◌, ◌/◌, ◌%◌, ◌≤◌, ◌<◌, ◌==◌, Bool, true, false, not, ◌||◌, cond, List, [], ◌∷◌, ◌++◌, length, length-append, set, get_or-set_other, sym, refl, ap, ◌∙◌, subst, arith, inl, inr, ⊎_elim, Option, Some, None}
use mathlib.Core.Option.{some}
use mathlib.Core.Option as maybe
use mathlib.Core.Logic.{dite}
use native.Mathlib.Decide.{ℕ_discrete}
use lib.ListN.{get_elem?}
use Rattle.std.specs.Prelude.{slice_index}
use Rattle.std.specs.List.{AllByRecursion}
use Rattle.std.proofs.lemmas.Option.{same_Some, none-some}
use Rattle.std.proofs.lemmas.Bool.{cases_lt}
use Rattle.atomic_table.specs.Table.{State, Me, Allows, keeps, takes, step, rest}
use Rattle.registry_machine.specs.declared.entry.Entry.{Entry}
use Rattle.registry_machine.specs.Machine.{is_in, is_some_of}
use Rattle.registry_machine.specs.Machine.{State as MachineState}
use Rattle.registry_machine.specs.Callers.{mine}
use Rattle.registry_machine.specs.Legal.{state_of}
use Rattle.registry_machine.proofs.Lists.{true_and_false, test_same}
use Rattle.searcher_table.specs.declared.board.Cell.{Cell}
use Rattle.searcher_table.specs.declared.board.Plan.{Plan}
use Rattle.searcher_table.specs.declared.board.Own.{Own}
use Rattle.searcher_table.specs.declared.board.Known.{Known}
use Rattle.searcher_table.specs.declared.board.Task.{Task}
use Rattle.searcher_table.specs.declared.board.Task.TheVariants.{Idle, Duty, Back, Emptied}
use Rattle.searcher_table.specs.Words.{current_word, limits, door_in}
use Rattle.searcher_table.specs.Counts.{pinned}
use Rattle.searcher_table.specs.Tasks.{claimed, unsettled, emptied, is_settled, IsOver, Three}
use Rattle.searcher_table.specs.Doors.{cell_of, laid, reached, told_in, held_in, IsDoorLeft, IsLeft, IsLeftAt, Four}
use Rattle.searcher_table.specs.Rule.{IsBack, callers_of, AreBack, released, Kept}
use Rattle.searcher_table.specs.Steps.{looked, HasGivenUp, GaveUp, HasTakenOut, TookOut}
use Rattle.searcher_table.proofs.Frame.{put, all_map, covers}
use Rattle.searcher_table.proofs.Beside.{few_slots}
use Rattle.searcher_table.proofs.Counts.{total, total_zero, pins_it, pins_own, balance_of_all}
use Rattle.searcher_table.proofs.Slotted.{SlotsSame, three_words, own_is}
use Rattle.searcher_table.proofs.Slotting.{IsNoDuty, three_beside}
use Rattle.searcher_table.proofs.Doors.{door_left, four_begun, four_emptied}
use Rattle.searcher_table.proofs.Freeing.{none_own}
use Rattle.searcher_table.proofs.Claiming.{begins, read_same}
use Rattle.searcher_table.proofs.Claiming as claiming
use Rattle.searcher_table.proofs.Preparing.{begun_by}
use Rattle.searcher_table.proofs.Taking.{same_out}
use Rattle.std.specs.declared.alloc.Global.{Global}
use Rattle.std.specs.declared.vec.Vec.{Vec}
use Rattle.searcher_table.proofs.Row.{got_last}
use Rattle.registry_machine.specs.Legal.{Legal}
use Rattle.registry_machine.proofs.Slots.{HasSlot}
use Rattle.searcher_table.specs.declared.pass.Pass.{Pass}
use Rattle.searcher_table.specs.declared.close.Ended.{Ended}
use Rattle.searcher_table.specs.declared.registrar.Registrar.{Registrar}
use Rattle.searcher_table.specs.Claims.{IsOpener}
use Rattle.searcher_table.specs.Openings.{warming_of}
use Rattle.searcher_table.specs.Registrars.{table_of, plan_of, seen_of, back_of}
use Rattle.searcher_table.specs.Views.{HasNoPlaceSince}
use Rattle.searcher_table.proofs.Quiet.{quiet_since}
use Rattle.searcher_table.proofs.Holding.{are_held}
use Rattle.searcher_table.proofs.Once.{freed_once}
use Rattle.searcher_table.specs.Closing.{left_by, HasTakenAll, history_of, left_in_it, plan_at, state_at, HasClosed, AreEachOnce, AreDoorsLeft, IsRowTo, AreRowsTo, IsDoorOr, IsCloser, HasGoneOn, HasTakenDoor}

module _ {U X L : Type 0} where
  -- who is named among those that were taken back
  pub back_at : (F : Own U X L → Type 0) (back : List (Own U X L)) → AllByRecursion F back → (c : ℕ) → is_in c (callers_of back) ≡ true → (o : Own U X L) × F o × (o.caller ≡ c)
  back_at F [] all c is = absurd (true_and_false false is refl)
  back_at F (o ∷ os) all c is = by_test (λ e. back_at F os all.1 c e) (o.caller == c) refl is
    where
      by_test : (is_in c (callers_of os) ≡ true → (o : Own U X L) × F o × (o.caller ≡ c)) → (b : Bool) → (o.caller == c) ≡ b → (b || is_in c (callers_of os)) ≡ true → (o : Own U X L) × F o × (o.caller ≡ c)
      by_test others true same e = (o, all.0, test_same o.caller c same)
      by_test others false same e = others e

module _ {D W U X L : Type 0} (setting : D → W) (docs : D → X) (deeds : D → List L) (p : Plan W) (s : State (Cell D U) (Known W U X L)) (kept : Kept setting docs deeds p s) (id : ℕ) (k : Known W U X L) (at : get_elem? s.views id ≡ some k)
    (role : k.registrar ≡ true) (all_back : AreBack p k.back) where
  -- the callers' passes are all back
  pub are_back : (c : ℕ) → 1 ≤ c → c ≤ p.callers → kept.world.tasks c ≡ Back
  are_back c low few =
      let o = back_at (IsBack kept.world id) k.back (kept.one.fits id k at).back c (all_back c low few) in
      ap kept.world.tasks (sym o.2) ∙ o.1.done.task

  -- nobody has a duty
  no_duty : k.task ≡ Idle → (c slot g : ℕ) → kept.world.tasks c ≢ Duty slot g
  no_duty idle c slot g is =
      let w = kept.world in
      dite (ℕ_discrete c 0)
      (λ zero. let q : Idle ≡ Duty slot g = sym idle ∙ ((kept.one.fits id k at).registrar role).task ∙ ap w.tasks (sym zero) ∙ is in absurd (cc))
      (λ some. ⊎_elim
      (λ few. let q : Back ≡ Duty slot g = sym (are_back c (omega arith) (omega arith)) ∙ is in absurd (cc))
      (λ past. let n = kept.one.few in let q : Idle ≡ Duty slot g = sym (kept.one.undealt c (omega arith)).2 ∙ is in absurd (cc))
      (cases_lt c (p.callers + 1)))

  -- nobody pins anything
  pub unpinned : (c : ℕ) → (state_of (limits p) kept.world.log).pins c ≡ None
  unpinned c =
      let w = kept.world in
      pins_own (limits p) c w.log
      ∙ dite (ℕ_discrete c 0)
      (λ zero. ap (pinned c) (none_own c (inl zero) w.log kept.two.named))
      (λ some. ⊎_elim
      (λ few.
      let o = back_at (IsBack w id) k.back (kept.one.fits id k at).back c (all_back c (omega arith) (omega arith)) in
      ap (λ d. pinned d (mine d w.log)) (sym o.2) ∙ ap (pinned o.0.caller) o.1.mine ∙ o.1.done.unpinned)
      (λ past. let n = kept.one.few in ap (pinned c) (kept.one.undealt c (omega arith)).1)
      (cases_lt c (p.callers + 1)))

  abbrev v : MachineState
  v = state_of (limits p) kept.world.log

  -- each open slot is the current generation's or a warming one's
  pub is_over : k.task ≡ Idle → IsOver (state_of (limits p) kept.world.log)
  is_over idle = record { slots = λ slot g opened. by_warming slot g opened (is_in g v.warming) refl; pins = unpinned }
    where
      told : unsettled (kept.world.tasks 0) ≡ None
      told = ap unsettled (sym ((kept.one.fits id k at).registrar role).task ∙ idle)

      drained : (g : ℕ) → released kept.world.log g ≡ v.acquired g
      drained g =
          let b = balance_of_all (limits p) g kept.world.log kept.legal kept.two.named in
          let z = total_zero 64 (λ c. pins_it g (v.pins c)) (λ c _ _. ap (pins_it g) (unpinned c)) in
          omega arith

      by_current : (slot g : ℕ) → v.slots slot ≡ Some g → is_in g v.warming ≡ false → (b : Bool) → is_some_of g v.current ≡ b → (v.current ≡ Some g) ⊎ (is_in g v.warming ≡ true)
      by_current slot g opened out true e = inl (own_is g v.current e)
      by_current slot g opened out false e =
          let d = kept.three.drained slot g opened (λ i. not (out i || e i || is_some_of g (told i))) (drained g) in
          absurd (no_duty idle d.0 slot g d.1)

      by_warming : (slot g : ℕ) → v.slots slot ≡ Some g → (b : Bool) → is_in g v.warming ≡ b → (v.current ≡ Some g) ⊎ (is_in g v.warming ≡ true)
      by_warming slot g opened true e = inr e
      by_warming slot g opened false e = by_current slot g opened e (is_some_of g v.current) refl

emptied_no_duty : (n : ℕ) → IsNoDuty (Emptied n)
emptied_no_duty n b g e = let q : Emptied n ≡ Duty b g = e in absurd (cc)

idle_no_duty : IsNoDuty Idle
idle_no_duty b g e = let q : Idle ≡ Duty b g = e in absurd (cc)

module _ {D W U X L : Type 0} (setting : D → W) (docs : D → X) (deeds : D → List L) (p : Plan W) where
  -- what lies in a cell that is not emptied yet
  what_lies : (v : MachineState) (told : ℕ → ℕ → Option X × List L) (held : ℕ → Option ℕ) (n slot c : ℕ) (filling : Option X) (homes : List (maybe.Option (Cell D U))) → Four setting docs deeds p v told held (Emptied n) filling homes
      → v.pins c ≡ None → slot < (limits p).slots → 1 ≤ c → c ≤ p.callers → n ≤ cell_of slot c → IsLeftAt setting docs deeds p homes (cell_of slot c) (held slot) (λ g. told g c)
  what_lies v told held n slot c filling homes four unpinned below low few more = by_slot (v.slots slot) refl
    where
      by_slot : (o : Option ℕ) → v.slots slot ≡ o → IsLeftAt setting docs deeds p homes (cell_of slot c) (held slot) (λ g. told g c)
      by_slot None is = four.spare slot c below is low few record { unfilled = λ _. omega arith; home = λ z. none-some (cell_of slot c) z; within = λ m z. (let a = same_Some n m z in omega arith) }
      by_slot (Some g) is = door_left setting docs deeds p homes (cell_of slot c) g (held slot) (λ h. told h c) (four.opened slot g is) (four.doors slot g c is low few (λ z. none-some g (sym unpinned ∙ z)) (λ m z. (let a = same_Some n m z in omega arith)))

  -- the table is given up
  pub gives_up : (slots id : ℕ) (me : Me (Cell D U) (Known W U X L)) (i : ℕ) → i ≡ 16 → me.0.registrar ≡ true → me.0.task ≡ Idle → AreBack p me.0.back
      → me.0.plan ≡ Some p → Allows (Kept setting docs deeds p) slots id me i (λ n. n) (GaveUp (step slots i 0 0 maybe.none) me)
  gives_up slots id me i at_word role idle back plan s kept deep at small =
      let w = kept.world in
      let k = me.0 in
      let v : MachineState = state_of (limits p) w.log in
      let own = claiming.own_is setting docs deeds p s kept id k Idle at role idle in
      let all = kept.one.fits id k at in
      let three : Three p v (released w.log) (Emptied 0) (put 0 (Emptied 0) w.tasks) s.words =
      three_beside p v (released w.log) w.tasks s.words kept.three (Emptied 0) (ap claimed own) refl (ap unsettled own) refl (subst IsNoDuty (sym own) idle_no_duty) (emptied_no_duty 0) tt in
      let new : Me (Cell D U) (Known W U X L) = (record (looked k w.log w.pending) { hand = None; task = Emptied 0; fresh = k.fresh }, me.1) in
      let g = begins setting docs deeds p s kept id i (slice_index s.words i) me (Emptied 0) keeps at role (λ _ c _ low few. are_back setting docs deeds p s kept id k at role back c low few) (omega arith) (λ z. absurd (omega arith))
      (read_same setting docs deeds p s kept i (Emptied 0) three)
      (four_begun setting docs deeds p v (told_in w.log) (held_in w.log) (w.tasks 0) (Emptied 0) w.filling s.homes (ap reached own) (ap (λ (z : Task). (laid z).1) own) (ap emptied own) refl kept.four) in (
        new.0,
        keeps,
        tt,
        g.0,
        λ q is. subst (λ (z : Plan W). HasGivenUp z me new) (same_Some p q (sym plan ∙ is)) record {
          turned = record { log = w.log; pending = w.pending; covers = covers p w id k all kept.legal; after = refl };
          over = is_over setting docs deeds p s kept id k at role back idle;
          own = all_map (IsBack w id) (λ (o : Own U X L). mine o.caller w.log ≡ o.mine) (λ o b. b.mine) k.back all.back;
        },
      )

  -- a cell is emptied for good
  pub takes_out : (slots id : ℕ) (me : Me (Cell D U) (Known W U X L)) (i n k : ℕ) → i ≡ 16 → me.0.registrar ≡ true → me.0.task ≡ Emptied n → AreBack p me.0.back → me.0.plan ≡ Some p
      → n ≤ k → k / 64 < (limits p).slots → k % 64 + 1 ≤ p.callers → Allows (Kept setting docs deeds p) slots id me i (λ _. k) (λ _. TookOut setting docs deeds (step slots i k 0 maybe.none) me k)
  takes_out slots id me i n k at_word role task back plan more below few s kept deep at small =
      let w = kept.world in
      let u = me.0 in
      let v : MachineState = state_of (limits p) w.log in
      let slot : ℕ = k / 64 in
      let c : ℕ = k % 64 + 1 in
      let cell : cell_of slot c ≡ k = omega arith in
      let own = claiming.own_is setting docs deeds p s kept id u (Emptied n) at role task in
      let seen : u.seen ≡ w.log = ((kept.one.fits id u at).registrar role).final n (ap emptied task) in
      let four : Four setting docs deeds p v (told_in w.log) (held_in w.log) (Emptied n) w.filling s.homes = subst (λ (a : Task). Four setting docs deeds p v (told_in w.log) (held_in w.log) a w.filling s.homes) own kept.four in
      let x = what_lies v (told_in w.log) (held_in w.log) n slot c w.filling s.homes four (unpinned setting docs deeds p s kept id u at role back c) below (omega arith) few (omega arith) in
      let words : SlotsSame s.words (set s.words i k) = λ j low high. get_or-set_other s.words i j k 0 (λ z. absurd (omega arith)) in
      let changed : Three p v (released w.log) (w.tasks 0) w.tasks (set s.words i k) = three_words p v (released w.log) w.tasks (few_slots p kept.two.sizes) s.words (set s.words i k) words kept.three in
      let three : Three p v (released w.log) (Emptied (k + 1)) (put 0 (Emptied (k + 1)) w.tasks) (set s.words i k) =
      three_beside p v (released w.log) w.tasks (set s.words i k) changed (Emptied (k + 1)) (ap claimed own) refl (ap unsettled own) refl (subst IsNoDuty (sym own) (emptied_no_duty n)) (emptied_no_duty (k + 1)) tt in
      let new : Me (Cell D U) (Known W U X L) = (record (looked u w.log w.pending) { hand = None; task = Emptied (k + 1); fresh = u.fresh }, (k, x.0) ∷ me.1) in
      let g = begins setting docs deeds p s kept id i k me (Emptied (k + 1)) (takes k x.0) at role (λ _ d _ low most. are_back setting docs deeds p s kept id u at role back d low most) (omega arith) (λ z. absurd (omega arith))
      three (four_emptied setting docs deeds p v (told_in w.log) (held_in w.log) n k w.filling s.homes more four) in (
        new.0,
        takes k x.0,
        subst (λ (j : ℕ). get_elem? s.homes j ≡ some (some x.0)) cell x.1,
        g.0,
        λ q is. subst (λ (z : Plan W). HasTakenOut setting docs deeds z k me new) (same_Some p q (sym plan ∙ is)) record {
          turned = record { log = w.log; pending = w.pending; covers = covers p w id u (kept.one.fits id u at) kept.legal; after = refl };
          same = sym seen;
          old = x.0;
          out = refl;
          left = subst (λ (log : List (Entry U X L)). IsLeft setting docs deeds p (held_in log (k / 64)) (λ g. told_in log g (k % 64 + 1)) x.0) (sym seen) x.2;
        },
      )

module _ {D W X L : Type 0} (setting : D → W) (docs : D → X) (deeds : D → List L) (p : Plan W) where
  -- what was taken out of a cell
  found_door : {U : Type 0} (log : List (Entry U X L)) (h : Option ℕ) (caller : ℕ) (x : Cell D U) → IsLeft setting docs deeds p h (λ g. told_in log g caller) x → IsDoorOr setting docs deeds p log h caller (door_in x)
  found_door log None caller x l = ap door_in l
  found_door log (Some g) caller x l = (l.0, ap door_in l.1, l.2)

  -- the registrar's seat once a cell is emptied
  pub taken_door : {U : Type 0} (k slot caller : ℕ) (old mid new : Me (Cell D U) (Known W U X L)) (y : Cell D U) (found : Option D) → IsCloser p old.0 (cell_of slot caller) → 1 ≤ caller → caller ≤ 64 → k ≡ cell_of slot caller
      → HasTakenOut setting docs deeds p k old mid → mid.1 ≡ (k, y) ∷ rest mid.1 → new.0 ≡ mid.0 → found ≡ door_in y → HasTakenDoor setting docs deeds p old.0 new.0 slot caller found
  taken_door {U} k slot caller old mid new y found r low few at x out is result =
      let b = begun_by p old (mid.0, old.1) (Emptied r.count) (Emptied (k + 1)) old.0.fresh r.opener x.turned in
      let seen : mid.0.seen ≡ old.0.seen = ap (λ (m : Me (Cell D U) (Known W U X L)). m.0.seen) x.turned.after ∙ x.same in
      let same : y ≡ x.old = same_out mid.1 (rest mid.1) old.1 k k y x.old out x.out in
      let first : k / 64 ≡ slot = omega arith in
      let second : k % 64 + 1 ≡ caller = omega arith in
      let left : IsLeft setting docs deeds p (held_in old.0.seen slot) (λ g. told_in old.0.seen g caller) x.old =
      subst (λ (z : ℕ × ℕ). IsLeft setting docs deeds p (held_in old.0.seen z.0) (λ g. told_in old.0.seen g z.1) x.old) (λ i. (first i, second i)) x.left in
      record {
        gone = subst (λ (n : Known W U X L). HasGoneOn p old.0 n (cell_of slot caller + 1)) (sym is) record {
          closer = record { count = k + 1; opener = b.opener; few = omega arith; back = subst (λ (os : List (Own U X L)). AreBack p os) (sym b.back) r.back };
          seen = seen;
          back = b.back;
        };
        door = subst (λ (o : Option D). IsDoorOr setting docs deeds p old.0.seen (held_in old.0.seen slot) caller o) (sym (result ∙ ap door_in same)) (found_door old.0.seen (held_in old.0.seen slot) caller x.old left);
      }

  -- ---- rows

  module _ {U : Type 0} (log : List (Entry U X L)) where
    pub row_first : (h : Option ℕ) → IsRowTo setting docs deeds p log h 0 []
    row_first None = refl
    row_first (Some g) = (refl, λ i d e. absurd (none-some d e))

    pub row_more : (h : Option ℕ) (n : ℕ) (row : List D) (d : D) → IsRowTo setting docs deeds p log h n row → IsDoorOr setting docs deeds p log h (n + 1) (Some d) → IsRowTo setting docs deeds p log h (n + 1) (row ++ d ∷ [])
    row_more None n row d r f = absurd (none-some d (sym f))
    row_more (Some g) n row d r f = (
      length-append row (d ∷ []) ∙ ap (λ m. m + 1) r.0,
      λ i e is. ⊎_elim (λ was. r.1 i e was)
          (λ (it : (i ≡ length row) × (d ≡ e)). subst (λ (z : ℕ × D). IsDoorLeft setting docs deeds p (told_in log g (z.0 + 1)) z.1) (λ j. ((sym r.0 ∙ sym it.0) j, (same_Some f.0 d (sym f.1) ∙ it.1) j)) f.2)
          (got_last row d e i is),
    )

    pub row_still : (h : Option ℕ) (n : ℕ) (row : List D) → IsRowTo setting docs deeds p log h n row → IsDoorOr setting docs deeds p log h (n + 1) None → IsRowTo setting docs deeds p log h (n + 1) row
    row_still None n row r f = r
    row_still (Some g) n row r f = absurd (none-some f.0 f.1)

    pub rows_more : (rows : List (Vec D Global)) (row : Vec D Global) (slot : ℕ) → length rows ≡ slot → AreRowsTo setting docs deeds p log rows → IsRowTo setting docs deeds p log (held_in log slot) p.callers row.items → AreRowsTo setting docs deeds p log (rows ++ row ∷ [])
    rows_more rows row slot count all last i x is = ⊎_elim (λ was. all i x was)
        (λ (it : (i ≡ length rows) × (row ≡ x)). subst (λ (z : ℕ × Vec D Global). IsRowTo setting docs deeds p log (held_in log z.0) p.callers z.1.items) (λ j. ((sym count ∙ sym it.0) j, it.1 j)) last)
        (got_last rows row x i is)

module _ {W U X L : Type 0} (p : Plan W) (k m n : Known W U X L) (a b : ℕ) where
  pub gone_on : HasGoneOn p k m a → HasGoneOn p m n b → HasGoneOn p k n b
  gone_on x y = record { closer = y.closer; seen = y.seen ∙ x.seen; back = y.back ∙ x.back }

module _ {W U X L : Type 0} (p : Plan W) (k n : Known W U X L) (a b : ℕ) where
  pub closer_past : a ≤ b → IsCloser p n a → IsCloser p n b
  closer_past past x = let f = x.few in record { count = x.count; opener = x.opener; few = omega arith; back = x.back }

  pub gone_past : a ≤ b → HasGoneOn p k n a → HasGoneOn p k n b
  gone_past past x = record { closer = closer_past past x.closer; seen = x.seen; back = x.back }

module _ {D W U X L : Type 0} (setting : D → W) (docs : D → X) (deeds : D → List L) (p : Plan W) (k m n : Known W U X L) (slot caller : ℕ) (found : Option D) (low : 1 ≤ caller) (before : HasGoneOn p k m (cell_of slot caller)) (t : HasTakenDoor setting docs deeds p m n slot caller found) where
  -- the registrar's seat goes on to the next caller's cell
  pub gone_next : HasGoneOn p k n (cell_of slot (caller + 1))
  gone_next = gone_past p k n (cell_of slot caller + 1) (cell_of slot (caller + 1)) (omega arith) (gone_on p k m n (cell_of slot caller) (cell_of slot caller + 1) before t.gone)

  door_of_next : IsDoorOr setting docs deeds p k.seen (held_in k.seen slot) (caller - 1 + 1) found
  door_of_next = subst (λ (z : List (Entry U X L) × ℕ). IsDoorOr setting docs deeds p z.0 (held_in z.0 slot) z.1 found) (λ i. (before.seen i, (let e : caller ≡ caller - 1 + 1 = omega arith in e) i)) t.door

  -- and the row has that caller's door too, if there is one
  pub row_with : (row : List D) (d : D) → found ≡ Some d → IsRowTo setting docs deeds p k.seen (held_in k.seen slot) (caller - 1) row → IsRowTo setting docs deeds p k.seen (held_in k.seen slot) (caller + 1 - 1) (row ++ d ∷ [])
  row_with row d is r = subst (λ (c : ℕ). IsRowTo setting docs deeds p k.seen (held_in k.seen slot) c (row ++ d ∷ [])) (let e : caller - 1 + 1 ≡ caller + 1 - 1 = omega arith in e)
      (row_more setting docs deeds p k.seen (held_in k.seen slot) (caller - 1) row d r (subst (λ (o : Option D). IsDoorOr setting docs deeds p k.seen (held_in k.seen slot) (caller - 1 + 1) o) is door_of_next))

  pub row_without : (row : List D) → found ≡ None → IsRowTo setting docs deeds p k.seen (held_in k.seen slot) (caller - 1) row → IsRowTo setting docs deeds p k.seen (held_in k.seen slot) (caller + 1 - 1) row
  row_without row is r = subst (λ (c : ℕ). IsRowTo setting docs deeds p k.seen (held_in k.seen slot) c row) (let e : caller - 1 + 1 ≡ caller + 1 - 1 = omega arith in e)
      (row_still setting docs deeds p k.seen (held_in k.seen slot) (caller - 1) row r (subst (λ (o : Option D). IsDoorOr setting docs deeds p k.seen (held_in k.seen slot) (caller - 1 + 1) o) is door_of_next))

module _ {D W U X L : Type 0} (p : Plan W) (me new : Me (Cell D U) (Known W U X L)) (opener : IsOpener p me.0 Idle) (back : AreBack p me.0.back) (x : HasGivenUp p me new) where
  -- the registrar's seat of a table that was given up
  pub sees_all : new.0.seen ≡ x.turned.log
  sees_all = ap (λ (m : Me (Cell D U) (Known W U X L)). m.0.seen) x.turned.after

  pub closer_first : HasGoneOn p (record me.0 { seen = x.turned.log }) new.0 0
  closer_first =
      let b = begun_by p me new Idle (Emptied 0) me.0.fresh opener x.turned in
      record {
        closer = record { count = 0; opener = b.opener; few = omega arith; back = subst (λ (os : List (Own U X L)). AreBack p os) (sym b.back) back };
        seen = sees_all;
        back = b.back;
      }

module _ {D W U X L : Type 0} (r t : Registrar D U W X L) (passes : List (Pass D U W X L)) (taken : HasTakenAll r t passes) (e : Ended D U W X L) (mid : Me (Cell D U) (Known W U X L)) (same_plan : plan_at e ≡ plan_of t) (same_table : e.place.table_id ≡ table_of t)
    (x : HasGivenUp (plan_of t) t.place.me mid) (seen : history_of e ≡ x.turned.log) (left : left_in_it e ≡ back_of t) where
  legal : Legal (limits (plan_at e)) (history_of e)
  legal = subst (λ (z : Plan W × List (Entry U X L)). Legal (limits z.0) z.1) (λ i. (sym same_plan i, sym seen i)) (x.turned.covers.legal (plan_of t) t.told)

  over : IsOver (state_at e)
  over = subst (λ (z : Plan W × List (Entry U X L)). IsOver (state_of (limits z.0) z.1)) (λ i. (sym same_plan i, sym seen i)) x.over

  grown : HasNoPlaceSince (history_of e) (seen_of r)
  grown = subst (λ (z : List (Entry U X L) × List (Entry U X L)). HasNoPlaceSince z.0 z.1) (λ i. (sym seen i, taken.seen i)) (x.turned.covers.places t.role)

  pub has_closed : HasClosed r passes e
  has_closed = record {
    table = same_table ∙ taken.registrar.table;
    plan = same_plan ∙ taken.registrar.plan;
    legal = legal;
    seen = grown;
    left = left ∙ taken.back;
    own = subst (λ (z : List (Entry U X L) × List (Own U X L)). AllByRecursion (λ o. mine o.caller z.0 ≡ o.mine) z.1) (λ i. (sym seen i, sym left i)) x.own;
    unpinned = over.pins;
  }

  pub each_once : warming_of r ≡ [] → AreEachOnce e
  each_once none =
      let l = limits (plan_at e) in
      let warming : (state_at e).warming ≡ [] = (quiet_since l (history_of e) (seen_of r) grown).warming ∙ ap (λ (q : Plan W). (state_of (limits q) (seen_of r)).warming) (same_plan ∙ taken.registrar.plan) ∙ none in
      let slots : (slot g : ℕ) → (state_at e).slots slot ≡ Some g → (state_at e).current ≡ Some g = λ slot g is. ⊎_elim
      (λ now. now)
      (λ warm. absurd (true_and_false (is_in g (state_at e).warming) warm (ap (is_in g) warming)))
      (over.slots slot g is) in
      record {
        slots = slots;
        once = λ g opened other. ⊎_elim
            (λ (z : HasSlot (state_at e) g). absurd (other (slots z.0 g z.1)))
            (λ once. once)
            (freed_once l g (history_of e) legal opened);
      }

  pub doors_left : (setting : D → W) (docs : D → X) (deeds : D → List L) (rows : List (Vec D Global)) → length rows ≡ (limits (plan_of t)).slots → AreRowsTo setting docs deeds (plan_of t) mid.0.seen rows → mid.0.seen ≡ history_of e → AreDoorsLeft setting docs deeds e rows
  doors_left setting docs deeds rows count each same = record {
    count = count ∙ ap (λ (q : Plan W). (limits q).slots) (sym same_plan);
    each = subst (λ (z : Plan W × List (Entry U X L)). AreRowsTo setting docs deeds z.0 z.1 rows) (λ i. (sym same_plan i, same i)) each;
    current = (are_held (limits (plan_at e)) (history_of e) legal).opened;
  }

module _ {D U W X L : Type 0} (r t : Registrar D U W X L) (passes : List (Pass D U W X L)) where
  -- all passes are back then
  pub back_after : HasTakenAll r t passes → AreBack (plan_of r) (left_by r passes) → (q : Plan W) → plan_of t ≡ q → AreBack q (back_of t)
  back_after taken back q is = subst (λ (z : Plan W × List (Own U X L)). AreBack z.0 z.1) (λ i. ((sym taken.registrar.plan ∙ is) i, sym taken.back i)) back
