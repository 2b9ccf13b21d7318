-- Settling keeps the rule: the acquires of a generation are told to its slot's word, and who finds as many releases has to free it.
use Rattle.std.proofs.Common.{◌≡◌, ◌≢◌, ◌⊎◌, ℕ, ◌+◌, ◌*◌, ◌%◌, ◌<◌, Bool, true, false, not, ◌||◌, cond, eq-eqb, ne_eqb, List, set, get_or-set_same, get_or-set_other, sym, refl, ap, ◌∙◌, subst, inl, inr, ⊎_elim, arith, Some, None}
use mathlib.Core.Option as maybe
use mathlib.Core.Logic.{dite}
use native.Mathlib.Decide.{ℕ_discrete}
use Rattle.std.specs.Prelude.{slice_index, ◌^◌}
use Rattle.std.specs.Int.{bit_at}
use Rattle.std.proofs.lemmas.Option.{same_Some, none-some}
use Rattle.std.proofs.lemmas.Bool.{cases_Bool}
use Rattle.atomic_table.specs.Table.{Me, Allows, keeps, step, stepped}
use Rattle.registry_machine.specs.Machine.{State, is_in, is_some_of}
use Rattle.registry_machine.specs.Legal.{state_of}
use Rattle.searcher_table.specs.declared.board.Cell.{Cell}
use Rattle.searcher_table.specs.declared.board.Plan.{Plan}
use Rattle.searcher_table.specs.declared.board.Known.{Known}
use Rattle.searcher_table.specs.declared.board.Task.{Task}
use Rattle.searcher_table.specs.declared.board.Task.TheVariants.{Idle, Unsettled, Duty}
use Rattle.searcher_table.specs.Words.{slot_word, mask_word, limits}
use Rattle.searcher_table.specs.Tasks.{claimed, unsettled, emptied, is_settled, IsUnsettled, IsDuty, IsTask, Three}
use Rattle.searcher_table.specs.Rule.{released, Kept}
use Rattle.searcher_table.specs.Steps.{looked, settled_by, HasTold, Settled}
use Rattle.searcher_table.proofs.Frame.{put, not_some, covers}
use Rattle.searcher_table.proofs.Counts.{balance_of_all, few_acquired}
use Rattle.searcher_table.proofs.Standing.{bounded}
use Rattle.searcher_table.proofs.Beside.{first_within, open_below}
use Rattle.searcher_table.proofs.Slotted.{own_is, idle_duty, duty_parts, settled_parts, map_duty, begun_by, duty_still, was_duty}
use Rattle.searcher_table.proofs.Freeing.{nothing_pinned}
use Rattle.searcher_table.specs.Doors.{laid, reached, told_in, held_in}
use Rattle.searcher_table.proofs.Doors.{claims_none, four_begun}
use Rattle.searcher_table.proofs.Claiming.{begins, own_is as task_is}

not_settled : (s : State) (own : Task) (g : ℕ) → unsettled own ≡ Some g → is_settled s own g ≡ false
not_settled s own g is = ⊎_elim (λ yes. absurd ((settled_parts s own g yes).2 is)) (λ no. no) (cases_Bool (is_settled s own g))

now_settled : (s : State) (g : ℕ) (a b : Bool) → a ≡ false → b ≡ false → not (a || b || false) ≡ true
now_settled s g false false e f = refl
now_settled s g true b e f = absurd (true_false e)
  where
    true_false : true ≡ false → ⊥
    true_false z = let q : true ≡ false = z in absurd (cc)
now_settled s g false true e f = absurd (true_false f)
  where
    true_false : true ≡ false → ⊥
    true_false z = let q : true ≡ false = z in absurd (cc)

module _ {W : Type 0} (p : Plan W) (s : State) (rel : ℕ → ℕ) (tasks : ℕ → Task) (words news : List ℕ) (three : Three p s rel (tasks 0) tasks words) (slot g total : ℕ) (is : tasks 0 ≡ Unsettled slot g total) where
  mine : IsUnsettled s slot g total
  mine = (subst (λ (t : Task). IsTask p s (tasks 0) rel words 0 t) is (three.begun 0)).1

  told : unsettled (tasks 0) ≡ Some g
  told = ap unsettled is

  not_now : is_some_of g s.current ≡ false
  not_now = ⊎_elim (λ yes. absurd (mine.not_current (own_is g s.current yes))) (λ no. no) (cases_Bool (is_some_of g s.current))

  -- the word had counted the releases alone
  pub word_before : slot < 70 → slice_index words (slot_word slot) ≡ rel g
  word_before low = three.counts slot g low mine.opened ∙ ap (λ b. rel g + cond b ((s.acquired g + 1) * 4294967296) 0) (not_settled s (tasks 0) g told) ∙ (let n : rel g + 0 ≡ rel g = omega arith in n)

  pub three_settled : (a : Task) → slot < 70 → ((b : ℕ) → s.slots b ≡ Some g → b ≡ slot) → s.pins 0 ≡ None → unsettled a ≡ None → claimed a ≡ None
      → ((a ≡ Idle) × (rel g ≢ s.acquired g)) ⊎ ((a ≡ Duty slot g) × (rel g ≡ s.acquired g))
      → slice_index news (slot_word slot) ≡ slice_index words (slot_word slot) + (total + 1) * 4294967296 → ((i : ℕ) → i ≢ slot_word slot → slice_index news i ≡ slice_index words i)
      → Three p s rel a (put 0 a tasks) news
  three_settled a low one free none unclaimed by up same =
      let now : is_settled s a g ≡ true = ap (λ o. not (is_in g s.warming || is_some_of g s.current || is_some_of g o)) none ∙ now_settled s g (is_in g s.warming) (is_some_of g s.current) mine.not_warming not_now in
      let before : is_settled s (tasks 0) g ≡ false = not_settled s (tasks 0) g told in
      let as_before : (h : ℕ) → h ≢ g → is_settled s a h ≡ is_settled s (tasks 0) h = λ h away.
      (λ i. not (is_in h s.warming || is_some_of h s.current || (ap (is_some_of h) none ∙ sym (ap (is_some_of h) told ∙ ne_eqb g h (λ z. away (sym z)))) i)) in
      let apart : (h : ℕ) → is_settled s (tasks 0) h ≡ true → h ≢ g = λ h yes at. (settled_parts s (tasks 0) h yes).2 (told ∙ ap (λ n. Some n) (sym at)) in
      record {
        masks = λ b few. let m = three.masks b few in let e = ap (λ n. bit_at n (b % 64)) (same (mask_word b) (λ z. absurd (omega arith))) in record {
          free = λ bit. let f = m.free (sym e ∙ bit) in record { below = f.below; none = f.none; unclaimed = λ z. none-some b (sym unclaimed ∙ z) };
          marked = λ f. e ∙ m.marked record { below = f.below; none = f.none; unclaimed = λ z. none-some b (sym (ap claimed is) ∙ z) };
        };
        counts = λ b h few here. dite (ℕ_discrete b slot)
            (λ eq.
            let at : h ≡ g = same_Some h g (sym here ∙ ap s.slots eq ∙ mine.opened) in
            let v = ap (λ n. slice_index news (slot_word n)) eq in
            let w = word_before low in
            let r = ap rel at in
            let q = ap s.acquired at in
            let t = mine.total_is in
            let n : cond (is_settled s a h) ((s.acquired h + 1) * 4294967296) 0 ≡ (s.acquired h + 1) * 4294967296 = ap (λ z. cond z ((s.acquired h + 1) * 4294967296) 0) (ap (is_settled s a) at ∙ now) in
            omega arith)
            (λ away.
            let other : h ≢ g = λ at. away (one b (here ∙ ap (λ n. Some n) at)) in
            same (slot_word b) (λ z. away (omega arith)) ∙ three.counts b h few here ∙ ap (λ z. rel h + cond z ((s.acquired h + 1) * 4294967296) 0) (sym (as_before h other)));
        begun = begun_by p s a rel news tasks 0 a
            (⊎_elim
            (λ (z : (a ≡ Idle) × (rel g ≢ s.acquired g)). subst (λ (n : Task). IsTask p s a rel news 0 n) (sym z.0) tt)
            (λ (z : (a ≡ Duty slot g) × (rel g ≡ s.acquired g)). subst (λ (n : Task). IsTask p s a rel news 0 n) (sym z.0) record { opened = mine.opened; settled = now; drained = z.1; unpinned = free; within = omega arith })
            by)
            (λ d other. map_duty p s s (tasks 0) a rel rel words news d other (tasks d)
            (λ b h has (f : IsDuty p s (tasks 0) rel d b h). record { opened = f.opened; settled = as_before h (apart h f.settled) ∙ f.settled; drained = f.drained; unpinned = f.unpinned; within = f.within })
            (three.begun d));
        drained = λ b h here yes out. dite (ℕ_discrete h g)
            (λ at. (
              0,
              ⊎_elim
                  (λ (z : (a ≡ Idle) × (rel g ≢ s.acquired g)). absurd (z.1 (ap rel (sym at) ∙ out ∙ ap s.acquired at)))
                  (λ (z : (a ≡ Duty slot g) × (rel g ≡ s.acquired g)). z.0 ∙ (λ i. Duty (sym (one b (here ∙ ap (λ n. Some n) at)) i) (sym at i)))
                  by,
            ))
            (λ away. let d = three.drained b h here (sym (as_before h away) ∙ yes) out in
            (d.0, duty_still tasks 0 a d.0 b h d.1 (λ z. let q : Unsettled slot g total ≡ Duty b h = sym is ∙ ap tasks (sym z) ∙ d.1 in absurd (cc))));
        alone = λ d e x y h i j. ⊎_elim
            (λ (m : (d ≡ 0) × (a ≡ Duty x h)). ⊎_elim
            (λ (n : (e ≡ 0) × (a ≡ Duty y h)). m.0 ∙ sym n.0)
            (λ (n : (e ≢ 0) × (tasks e ≡ Duty y h)). absurd (new_duty h x m.1 e y n.1))
            (was_duty tasks 0 a e y h j))
            (λ (m : (d ≢ 0) × (tasks d ≡ Duty x h)). ⊎_elim
            (λ (n : (e ≡ 0) × (a ≡ Duty y h)). absurd (new_duty h y n.1 d x m.1))
            (λ (n : (e ≢ 0) × (tasks e ≡ Duty y h)). three.alone d e x y h m.1 n.1)
            (was_duty tasks 0 a e y h j))
            (was_duty tasks 0 a d x h i);
      }
    where
      new_duty : (h x : ℕ) → a ≡ Duty x h → (d y : ℕ) → tasks d ≡ Duty y h → ⊥
      new_duty h x has d y theirs = ⊎_elim
          (λ (z : (a ≡ Idle) × (rel g ≢ s.acquired g)). idle_duty x h (sym z.0 ∙ has))
          (λ (z : (a ≡ Duty slot g) × (rel g ≡ s.acquired g)).
          let at : h ≡ g = (duty_parts x slot h g (sym has ∙ z.0)).1 in
          let f : IsDuty p s (tasks 0) rel d y g = subst (λ (n : Task). IsTask p s (tasks 0) rel words d n) (theirs ∙ ap (Duty y) at) (three.begun d) in
          (settled_parts s (tasks 0) g f.settled).2 told)
          by

module _ {D W U X L : Type 0} (setting : D → W) (docs : D → X) (deeds : D → List L) (p : Plan W) where
  pub settles : (slots id : ℕ) (me : Me (Cell D U) (Known W U X L)) (i q slot g total : ℕ) → i ≡ slot_word slot → q ≡ (total + 1) * 4294967296 → me.0.registrar ≡ true → me.0.task ≡ Unsettled slot g total
      → Allows (Kept setting docs deeds p) slots id me i (λ n. (n + q) % 2 ^ 64) (Settled (step slots i q 0 maybe.none) me)
  settles slots id me i q slot g total at_word more role task s kept deep at small =
      let w = kept.world in
      let k = me.0 in
      let l = limits p in
      let all = kept.one.fits id k at in
      let v : State = state_of l w.log in
      let own = task_is setting docs deeds p s kept id k (Unsettled slot g total) at role task in
      let long = kept.words in
      let here = mine p v (released w.log) w.tasks s.words s.words kept.three slot g total own in
      let low = open_below p w.log slot g kept.two.sizes kept.legal here.opened in
      let b = bounded l w.log (first_within p kept.two.sizes) kept.legal in
      let before = word_before p v (released w.log) w.tasks s.words s.words kept.three slot g total own low in
      let n : ℕ = slice_index s.words (slot_word slot) in
      let balance = balance_of_all l g w.log kept.legal kept.two.named in
      let few = few_acquired l g p.budget w.log kept.two.named kept.two.within in
      let most = kept.two.sizes.budget in
      let count = here.total_is in
      let x : ℕ = (n + q) % 2 ^ 64 in
      let sum : x ≡ n + (total + 1) * 4294967296 = omega arith in
      let a : Task = settled_by n slot g total in
      let news : List ℕ = set s.words (slot_word slot) x in
      let kinds : (unsettled a ≡ None) × (claimed a ≡ None) × (((a ≡ Idle) × (released w.log g ≢ v.acquired g)) ⊎ ((a ≡ Duty slot g) × (released w.log g ≡ v.acquired g))) =
      dite (ℕ_discrete n total)
      (λ same. let e : a ≡ Duty slot g = ap (λ z. cond z (Duty slot g) Idle) (eq-eqb n total same) in (ap unsettled e, ap claimed e, inr (e, omega arith)))
      (λ other. let e : a ≡ Idle = ap (λ z. cond z (Duty slot g) Idle) (ne_eqb n total other) in (ap unsettled e, ap claimed e, inl (e, λ z. other (omega arith)))) in
      let three : Three p v (released w.log) a (put 0 a w.tasks) news =
      three_settled p v (released w.log) w.tasks s.words news kept.three slot g total own a low (λ c z. b.one c slot g z here.opened) (nothing_pinned p w.log kept.two.named) kinds.0 kinds.1 kinds.2
      (get_or-set_same s.words (slot_word slot) x 0 (omega arith) ∙ sum) (λ j away. get_or-set_other s.words (slot_word slot) j x 0 away) in
      let goes = begins setting docs deeds p s kept id (slot_word slot) x me a keeps at role (λ m _ z. not_some (emptied a) m (⊎_elim (λ y. ap emptied y.0) (λ y. ap emptied y.0) kinds.2) z) (omega arith) (λ z. absurd (omega arith)) three
      (four_begun setting docs deeds p v (told_in w.log) (held_in w.log) (w.tasks 0) a w.filling s.homes (ap reached own) (ap (λ (z : Task). (laid z).1) own) (ap emptied own) (claims_none a kinds.1).1 kept.four) in (
        record (looked k w.log w.pending) { hand = None; task = settled_by (slice_index s.words i) slot g total; fresh = k.fresh },
        keeps,
        tt,
        subst (λ (m : ℕ). Kept setting docs deeds p (stepped s m ((slice_index s.words m + q) % 2 ^ 64) id me.1 (record (looked k w.log w.pending) { hand = None; task = settled_by (slice_index s.words m) slot g total; fresh = k.fresh }) keeps)) (sym at_word) goes.0,
        λ c h t has. subst (λ (z : ℕ × Task). HasTold (slot_of z.1) (generation_of z.1) (total_of z.1) (slice_index s.words z.0) me (record (looked k w.log w.pending) { hand = None; task = settled_by (slice_index s.words z.0) slot g total; fresh = k.fresh }, me.1))
            (λ j. (sym at_word j, (sym task ∙ has) j)) record {
              turned = record { log = w.log; pending = w.pending; covers = covers p w id k all kept.legal; after = refl };
              released = sym before;
            },
      )
    where
      slot_of : Task → ℕ
      slot_of (Unsettled c h t) = c
      slot_of _ = 0

      generation_of : Task → ℕ
      generation_of (Unsettled c h t) = h
      generation_of _ = 0

      total_of : Task → ℕ
      total_of (Unsettled c h t) = t
      total_of _ = 0
