-- Laying doors into the slot that was claimed keeps the rule: a cell is taken out, and is back with a door.
use Rattle.std.proofs.Common.{◌≡◌, ◌≢◌, ℕ, zero, suc, ◌+◌, ◌<◌, true, List, [], ◌∷◌, set, sym, refl, ap, ◌∙◌, subst, arith, Option, Some, None}
use mathlib.Core.Option.{some}
use mathlib.Core.Option as maybe
use lib.ListN.{get_elem?}
use Rattle.std.specs.Prelude.{slice_index}
use Rattle.std.proofs.lemmas.Option.{none-some}
use Rattle.atomic_table.specs.Table.{State, Me, Allows, takes, gives, step, rest, homes_after}
use Rattle.registry_machine.specs.Machine.{State as MachineState}
use Rattle.registry_machine.specs.Legal.{state_of}
use Rattle.searcher_table.specs.declared.board.Cell.{Cell}
use Rattle.searcher_table.specs.declared.board.Cell.TheVariants.{Full}
use Rattle.searcher_table.specs.declared.board.Plan.{Plan}
use Rattle.searcher_table.specs.declared.board.Known.{Known}
use Rattle.searcher_table.specs.declared.board.Task.{Task}
use Rattle.searcher_table.specs.declared.board.Task.TheVariants.{Filled, Filling, Duty}
use Rattle.searcher_table.specs.Words.{limits}
use Rattle.searcher_table.specs.Tasks.{claimed, unsettled, IsClear, IsTask, Three}
use Rattle.searcher_table.specs.Doors.{cell_of, laid, told_in, held_in, Four}
use Rattle.searcher_table.specs.Rule.{World, IsRegistrar, IsBack, Fits, released, Kept}
use Rattle.searcher_table.specs.Steps.{looked, HasTurned, HasReached, Reached, Laid, filling_with}
use Rattle.searcher_table.specs.Claims.{IsOpener, HasBegun, HasLaid}
use Rattle.searcher_table.specs.declared.registrar.Registrar.{Registrar}
use Rattle.searcher_table.specs.Registrars.{plan_of}
use Rattle.searcher_table.proofs.Frame.{put, each_set, all_map, covers}
use Rattle.searcher_table.proofs.Slotting.{three_filled}
use Rattle.searcher_table.proofs.Doors.{four_reached, four_refilled, four_laid}
use Rattle.searcher_table.proofs.Claiming.{begins, own_is, read_same}
use Rattle.searcher_table.proofs.Preparing.{begun_by, begun_on}

module _ {A : Type 0} where
  at_set_same : (xs : List A) (i : ℕ) (a b : A) → get_elem? xs i ≡ some b → get_elem? (set xs i a) i ≡ some a
  at_set_same [] i a b e = absurd (maybe.some-ne-none b (sym e))
  at_set_same (x ∷ xs) zero a b e = refl
  at_set_same (x ∷ xs) (suc i) a b e = at_set_same xs i a b e

  set_twice : (xs : List A) (i : ℕ) (a b : A) → set (set xs i a) i b ≡ set xs i b
  set_twice [] i a b = refl
  set_twice (x ∷ xs) zero a b = refl
  set_twice (x ∷ xs) (suc i) a b = ap (λ l. x ∷ l) (set_twice xs i a b)

module _ {W U X L : Type 0} where
  -- what a seat knows stays true, where the registrar fills with this
  refits : (p : Plan W) (w : World U X L) (f m : Option X) (j : ℕ) (k : Known W U X L) → (k.registrar ≡ true → IsRegistrar (record w { filling = f }) j (record k { filling = m })) → Fits p w j k → Fits p (record w { filling = f }) j (record k { filling = m })
  refits p w f m j k registrar g = record {
    plan = g.plan;
    seen = g.seen;
    told = g.told;
    pass = λ c. let i = g.pass c in record { here = i.here; dealt = i.dealt; calls = i.calls; task = i.task };
    hand = λ h e. let i = g.hand h e in record { here = i.here; pending = i.pending };
    fresh = λ h e. let i = g.fresh h e in record { here = i.here; warming = i.warming };
    registrar = registrar;
    back = all_map (IsBack w j) (IsBack (record w { filling = f }) j) (λ o i. record { here = i.here; dealt = i.dealt; mine = i.mine; none = i.none; done = i.done }) k.back g.back;
  }

module _ {D W U X L : Type 0} (setting : D → W) (docs : D → X) (deeds : D → List L) (p : Plan W) where
  -- the registrar says what it fills with
  refilled : (s : State (Cell D U) (Known W U X L)) (kept : Kept setting docs deeds p s) (id : ℕ) (k : Known W U X L) (f : Option X) → get_elem? s.views id ≡ some k → k.registrar ≡ true
      → Four setting docs deeds p (state_of (limits p) kept.world.log) (told_in kept.world.log) (held_in kept.world.log) (kept.world.tasks 0) f s.homes → Kept setting docs deeds p (record { words = s.words; homes = s.homes; views = set s.views id (record k { filling = f }) })
  refilled s kept id k f at role four =
      let w = kept.world in
      let v : World U X L = record w { filling = f } in
      let r = (kept.one.fits id k at).registrar role in
      record {
        words = kept.words;
        world = v;
        legal = kept.legal;
        two = kept.two;
        three = kept.three;
        four = four;
        one = record {
          calls = kept.one.calls;
          fits = each_set (Fits p v) s.views id (record k { filling = f })
              (refits p w f f id k (λ _. record { here = r.here; seen = r.seen; next = r.next; nobody = r.nobody; task = r.task; filling = refl; final = r.final }) (kept.one.fits id k at))
              (λ j u other e. refits p w f u.filling j u (λ x. let g = (kept.one.fits j u e).registrar x in absurd (other (sym g.here ∙ r.here))) (kept.one.fits j u e));
          undealt = kept.one.undealt;
          first = kept.one.first;
          few = kept.one.few;
          over = kept.one.over;
        };
      }

  -- the next caller's cell is taken out
  pub reaches : (slots id : ℕ) (me : Me (Cell D U) (Known W U X L)) (i slot n : ℕ) → i ≡ 16 → me.0.registrar ≡ true → me.0.task ≡ Filled slot n → n < p.callers
      → Allows (Kept setting docs deeds p) slots id me i (λ m. m) (Reached (step slots i 0 0 maybe.none) me)
  reaches slots id me i slot n at_word role task more s kept deep at small =
      let w = kept.world in
      let k = me.0 in
      let l = limits p in
      let v : MachineState = state_of l w.log in
      let own = own_is setting docs deeds p s kept id k (Filled slot n) at role task in
      let mine : IsTask p v (w.tasks 0) (released w.log) s.words 0 (Filled slot n) = subst (λ (a : Task). IsTask p v (w.tasks 0) (released w.log) s.words 0 a) own (kept.three.begun 0) in
      let clear : IsClear l v s.words slot = mine.1 in
      let few = kept.two.sizes.callers in
      let four : Four setting docs deeds p v (told_in w.log) (held_in w.log) (Filled slot n) w.filling s.homes = subst (λ (a : Task). Four setting docs deeds p v (told_in w.log) (held_in w.log) a w.filling s.homes) own kept.four in
      let cell : ℕ = cell_of slot (n + 1) in
      let x = four.spare slot (n + 1) clear.below clear.none (omega arith) (omega arith) record { unfilled = λ _. omega arith; home = λ z. none-some cell z; within = λ m z. absurd (none-some m z) } in
      let three : Three p v (released w.log) (Filling slot n) (put 0 (Filling slot n) w.tasks) s.words =
      three_filled p v (released w.log) w.tasks s.words kept.three slot (Filling slot n) (ap claimed own) refl (ap unsettled own) refl
      (λ b g e. let q : Filled slot n ≡ Duty b g = sym own ∙ e in absurd (cc)) (λ b g e. let q : Filling slot n ≡ Duty b g = e in absurd (cc)) (refl, clear) in
      let new : Me (Cell D U) (Known W U X L) = (record (looked k w.log w.pending) { hand = None; task = Filling slot n; fresh = k.fresh }, (cell, x.0) ∷ me.1) in
      let g = begins setting docs deeds p s kept id i (slice_index s.words i) me (Filling slot n) (takes cell x.0) at role (λ m _ z. absurd (none-some m z)) (omega arith) (λ z. absurd (omega arith))
      (read_same setting docs deeds p s kept i (Filling slot n) three) (four_reached setting docs deeds p v (told_in w.log) (held_in w.log) slot n w.filling s.homes few clear.none more four) in (
        new.0,
        takes cell x.0,
        x.1,
        g.0,
        λ b m has. subst (λ (z : ℕ × ℕ). HasReached z.0 z.1 me new) (ap laid (sym task ∙ has)) record { turned = g.1; old = x.0; out = refl },
      )

  -- and is back, with a door
  pub lays : (slots id : ℕ) (me : Me (Cell D U) (Known W U X L)) (i slot n : ℕ) (d : D) → i ≡ 16 → me.0.registrar ≡ true → me.0.task ≡ Filling slot n → n < p.callers → me.1 ≡ (cell_of slot (n + 1), Full d) ∷ []
      → setting d ≡ p.setting.value → deeds d ≡ [] → (n ≢ 0 → me.0.filling ≡ Some (docs d)) → Allows (Kept setting docs deeds p) slots id me i (λ m. m) (Laid docs (step slots i 0 0 maybe.none) me)
  unfolding refilled
  lays slots id me i slot n d at_word role task more out is unused same s kept deep at small =
      let w = kept.world in
      let k = me.0 in
      let l = limits p in
      let v : MachineState = state_of l w.log in
      let all = kept.one.fits id k at in
      let r = all.registrar role in
      let own = own_is setting docs deeds p s kept id k (Filling slot n) at role task in
      let mine : IsTask p v (w.tasks 0) (released w.log) s.words 0 (Filling slot n) = subst (λ (a : Task). IsTask p v (w.tasks 0) (released w.log) s.words 0 a) own (kept.three.begun 0) in
      let clear : IsClear l v s.words slot = mine.1 in
      let few = kept.two.sizes.callers in
      let f : Option X = Some (docs d) in
      let a : Task = Filled slot (n + 1) in
      let before : Four setting docs deeds p v (told_in w.log) (held_in w.log) (Filling slot n) w.filling s.homes = subst (λ (b : Task). Four setting docs deeds p v (told_in w.log) (held_in w.log) b w.filling s.homes) own kept.four in
      let told : Four setting docs deeds p v (told_in w.log) (held_in w.log) (Filling slot n) f s.homes = four_refilled setting docs deeds p v (told_in w.log) (held_in w.log) slot n w.filling f s.homes (λ z. sym r.filling ∙ same z) before in
      let m : Known W U X L = record k { filling = f } in
      let t : State (Cell D U) (Known W U X L) = record { words = s.words; homes = s.homes; views = set s.views id m } in
      let known : Kept setting docs deeds p t = refilled s kept id k f at role (subst (λ (b : Task). Four setting docs deeds p v (told_in w.log) (held_in w.log) b f s.homes) (sym own) told) in
      let three : Three p v (released w.log) a (put 0 a w.tasks) s.words =
      three_filled p v (released w.log) w.tasks s.words kept.three slot a (ap claimed own) refl (ap unsettled own) refl
      (λ b g e. let q : Filling slot n ≡ Duty b g = sym own ∙ e in absurd (cc)) (λ b g e. let q : Filled slot (n + 1) ≡ Duty b g = e in absurd (cc)) (refl, clear) in
      let four : Four setting docs deeds p v (told_in w.log) (held_in w.log) a f (homes_after s.homes me.1 gives) =
      subst (λ (hs : List (ℕ × Cell D U)). Four setting docs deeds p v (told_in w.log) (held_in w.log) a f (homes_after s.homes hs gives)) (sym out) (four_laid setting docs deeds p v (told_in w.log) (held_in w.log) slot n d s.homes few clear.below clear.none more is unused told) in
      let new : Me (Cell D U) (Known W U X L) = (record (looked m w.log w.pending) { hand = None; task = a; fresh = k.fresh }, rest me.1) in
      let g = begins setting docs deeds p t known id i (slice_index s.words i) (m, me.1) a gives (at_set_same s.views id m k at) role (λ m _ z. absurd (none-some m z)) (omega arith) (λ z. absurd (omega arith)) (read_same setting docs deeds p t known i a three) four in
      let c = covers p w id k all kept.legal in (
        new.0,
        gives,
        tt,
        subst (λ (vs : List (Known W U X L)). Kept setting docs deeds p (record { words = set s.words i (slice_index s.words i); homes = homes_after s.homes me.1 gives; views = vs })) (set_twice s.views id m new.0) g.0,
        λ b j e has carried. subst (λ (z : (ℕ × ℕ) × D). HasTurned (Filled z.0.0 (z.0.1 + 1)) me.0.fresh (filling_with me (docs z.1)) new) (λ q. (ap laid (sym task ∙ has) q, ap (door_in d) (sym out ∙ carried) q)) record {
          log = w.log;
          pending = w.pending;
          covers = record { seen = c.seen; told = c.told; legal = c.legal; places = c.places };
          after = refl;
        },
      )
    where
      door_in : D → List (ℕ × Cell D U) → D
      door_in e ((k, Full x) ∷ xs) = x
      door_in e _ = e

module _ {D W U X L : Type 0} where
  -- the registrar's seat once the cell is out, and once the door is in it
  pub reached_by : (p : Plan W) (slot n : ℕ) (old mid : Me (Cell D U) (Known W U X L)) → IsOpener p old.0 (Filled slot n) → HasReached slot n old mid → HasBegun p old.0 mid.0 (Filling slot n)
  reached_by p slot n old mid o x = begun_by p old (mid.0, old.1) (Filled slot n) (Filling slot n) old.0.fresh o x.turned

  pub met_is : (slot n k : ℕ) (d : D) (old mid met : Me (Cell D U) (Known W U X L)) → old.1 ≡ [] → HasReached slot n old mid → met ≡ (mid.0, (k, Full d) ∷ rest mid.1) → k ≡ cell_of slot (n + 1) → met ≡ (mid.0, (cell_of slot (n + 1), Full d) ∷ [])
  met_is slot n k d old mid met bare x is same = is ∙ (λ i. (mid.0, (same i, Full d) ∷ (ap rest x.out ∙ bare) i))

module _ {D W U X L : Type 0} (docs : D → X) (p : Plan W) (slot n : ℕ) (d : D) (old mid met new : Me (Cell D U) (Known W U X L)) where
  -- the registrar's seat once the next door is laid
  pub laid_by : IsOpener p old.0 (Filled slot n) → HasReached slot n old mid → met ≡ (mid.0, (cell_of slot (n + 1), Full d) ∷ []) → HasTurned (Filled slot (n + 1)) met.0.fresh (filling_with met (docs d)) new
      → HasLaid p old.0 new.0 slot (n + 1) (docs d) × (new.1 ≡ [])
  laid_by o x is t =
      let first = reached_by p slot n old mid o x in
      let filled : Me (Cell D U) (Known W U X L) = (record mid.0 { filling = Some (docs d) }, []) in
      let y : HasTurned (Filled slot (n + 1)) mid.0.fresh filled new = subst (λ (m : Me (Cell D U) (Known W U X L)). HasTurned (Filled slot (n + 1)) m.0.fresh (filling_with m (docs d)) new) is t in
      let second : HasBegun p filled.0 new.0 (Filled slot (n + 1)) =
      begun_by p filled new (Filling slot n) (Filled slot (n + 1)) mid.0.fresh record { plan = first.opener.plan; role = first.opener.role; task = first.opener.task } y in (
        record {
          begun = begun_on p old.0 mid.0 new.0 (Filling slot n) (Filled slot (n + 1)) first record { opener = second.opener; seen = second.seen; legal = second.legal; back = second.back; hand = second.hand };
          filling = ap (λ (m : Me (Cell D U) (Known W U X L)). m.0.filling) y.after;
        },
        ap (λ (m : Me (Cell D U) (Known W U X L)). m.1) y.after,
      )

-- what a seat has out, by the number of its cell
pub has_out : {A : Type 0} (xs ys : List (ℕ × A)) (k j : ℕ) (a : A) → xs ≡ (k, a) ∷ ys → k ≡ j → xs ≡ (j, a) ∷ rest xs
has_out xs ys k j a is same = is ∙ (λ i. (same i, a) ∷ ap rest (sym is) i)

module _ {D U W X L : Type 0} where
  -- the registrar's seat once all doors are laid into the slot that it has claimed
  pub filled_on : (r : Registrar D U W X L) (k n : Known W U X L) (slot : ℕ) (shown : X) → HasBegun (plan_of r) r.place.me.0 k (Filled slot 0) → HasLaid (plan_of r) k n slot (plan_of r).callers shown → HasLaid (plan_of r) r.place.me.0 n slot (plan_of r).callers shown
  filled_on r k n slot shown b f = record { begun = begun_on (plan_of r) r.place.me.0 k n (Filled slot 0) (Filled slot (plan_of r).callers) b f.begun; filling = f.filling }
