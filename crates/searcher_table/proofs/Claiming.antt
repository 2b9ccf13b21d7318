-- Finding, claiming and clearing a free slot keep the rule. Only the registrar does so.
use Rattle.std.proofs.Common.{◌≡◌, ◌≢◌, ℕ, ◌+◌, ◌%◌, ◌<◌, ◌≤◌, true, List, [], append-nil, length, set, get_or-set_same, get_or-set_other, sym, refl, ap, ◌∙◌, subst, inr, ⊎_elim, arith, Some, None}
use mathlib.Core.Option.{some}
use mathlib.Core.Option as maybe
use mathlib.Core.Logic.{dite}
use native.Mathlib.Decide.{ℕ_discrete}
use lib.ListN.{get_elem?}
use mir.Syntax.{w64}
use Rattle.std.specs.Prelude.{slice_index}
use Rattle.std.specs.Int.{bit_at, trailing_zeros}
use Rattle.std.proofs.lemmas.Bool.{cases_lt}
use Rattle.std.proofs.lemmas.Option.{none-some}
use Rattle.std.proofs.lemmas.Nat.Bits.{bit_at-zero, bit_at-trailing_zeros}
use Rattle.atomic_table.specs.Table.{State, Me, Act, Allows, homes_after, stepped, keeps, step}
use Rattle.registry_machine.specs.Legal.{state_of}
use Rattle.searcher_table.specs.declared.board.Cell.{Cell}
use Rattle.searcher_table.specs.declared.board.Plan.{Plan}
use Rattle.searcher_table.specs.declared.board.Known.{Known}
use Rattle.searcher_table.specs.declared.board.Task.{Task}
use Rattle.searcher_table.specs.declared.board.Task.TheVariants.{Idle, Found, Claimed, Filled, Duty, Back}
use Rattle.searcher_table.specs.Words.{word_count, current_word, slot_word, mask_word, bit_of, limits}
use Rattle.searcher_table.specs.Doors.{laid, reached, told_in, held_in, Four}
use Rattle.searcher_table.proofs.Doors.{four_begun}
use Rattle.searcher_table.specs.Tasks.{claimed, unsettled, emptied, IsFree, IsTask, Three}
use Rattle.searcher_table.specs.Rule.{released, Kept}
use Rattle.searcher_table.specs.Steps.{looked, HasTurned, Scanned, ScannedOn, Took, HasWiped, Wiped}
use Rattle.searcher_table.proofs.Frame.{put, set_same, covers}
use Rattle.searcher_table.proofs.Quiet.{quiet_since}
use Rattle.searcher_table.proofs.Beside.{few_slots, two_slots}
use Rattle.searcher_table.proofs.Slotting.{IsNoDuty, three_found, three_claimed, three_cleared}
use Rattle.searcher_table.proofs.Turning.{turns}
use Rattle.searcher_table.proofs.Room.{some_free}
use Rattle.searcher_table.proofs.Bits.{without, cleared_here, cleared_else, slots_beside}

found_no_duty : (slot : ℕ) → IsNoDuty (Found slot)
found_no_duty slot b g e = let q : Found slot ≡ Duty b g = e in absurd (cc)

idle_no_duty : IsNoDuty Idle
idle_no_duty b g e = let q : Idle ≡ Duty b g = e in absurd (cc)

module _ {D W U X L : Type 0} (setting : D → W) (docs : D → X) (deeds : D → List L) (p : Plan W) where
  -- the registrar's step that changes what it has begun, and no entry
  pub begins : (s : State (Cell D U) (Known W U X L)) (kept : Kept setting docs deeds p s) (id i x : ℕ) (me : Me (Cell D U) (Known W U X L)) (a : Task) (act : Act (Cell D U)) → get_elem? s.views id ≡ some me.0 → me.0.registrar ≡ true → ((n c : ℕ) → emptied a ≡ Some n → 1 ≤ c → c ≤ p.callers → kept.world.tasks c ≡ Back) → i < 640 → i ≢ current_word
      → Three p (state_of (limits p) kept.world.log) (released kept.world.log) a (put 0 a kept.world.tasks) (set s.words i x)
      → Four setting docs deeds p (state_of (limits p) kept.world.log) (told_in kept.world.log) (held_in kept.world.log) a kept.world.filling (homes_after s.homes me.1 act)
      → Kept setting docs deeds p (stepped s i x id me.1 (record (looked me.0 kept.world.log kept.world.pending) { hand = None; task = a; fresh = me.0.fresh }) act) × HasTurned a me.0.fresh me (record (looked me.0 kept.world.log kept.world.pending) { hand = None; task = a; fresh = me.0.fresh }, me.1)
  begins s kept id i x me a act at role over below beside three four =
      let w = kept.world in
      let k = me.0 in
      let all = kept.one.fits id k at in
      let r = all.registrar role in (
        turns setting docs deeds p s kept id i x me w.log [] a k.fresh w.fresh_at act at (inr role) (λ low. let n = r.nobody in absurd (omega arith)) over below (sym (append-nil w.log)) tt (inr role) kept.legal
            (two_slots p w.log s.words (set s.words i x) (get_or-set_other s.words i current_word x 0 (λ z. beside (sym z))) kept.two)
            (subst (λ (n : ℕ). Three p (state_of (limits p) w.log) (released w.log) (put n a w.tasks 0) (put n a w.tasks) (set s.words i x)) (sym r.nobody) three)
            (subst (λ (n : ℕ). Four setting docs deeds p (state_of (limits p) w.log) (told_in w.log) (held_in w.log) (put n a w.tasks 0) w.filling (homes_after s.homes me.1 act)) (sym r.nobody) four)
            (λ j f away g. (g.here, g.warming))
            (λ f is. let g = all.fresh f is in (g.here, g.warming)),
        record { log = w.log; pending = w.pending; covers = covers p w id k all kept.legal; after = refl },
      )

  -- the task of the registrar, which the rule speaks of
  pub own_is : (s : State (Cell D U) (Known W U X L)) (kept : Kept setting docs deeds p s) (id : ℕ) (k : Known W U X L) (a : Task) → get_elem? s.views id ≡ some k → k.registrar ≡ true → k.task ≡ a → kept.world.tasks 0 ≡ a
  own_is s kept id k a at role is = sym ((kept.one.fits id k at).registrar role).task ∙ is

  -- what fills nothing leaves the cells
  still : (s : State (Cell D U) (Known W U X L)) (kept : Kept setting docs deeds p s) (own a : Task) → kept.world.tasks 0 ≡ own → reached own ≡ None → (laid own).1 ≡ 0 → emptied own ≡ None → (laid a).1 ≡ 0
      → Four setting docs deeds p (state_of (limits p) kept.world.log) (told_in kept.world.log) (held_in kept.world.log) a kept.world.filling s.homes
  still s kept own a is none bare all zero = let w = kept.world in four_begun setting docs deeds p (state_of (limits p) w.log) (told_in w.log) (held_in w.log) (w.tasks 0) a w.filling s.homes (ap reached is ∙ none) (ap (λ (z : Task). (laid z).1) is ∙ bare) (ap emptied is ∙ all) zero kept.four

  -- a word that is read stays
  pub read_same : (s : State (Cell D U) (Known W U X L)) (kept : Kept setting docs deeds p s) (i : ℕ) (a : Task) → Three p (state_of (limits p) kept.world.log) (released kept.world.log) a (put 0 a kept.world.tasks) s.words
      → Three p (state_of (limits p) kept.world.log) (released kept.world.log) a (put 0 a kept.world.tasks) (set s.words i (slice_index s.words i))
  read_same s kept i a three = subst (λ (ws : List ℕ). Three p (state_of (limits p) kept.world.log) (released kept.world.log) a (put 0 a kept.world.tasks) ws) (sym (set_same s.words i)) three

  pub scans : (slots id : ℕ) (me : Me (Cell D U) (Known W U X L)) (i : ℕ) → i ≡ 24 → me.0.registrar ≡ true → me.0.task ≡ Idle → length (state_of (limits p) me.0.seen).warming < p.max_warming
      → Allows (Kept setting docs deeds p) slots id me i (λ n. n) (Scanned (step slots i 0 0 maybe.none) me)
  scans slots id me i at_word role idle room s kept deep at small =
      let w = kept.world in
      let k = me.0 in
      let l = limits p in
      let r = (kept.one.fits id k at).registrar role in
      let own = own_is s kept id k Idle at role idle in
      let n : ℕ = slice_index s.words i in
      let quiet = quiet_since l w.log k.seen r.seen in
      let free = some_free p w.log w.tasks s.words w.next kept.legal kept.two kept.three (ap claimed own) (ap unsettled own) (subst IsNoDuty (sym own) idle_no_duty) kept.one.few (λ c past. (kept.one.undealt c past).1)
      (subst (λ (gs : List ℕ). length gs < p.max_warming) (sym quiet.warming) room) in
      let goes : (slot : ℕ) → IsFree l (state_of l w.log) (w.tasks 0) slot → Kept setting docs deeds p (stepped s i n id me.1 (record (looked k w.log w.pending) { hand = None; task = Found slot; fresh = k.fresh }) keeps) × HasTurned (Found slot) k.fresh me (record (looked k w.log w.pending) { hand = None; task = Found slot; fresh = k.fresh }, me.1) =
      λ slot is. begins s kept id i n me (Found slot) keeps at role (λ m _ z. absurd (none-some m z)) (omega arith) (omega arith)
      (read_same s kept i (Found slot) (three_found p (state_of l w.log) (released w.log) w.tasks s.words kept.three slot (ap claimed own) (ap unsettled own) (subst IsNoDuty (sym own) idle_no_duty) is)) (still s kept Idle (Found slot) own refl refl refl refl) in
      dite (ℕ_discrete n 0)
      (λ zero.
      let low = free.1.below in
      let few = few_slots p kept.two.sizes in
      let b = goes free.0 free.1 in (
        record (looked k w.log w.pending) { hand = None; task = Found free.0; fresh = k.fresh },
        keeps,
        tt,
        b.0,
        record {
          slot = free.0;
          turned = b.1;
          other = λ _. at_least free.0 (λ below.
              let one = (kept.three.masks free.0 (omega arith)).marked free.1 in
              let at_it : mask_word free.0 ≡ i = omega arith in
              let none : bit_of s.words free.0 ≡ 0 = ap (λ m. bit_at m (free.0 % 64)) (ap (λ m. slice_index s.words m) at_it ∙ zero) ∙ bit_at-zero (free.0 % 64) in
              absurd (omega arith));
          first = λ some. absurd (some zero);
        },
      ))
      (λ some.
      let z = bit_at-trailing_zeros w64 n (omega arith) small in
      let slot : ℕ = trailing_zeros w64 n in
      let low : slot < 64 = z.0 in
      let at_it : mask_word slot ≡ i = omega arith in
      let rest : slot % 64 ≡ slot = omega arith in
      let one : bit_of s.words slot ≡ 1 = (λ j. bit_at (slice_index s.words (at_it j)) (rest j)) ∙ z.1 in
      let b = goes slot ((kept.three.masks slot (omega arith)).free one) in (
        record (looked k w.log w.pending) { hand = None; task = Found slot; fresh = k.fresh },
        keeps,
        tt,
        b.0,
        record { slot = slot; turned = b.1; other = λ zero. absurd (some zero); first = λ _. refl },
      ))
    where
      at_least : (n : ℕ) → (n < 64 → 64 ≤ n) → 64 ≤ n
      at_least n by = ⊎_elim by (λ high. high) (cases_lt n 64)

  pub scans_on : (slots id : ℕ) (me : Me (Cell D U) (Known W U X L)) (i b : ℕ) → i ≡ 32 → me.0.registrar ≡ true → me.0.task ≡ Found b → 64 ≤ b → Allows (Kept setting docs deeds p) slots id me i (λ n. n) (ScannedOn (step slots i 0 0 maybe.none) me)
  scans_on slots id me i b at_word role found high s kept deep at small =
      let w = kept.world in
      let k = me.0 in
      let l = limits p in
      let own = own_is s kept id k (Found b) at role found in
      let n : ℕ = slice_index s.words i in
      let mine : IsTask p (state_of l w.log) (w.tasks 0) (released w.log) s.words 0 (Found b) = subst (λ (a : Task). IsTask p (state_of l w.log) (w.tasks 0) (released w.log) s.words 0 a) own (kept.three.begun 0) in
      let below = mine.1.below in
      let few = few_slots p kept.two.sizes in
      let there : mask_word b ≡ i = omega arith in
      let marked = (kept.three.masks b (omega arith)).marked mine.1 in
      let some : n ≢ 0 = λ zero.
      (let none : bit_of s.words b ≡ 0 = ap (λ m. bit_at m (b % 64)) (ap (λ m. slice_index s.words m) there ∙ zero) ∙ bit_at-zero (b % 64) in absurd (omega arith)) in
      let z = bit_at-trailing_zeros w64 n (omega arith) small in
      let low : trailing_zeros w64 n < 64 = z.0 in
      let slot : ℕ = 64 + trailing_zeros w64 n in
      let at_it : mask_word slot ≡ i = omega arith in
      let rest : slot % 64 ≡ trailing_zeros w64 n = omega arith in
      let one : bit_of s.words slot ≡ 1 = (λ j. bit_at (slice_index s.words (at_it j)) (rest j)) ∙ z.1 in
      let g = begins s kept id i n me (Found slot) keeps at role (λ m _ z. absurd (none-some m z)) (omega arith) (omega arith)
      (read_same s kept i (Found slot) (three_found p (state_of l w.log) (released w.log) w.tasks s.words kept.three slot (ap claimed own) (ap unsettled own) (subst IsNoDuty (sym own) (found_no_duty b)) ((kept.three.masks slot (omega arith)).free one))) (still s kept (Found b) (Found slot) own refl refl refl refl) in (
        record (looked k w.log w.pending) { hand = None; task = Found slot; fresh = k.fresh },
        keeps,
        tt,
        g.0,
        record { some = some; turned = g.1 },
      )

  pub takes : (slots id : ℕ) (me : Me (Cell D U) (Known W U X L)) (i q slot : ℕ) (f : ℕ → ℕ) → i ≡ mask_word slot → slot < 128 → me.0.registrar ≡ true → me.0.task ≡ Found slot
      → ((words : List ℕ) (long : length words ≡ word_count) (low : slot < 128) (n : ℕ) → f n ≡ without words slot long low n)
      → Allows (Kept setting docs deeds p) slots id me i f (Took (step slots i q 0 maybe.none) me)
  takes slots id me i q slot f at_word low role found is s kept deep at small =
      let w = kept.world in
      let k = me.0 in
      let l = limits p in
      let own = own_is s kept id k (Found slot) at role found in
      let x : ℕ = without s.words slot kept.words low (slice_index s.words (mask_word slot)) in
      let value : f (slice_index s.words i) ≡ x = is s.words kept.words low (slice_index s.words i) ∙ ap (λ m. without s.words slot kept.words low (slice_index s.words m)) at_word in
      let three : Three p (state_of l w.log) (released w.log) (Claimed slot) (put 0 (Claimed slot) w.tasks) (set s.words (mask_word slot) x) =
      three_claimed p (state_of l w.log) (released w.log) w.tasks s.words kept.three slot (set s.words (mask_word slot) x) own (cleared_here s.words slot kept.words low) (cleared_else s.words slot kept.words low) (slots_beside s.words slot x kept.words low) in
      let g = begins s kept id i (f (slice_index s.words i)) me (Claimed slot) keeps at role (λ m _ z. absurd (none-some m z)) (omega arith) (λ z. absurd (omega arith))
      (subst (λ (z : ℕ × ℕ). Three p (state_of l w.log) (released w.log) (Claimed slot) (put 0 (Claimed slot) w.tasks) (set s.words z.0 z.1)) (λ j. (sym at_word j, sym value j)) three) (still s kept (Found slot) (Claimed slot) own refl refl refl refl) in (
        record (looked k w.log w.pending) { hand = None; task = Claimed slot; fresh = k.fresh },
        keeps,
        tt,
        g.0,
        λ b has. subst (λ (a : Task). HasTurned a k.fresh me (record (looked k w.log w.pending) { hand = None; task = Claimed slot; fresh = k.fresh }, me.1)) (ap claimed_of (sym found ∙ has)) g.1,
      )
    where
      claimed_of : Task → Task
      claimed_of (Found b) = Claimed b
      claimed_of _ = Idle

  pub wipes : (slots id : ℕ) (me : Me (Cell D U) (Known W U X L)) (i slot : ℕ) → i ≡ slot_word slot → me.0.registrar ≡ true → me.0.task ≡ Claimed slot → Allows (Kept setting docs deeds p) slots id me i (λ _. 0) (λ _. Wiped (step slots i 0 0 maybe.none) me 0)
  wipes slots id me i slot at_word role claim s kept deep at small =
      let w = kept.world in
      let k = me.0 in
      let l = limits p in
      let all = kept.one.fits id k at in
      let own = own_is s kept id k (Claimed slot) at role claim in
      let long = kept.words in
      let mine : IsTask p (state_of l w.log) (w.tasks 0) (released w.log) s.words 0 (Claimed slot) = subst (λ (a : Task). IsTask p (state_of l w.log) (w.tasks 0) (released w.log) s.words 0 a) own (kept.three.begun 0) in
      let below = mine.1 in
      let few = few_slots p kept.two.sizes in
      let three : Three p (state_of l w.log) (released w.log) (Filled slot 0) (put 0 (Filled slot 0) w.tasks) (set s.words (slot_word slot) 0) =
      three_cleared p (state_of l w.log) (released w.log) w.tasks s.words kept.three slot (set s.words (slot_word slot) 0) own (get_or-set_same s.words (slot_word slot) 0 0 (omega arith))
      (λ b few. ap (λ n. bit_at n (b % 64)) (get_or-set_other s.words (slot_word slot) (mask_word b) 0 0 (λ z. absurd (omega arith))))
      (λ b away. get_or-set_other s.words (slot_word slot) (slot_word b) 0 0 (λ z. away (omega arith))) in
      let new : Me (Cell D U) (Known W U X L) = (record (looked k w.log w.pending) { hand = None; task = Filled slot 0; fresh = k.fresh }, me.1) in
      let g = begins s kept id i 0 me (Filled slot 0) keeps at role (λ m _ z. absurd (none-some m z)) (omega arith) (λ z. absurd (omega arith))
      (subst (λ (z : ℕ). Three p (state_of l w.log) (released w.log) (Filled slot 0) (put 0 (Filled slot 0) w.tasks) (set s.words z 0)) (sym at_word) three) (still s kept (Claimed slot) (Filled slot 0) own refl refl refl refl) in (
        new.0,
        keeps,
        tt,
        g.0,
        λ b has. subst (λ (n : ℕ). HasWiped n me new) (ap slot_of (sym claim ∙ has)) record {
          turned = record { log = w.log; pending = w.pending; covers = covers p w id k all kept.legal; after = refl };
          free = λ q is. subst (λ (z : Plan W). (slot < (limits z).slots) × ((state_of (limits z) w.log).slots slot ≡ None)) (sym (all.plan q is)) (mine.1, mine.2);
        },
      )
    where
      slot_of : Task → ℕ
      slot_of (Claimed b) = b
      slot_of _ = 0
