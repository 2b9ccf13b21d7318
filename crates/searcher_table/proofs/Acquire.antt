-- Acquiring keeps the rule: the current word counts one more, and the caller pins what is current, if anything is.
use Rattle.std.proofs.Common.{◌≡◌, ◌≢◌, ℕ, ◌+◌, ◌/◌, ◌%◌, ◌≤◌, ◌<◌, ◌==◌, Bool, true, false, cond, List, [], ◌∷◌, ◌++◌, count_by, length, length-set, set, get_or-set_same, get_or-set_other, eq-eqb, ne_eqb, refl, sym, ap, ◌∙◌, subst, arith, inl, inr, ⊎_elim, Option, Some, None}
use mathlib.Core.Option as maybe
use mathlib.Core.Logic.{dite}
use native.Mathlib.Decide.{ℕ_discrete}
use Rattle.std.specs.Prelude.{slice_index, ◌^◌}
use Rattle.std.proofs.lemmas.Option.{none-some}
use Rattle.atomic_table.specs.Table.{Me, Act, Allows, Valid, keeps, takes, homes_after, carried_after, step}
use Rattle.atomic_table.proofs.Lists.{set_else}
use Rattle.registry_machine.specs.declared.entry.Entry.{Entry}
use Rattle.registry_machine.specs.declared.entry.Entry.TheVariants.{Acquire, NotYet}
use Rattle.registry_machine.specs.Entries.{caller_of, has_place}
use Rattle.registry_machine.specs.Callers.{mine}
use Rattle.registry_machine.specs.Machine.{State, is_some_of, after}
use Rattle.registry_machine.specs.Legal.{IsAllowed, Legal, state_of}
use Rattle.searcher_table.specs.declared.board.Cell.{Cell}
use Rattle.searcher_table.specs.declared.board.Cell.TheVariants.{Full}
use Rattle.searcher_table.specs.declared.board.Plan.{Plan}
use Rattle.searcher_table.specs.declared.board.Known.{Known}
use Rattle.searcher_table.specs.Words.{word_count, current_word, limits}
use Rattle.searcher_table.specs.Counts.{is_acquire, is_not_yet, releases, pinned, NamesCaller}
use Rattle.searcher_table.specs.Rule.{CountsTooEarly, IsPacked, Two, released, Kept}
use Rattle.searcher_table.specs.declared.board.Task.{Task}
use Rattle.searcher_table.specs.declared.board.Task.TheVariants.{Idle, Back}
use Rattle.searcher_table.specs.declared.board.Fresh.{Fresh}
use Rattle.searcher_table.specs.Tasks.{emptied, IsTask, IsWarming, Three}
use Rattle.searcher_table.specs.Doors.{cell_of, told_in, held_in, IsDoorLeft, Four}
use Rattle.searcher_table.proofs.Slotted.{three_words, three_counts, three_acquired}
use Rattle.searcher_table.specs.Steps.{looked, acquire_of, TellsNone, TellsGeneration, TellsCurrent, Acquired}
use Rattle.searcher_table.proofs.Frame.{put_same, nothing_out, covers}
use Rattle.searcher_table.proofs.Execute.{grows_legal}
use Rattle.searcher_table.proofs.Counts.{counts_last, pins_own, own_count, few_tries}
use Rattle.searcher_table.proofs.Beside.{own_last, not_counted, all_snoc, few_slots, first_within}
use Rattle.searcher_table.proofs.Quiet.{state_next}
use Rattle.searcher_table.proofs.Holding.{are_held}
use Rattle.searcher_table.proofs.Standing.{bounded}
use Rattle.searcher_table.proofs.Doors.{told_next, held_next, in_it, fills_on, filled_none, four_beside, four_own}
use Rattle.searcher_table.proofs.Pinning.{early_entry, acquire_entry}
use Rattle.searcher_table.proofs.Current.{generation_of, count_of, small, tells}
use Rattle.searcher_table.proofs.OwnStep.{pinned_still, acquires_still, own_step}

-- what an entry that names this caller counts for another
abbrev is_one : ℕ → Option ℕ → Bool → ℕ
is_one d who b = cond (is_some_of d who) (cond {A = ℕ} b 1 0) 0

most_one : (a b : Bool) → cond {A = ℕ} a (cond {A = ℕ} b 1 0) 0 ≤ 1
most_one true true = omega arith
most_one true false = omega arith
most_one false b = omega arith

module _ {W U X L : Type 0} (p : Plan W) (log : List (Entry U X L)) (words : List ℕ) (tasks : ℕ → Task) (c x : ℕ) (long : length words ≡ word_count) (legal : Legal (limits p) log) (two : Two p log words) (three : Three p (state_of (limits p) log) (released log) (tasks 0) tasks words)
    (low : 1 ≤ c) (few : c ≤ 64) (left : count_by is_acquire (mine c log) < p.budget) where
  -- the words of slots are others
  same_slots : Three p (state_of (limits p) log) (released log) (tasks 0) tasks (set words current_word x)
  same_slots = three_words p (state_of (limits p) log) (released log) tasks (few_slots p two.sizes) words (set words current_word x) (λ i a _. get_or-set_other words current_word i x 0 (λ z. absurd (omega arith))) three

  -- no caller acquires more often than it may
  within : (e : Entry U X L) → caller_of e ≡ Some c → (d : ℕ) → count_by is_acquire (mine d (log ++ e ∷ [])) ≤ p.budget
  within e named d =
      let a = own_last d is_acquire log e in
      let w = two.within d in
      dite (ℕ_discrete d c)
      (λ same.
      let b = ap (λ n. count_by is_acquire (mine n log)) same in
      let most : own_count d is_acquire e ≤ 1 = most_one (is_some_of d (caller_of e)) (is_acquire e) in
      omega arith)
      (λ other.
      let none : own_count d is_acquire e ≡ 0 = ap (λ o. is_one d o (is_acquire e)) named ∙ ap (λ b. cond b (cond {A = ℕ} (is_acquire e) 1 0) 0) (ne_eqb c d (λ z. other (sym z))) in
      omega arith)

  -- what the words say after an acquire while nothing is current
  two_early : CountsTooEarly (limits p) log (slice_index words current_word) → x ≡ slice_index words current_word + 1 → Two p (log ++ NotYet c ∷ []) (set words current_word x)
  two_early k is = let l = limits p in let e : Entry U X L = NotYet c in let next = state_next l log e in record {
    sizes = two.sizes;
    current = inl record {
      none = ap (λ (s : State). s.current) next ∙ k.none;
      counted = get_or-set_same words current_word x 0 (omega arith) ∙ (let a = k.counted in let b = counts_last is_not_yet log e in omega arith);
    };
    named = all_snoc NamesCaller log e two.named (low, few);
    within = within e refl;
  }

  -- and after one of the current generation
  two_acquired : (k : IsPacked (limits p) log (slice_index words current_word)) → x ≡ slice_index words current_word + 1
      → Two p (log ++ Acquire c k.generation ((state_of (limits p) log).acquired k.generation) ∷ []) (set words current_word x)
  two_acquired k is = let l = limits p in let n : ℕ = (state_of l log).acquired k.generation in let e : Entry U X L = Acquire c k.generation n in let next = state_next l log e in record {
    sizes = two.sizes;
    current = inr record {
      generation = k.generation;
      slot = k.slot;
      current = ap (λ (s : State). s.current) next ∙ k.current;
      opened = ap (λ (s : State). s.slots k.slot) next ∙ k.opened;
      word_is =
          let more : (state_of l (log ++ e ∷ [])).acquired k.generation ≡ n + 1 =
          ap (λ (s : State). s.acquired k.generation) next ∙ ap (λ b. cond {A = ℕ} b (n + 1) n) (eq-eqb k.generation k.generation refl) in
          let w = k.word_is in
          let same = get_or-set_same words current_word x 0 (omega arith) in
          omega arith;
    };
    named = all_snoc NamesCaller log e two.named (low, few);
    within = within e refl;
  }

  -- the slots after it, by the entry
  slots_early : tasks c ≡ Idle → Three p (after {U = U} {D = X} {L = L} (state_of (limits p) log) (NotYet c)) (released (log ++ NotYet c ∷ [])) (tasks 0) tasks (set words current_word x)
  slots_early idle = three_counts p (state_of (limits p) log) (released log) tasks (few_slots p two.sizes) (released (log ++ NotYet c ∷ [])) (set words current_word x) (λ g. not_counted (releases g) log (NotYet c) refl) same_slots

  slots_acquired : (g k : ℕ) → (state_of (limits p) log).current ≡ Some g → tasks c ≡ Idle → Three p (after {U = U} {D = X} {L = L} (state_of (limits p) log) (Acquire c g k)) (released (log ++ Acquire c g k ∷ [])) (tasks 0) tasks (set words current_word x)
  slots_acquired g k current idle =
      three_counts p (after {U = U} {D = X} {L = L} (state_of (limits p) log) (Acquire c g k)) (released log) tasks (few_slots p two.sizes) (released (log ++ Acquire c g k ∷ [])) (set words current_word x) (λ h. not_counted (releases h) log (Acquire c g k) refl)
      (three_acquired U X L p (state_of (limits p) log) (released log) tasks (set words current_word x) same_slots c g k current idle)

  -- the entry of an acquire, its cause, and what the words say afterwards
  record IsAcquire : Type 0 where
    pub may : IsAllowed (limits p) (state_of (limits p) log) (acquire_of {U = U} {X = X} {L = L} c (slice_index words current_word))
    pub later : Two p (log ++ acquire_of c (slice_index words current_word) ∷ []) (set words current_word x)
    pub slots : Three p (after (state_of (limits p) log) (acquire_of {U = U} {X = X} {L = L} c (slice_index words current_word))) (released (log ++ acquire_of c (slice_index words current_word) ∷ [])) (tasks 0) tasks (set words current_word x)
    pub warm : (f : Fresh) → IsWarming (state_of (limits p) log) f → IsWarming (after (state_of (limits p) log) (acquire_of {U = U} {X = X} {L = L} c (slice_index words current_word))) f

  acquire_is : (state_of (limits p) log).pins c ≡ None → tasks c ≡ Idle → x ≡ slice_index words current_word + 1 → IsAcquire
  acquire_is free idle is =
      let n : ℕ = slice_index words current_word in
      let l = limits p in
      let g : ℕ = n / 549755813888 in
      let pick : Bool → Entry U X L = λ b. cond b (NotYet c) (Acquire c g (n % 4294967296)) in
      ⊎_elim
      (λ (k : CountsTooEarly l log n).
      let a = few_tries p.budget log two.named two.within in
      let s = two.sizes.budget in
      let b = k.counted in
      let e : acquire_of {U = U} {X = X} {L = L} c n ≡ NotYet c = ap pick (eq-eqb g 0 (omega arith)) in
      record {
        may = subst (λ y. IsAllowed l (state_of l log) y) (sym e) record { free = free; none = k.none };
        later = subst (λ (y : Entry U X L). Two p (log ++ y ∷ []) (set words current_word x)) (sym e) (two_early k is);
        slots = subst (λ (y : Entry U X L). Three p (after (state_of l log) y) (released (log ++ y ∷ [])) (tasks 0) tasks (set words current_word x)) (sym e) (slots_early idle);
        warm = λ f z. subst (λ (y : Entry U X L). IsWarming (after (state_of l log) y) f) (sym e) record { warming = z.warming; opened = z.opened };
      })
      (λ (k : IsPacked l log n).
      let i = small p log words legal two k in
      let t : ℕ = (state_of l log).acquired k.generation in
      let most : t < 4294967296 = (let a = i.count in let b = two.sizes.budget in omega arith) in
      let slot : k.slot < 128 = (let a = i.slot in omega arith) in
      let first : g ≡ k.generation = ap (λ w. w / 549755813888) k.word_is ∙ generation_of k.generation k.slot t slot most in
      let second : n % 4294967296 ≡ t = ap (λ w. w % 4294967296) k.word_is ∙ count_of k.generation k.slot t slot most in
      let e : acquire_of {U = U} {X = X} {L = L} c n ≡ Acquire c k.generation t =
      ap pick (ne_eqb g 0 (λ z. let a = i.least in absurd (omega arith))) ∙ (λ j. Acquire c (first j) (second j)) in
      record {
        may = subst (λ y. IsAllowed l (state_of l log) y) (sym e) record { free = free; current = k.current; counted = refl };
        later = subst (λ (y : Entry U X L). Two p (log ++ y ∷ []) (set words current_word x)) (sym e) (two_acquired k is);
        slots = subst (λ (y : Entry U X L). Three p (after (state_of l log) y) (released (log ++ y ∷ [])) (tasks 0) tasks (set words current_word x)) (sym e) (slots_acquired k.generation t k.current idle);
        warm = λ f z. subst (λ (y : Entry U X L). IsWarming (after (state_of l log) y) f) (sym e) record { warming = z.warming; opened = z.opened };
      })
      two.current

  -- the word has room for one more
  fits : (slice_index words current_word + 1) % 2 ^ 64 ≡ slice_index words current_word + 1
  fits = ⊎_elim
      (λ (k : CountsTooEarly (limits p) log (slice_index words current_word)).
      let a = few_tries p.budget log two.named two.within in
      let s = two.sizes.budget in
      let b = k.counted in
      omega arith)
      (λ (k : IsPacked (limits p) log (slice_index words current_word)).
      let i = small p log words legal two k in
      let b = two.sizes.budget in
      let w = k.word_is in
      let slot = i.slot in
      let most = i.most in
      let count = i.count in
      omega arith)
      two.current

-- the act of an acquire: the caller's door is taken out of its cell, where something is current
module _ {D W U X L : Type 0} (setting : D → W) (docs : D → X) (deeds : D → List L) (p : Plan W) (log : List (Entry U X L)) (c n : ℕ) (own : Task) (filling : Option X) (homes : List (maybe.Option (Cell D U))) (carried : List (ℕ × Cell D U)) where
  pub record Takes : Type 0 where
    pub act : Act (Cell D U)
    pub valid : Valid homes carried act
    pub four : Four setting docs deeds p (after (state_of (limits p) log) (acquire_of {U = U} {X = X} {L = L} c n)) (told_in (log ++ acquire_of c n ∷ [])) (held_in (log ++ acquire_of c n ∷ [])) own filling (homes_after homes carried act)
    pub early : n / 549755813888 ≡ 0 → carried_after carried act ≡ carried
    pub lent : n / 549755813888 ≢ 0 → (d : D) × (carried_after carried act ≡ (cell_of (n / 4294967296 % 128) c, Full d) ∷ carried) × IsDoorLeft setting docs deeds p (told_in (log ++ acquire_of c n ∷ []) (n / 549755813888) c) d

  takes_by : (rel : ℕ → ℕ) (words : List ℕ) → Four setting docs deeds p (state_of (limits p) log) (told_in log) (held_in log) own filling homes → emptied own ≡ None → ((a b g : ℕ) → held_in log a ≡ Some g → held_in log b ≡ Some g → a ≡ b) → p.callers ≤ 64 → 1 ≤ c → c ≤ p.callers → (state_of (limits p) log).pins c ≡ None
      → IsTask p (state_of (limits p) log) own rel words 0 own → ((a b g : ℕ) → (state_of (limits p) log).slots a ≡ Some g → (state_of (limits p) log).slots b ≡ Some g → a ≡ b) → TellsCurrent (limits p) log n → Takes
  takes_by rel words four all once few low within free begun one told = ⊎_elim
      (λ (k : TellsNone (limits p) log n).
      let below = k.early in
      let e : acquire_of {U = U} {X = X} {L = L} c n ≡ NotYet c = early_entry c c n refl (omega arith) in
      record {
        act = keeps;
        valid = tt;
        four = subst (λ (y : Entry U X L). Four setting docs deeds p (after (state_of (limits p) log) y) (told_in (log ++ y ∷ [])) (held_in (log ++ y ∷ [])) own filling homes) (sym e)
            (four_beside setting docs deeds p (state_of (limits p) log) (after {U = U} {D = X} {L = L} (state_of (limits p) log) (NotYet c)) (told_in log) (told_in (log ++ NotYet c ∷ [])) (held_in log) (held_in (log ++ NotYet c ∷ [])) own own filling homes (λ _. refl) (λ _. refl) (λ h d. told_next log (NotYet c) h d) (λ b. held_next log (NotYet c) b) (fills_on own own refl) four);
        early = λ _. refl;
        lent = λ some. absurd (some (omega arith));
      })
      (λ (k : TellsGeneration (limits p) log n).
      let s : State = state_of (limits p) log in
      let g : ℕ = n / 549755813888 in
      let slot : ℕ = n / 4294967296 % 128 in
      let t : ℕ = n % 4294967296 in
      let some = k.some in
      let y : Entry U X L = Acquire c g t in
      let e : acquire_of {U = U} {X = X} {L = L} c n ≡ y = acquire_entry c c n refl (λ z. absurd (omega arith)) in
      let d = four.doors slot g c k.opened low within (λ z. none-some g (sym free ∙ z)) (in_it own (cell_of slot c) all) in
      let cell : ℕ = cell_of slot c in
      let now : State = after {U = U} {D = X} {L = L} s y in
      record {
        act = takes cell (Full d.0);
        valid = d.1;
        four = subst (λ (x : Entry U X L). Four setting docs deeds p (after s x) (told_in (log ++ x ∷ [])) (held_in (log ++ x ∷ [])) own filling (set homes cell maybe.none)) (sym e)
            (four_own setting docs deeds p s now (told_in log) (told_in (log ++ y ∷ [])) (held_in log) (held_in (log ++ y ∷ [])) own filling homes (set homes cell maybe.none) slot g c four few k.opened low (omega arith)
            (λ b z. one b slot g z k.opened) (filled_none p s own rel words own begun)
            (λ _. refl) (λ b other. ap (λ z. cond z (Some g) (s.pins b)) (ne_eqb b c other)) (λ h _ z. none-some h (sym free ∙ z)) (λ h d _. told_next log y h d) (λ b. held_next log y b) (λ b z. once b slot g z (four.opened slot g k.opened))
            (length-set homes cell maybe.none) (λ j away. set_else homes cell j maybe.none away)
            (λ z. absurd (z (ap (λ b. cond b (Some g) (s.pins c)) (eq-eqb c c refl)))));
        early = λ zero. absurd (omega arith);
        lent = λ _. (d.0, refl, subst (λ (o : Option X × List L). IsDoorLeft setting docs deeds p o d.0) (sym (ap (λ (x : Entry U X L). told_in (log ++ x ∷ []) g c) e ∙ told_next log y g c)) d.2);
      })
      told

-- what names a caller, and has no place
acquire_names : (U X L : Type 0) (c n : ℕ) → (caller_of (acquire_of {U = U} {X = X} {L = L} c n) ≡ Some c) × (has_place (acquire_of {U = U} {X = X} {L = L} c n) ≡ false)
acquire_names U X L c n = by_test (n / 549755813888 == 0)
  where
    by_test : (b : Bool) → (caller_of (cond {A = Entry U X L} b (NotYet c) (Acquire c (n / 549755813888) (n % 4294967296))) ≡ Some c) × (has_place (cond {A = Entry U X L} b (NotYet c) (Acquire c (n / 549755813888) (n % 4294967296))) ≡ false)
    by_test true = (refl, refl)
    by_test false = (refl, refl)

module _ {D W U X L : Type 0} (setting : D → W) (docs : D → X) (deeds : D → List L) (p : Plan W) where
  pub acquires_current : (slots id : ℕ) (me : Me (Cell D U) (Known W U X L)) → 1 ≤ me.0.caller → me.0.caller ≤ 64 → me.0.back ≡ [] → me.0.plan ≡ Some p
      → pinned me.0.caller me.0.mine ≡ None → me.0.task ≡ Idle → count_by is_acquire me.0.mine < p.budget
      → Allows (Kept setting docs deeds p) slots id me current_word (λ n. (n + 1) % 2 ^ 64) (Acquired setting docs deeds (step slots current_word 1 0 maybe.none) me)
  acquires_current slots id me low few bare told free idle left s kept deep at bound =
      let w = kept.world in
      let k = me.0 in
      let c : ℕ = k.caller in
      let all = kept.one.fits id k at in
      let calls = (all.pass low).calls in
      let n : ℕ = slice_index s.words current_word in
      let x : ℕ = (n + 1) % 2 ^ 64 in
      let e : Entry U X L = acquire_of c n in
      let log : List (Entry U X L) = w.log ++ e ∷ [] in
      let unpinned : (state_of (limits p) w.log).pins c ≡ None = pins_own (limits p) c w.log ∙ pinned_still c k.mine (mine c w.log) k.announced (w.pending c) calls ∙ free in
      let some : count_by is_acquire (mine c w.log) < p.budget = (let a = acquires_still c k.mine (mine c w.log) k.announced (w.pending c) calls in omega arith) in
      let a = acquire_is p w.log s.words w.tasks c x kept.words kept.legal kept.two kept.three low few some unpinned (sym (all.pass low).task ∙ idle) (fits p w.log s.words w.tasks c x kept.words kept.legal kept.two kept.three low few some) in
      let names = acquire_names U X L c n in
      let bounds = bounded (limits p) w.log (first_within p kept.two.sizes) kept.legal in
      let dealt = (all.pass low).dealt in
      let few_passes = kept.one.few in
      let told = tells p w.log s.words kept.legal kept.two in
      let t = takes_by setting docs deeds p w.log c n (w.tasks 0) w.filling s.homes me.1 (released w.log) s.words kept.four (nothing_out p w s.words s.views kept.one c low dealt (λ z. let q : Idle ≡ Back = sym idle ∙ (all.pass low).task ∙ z in absurd (cc))) (are_held (limits p) w.log kept.legal).once kept.two.sizes.callers low (omega arith) unpinned (kept.three.begun 0) (λ a b g y z. bounds.one a b g y z) told in (
        record (looked k log w.pending) { hand = None },
        t.act,
        t.valid,
        own_step setting docs deeds p s kept id current_word x me e k.task t.act at low (λ z. let q : Idle ≡ Back = sym idle ∙ z in absurd (cc)) bare (omega arith) names.0 names.1 a.may a.later
            (subst (λ (z : ℕ → Task). Three p (after (state_of (limits p) w.log) e) (released log) (w.tasks 0) z (set s.words current_word x)) (λ j d. sym (put_same c k.task w.tasks (all.pass low).task d) j) a.slots) t.four a.warm,
        record {
          made = record {
            entered = record {
              log = w.log;
              pending = w.pending;
              covers = covers p w id k all kept.legal;
              legal = λ q is. subst (λ (r : Plan W). Legal (limits r) log) (sym (all.plan q is)) (grows_legal (limits p) w.log e kept.legal a.may);
              after = refl;
            };
            calls = λ _. calls;
          };
          tells = λ q is. subst (λ (r : Plan W). TellsCurrent (limits r) w.log n) (sym (all.plan q is)) told;
          early = t.early;
          lent = λ some. let d = t.lent some in record { door = d.0; out = d.1; is_door = λ q is. subst (λ (r : Plan W). IsDoorLeft setting docs deeds r (told_in log (n / 549755813888) c) d.0) (sym (all.plan q is)) d.2 };
        },
      )
