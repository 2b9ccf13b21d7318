-- What a pass's step with an entry of its own tells of the caller.
use Rattle.std.proofs.Common.{◌≡◌, ◌≢◌, ℕ, ◌+◌, ◌/◌, ◌%◌, ◌≤◌, ◌<◌, cond, List, [], ◌∷◌, ◌++◌, count_by, eq-eqb, ne_eqb, refl, sym, ap, ◌∙◌, subst, arith, ⊎_elim, Option, Some, None}
use Rattle.atomic_table.specs.Table.{Me}
use Rattle.registry_machine.specs.declared.entry.Entry.{Entry}
use Rattle.registry_machine.specs.declared.entry.Entry.TheVariants.{Acquire, NotYet, Release, Free}
use Rattle.registry_machine.specs.Entries.{caller_of}
use Rattle.registry_machine.specs.Callers.{mine}
use Rattle.registry_machine.specs.Machine.{Limits, State}
use Rattle.registry_machine.specs.Legal.{Legal, state_of}
use Rattle.searcher_table.specs.declared.board.Asked.{Asked}
use Rattle.searcher_table.specs.declared.board.Cell.{Cell}
use Rattle.searcher_table.specs.declared.board.Plan.{Plan}
use Rattle.searcher_table.specs.declared.board.Known.{Known}
use Rattle.searcher_table.specs.declared.board.Task.{Task}
use Rattle.searcher_table.specs.declared.board.Task.TheVariants.{Idle, Duty}
use Rattle.searcher_table.specs.Words.{limits}
use Rattle.searcher_table.specs.Counts.{is_acquire, pin_after, pinned}
use Rattle.searcher_table.specs.Views.{GoesOn}
use Rattle.searcher_table.specs.Steps.{acquire_of, duty_by, TellsNone, TellsGeneration, TellsCurrent, HasMade}
use Rattle.searcher_table.specs.Pins.{HasEntered, HasFreed}
use Rattle.searcher_table.proofs.Execute.{own_entry}
use Rattle.searcher_table.proofs.Counts.{counts_last}
use Rattle.searcher_table.proofs.Quiet.{state_next}
use Rattle.searcher_table.proofs.OwnStep.{pinned_last, pinned_still, acquires_still}
use Rattle.searcher_table.proofs.Passing.{Knows, knows}
use Rattle.searcher_table.proofs.Turning.{none_more}

-- by the word found a release was the last one, or not
pub rests : (n slot g : ℕ) → n / 4294967296 ≢ n % 4294967296 + 2 → duty_by n slot g ≡ Idle
rests n slot g other = ap (λ b. cond b (Duty slot g) Idle) (ne_eqb (n / 4294967296) (n % 4294967296 + 2) other)

pub drains : (n slot g : ℕ) → n / 4294967296 ≡ n % 4294967296 + 2 → duty_by n slot g ≡ Duty slot g
drains n slot g same = ap (λ b. cond b (Duty slot g) Idle) (eq-eqb (n / 4294967296) (n % 4294967296 + 2) same)

module _ {D U W X L : Type 0} where
  -- what a caller knows, pins and has acquired after its entry
  pub record HasKept (p : Plan W) (c : ℕ) (me new : Me (Cell D U) (Known W U X L)) (e : Entry U X L) (task : Task) : Type 0 where
    pub task_is : new.0.task ≡ task
    pub entered : HasEntered p c me.0 new.0 e
    pub plan : new.0.plan ≡ me.0.plan
    pub caller : new.0.caller ≡ me.0.caller
    pub hand : new.0.hand ≡ None
    pub back : new.0.back ≡ me.0.back
    pub carried : new.1 ≡ me.1
    pub pin : pinned c new.0.mine ≡ pin_after c (pinned c me.0.mine) e
    pub tries : count_by is_acquire new.0.mine ≡ count_by is_acquire me.0.mine + cond (is_acquire e) 1 0

  pub kept_by : (p : Plan W) (c : ℕ) (me new : Me (Cell D U) (Known W U X L)) (e : Entry U X L) (task : Task) → me.0.plan ≡ Some p → me.0.caller ≡ c → 1 ≤ c → caller_of e ≡ Some c → HasMade e task me new
      → HasKept p c me new e task
  kept_by p c me new e task told numbered low named m =
      let k = me.0 in
      let log : List (Entry U X L) = m.entered.log in
      let pending = m.entered.pending in
      let n : Knows k new.0 (log ++ e ∷ []) pending None = knows me new (log ++ e ∷ []) pending None m.entered.after in
      let calls : GoesOn c k.mine k.announced (mine c log) (pending c) = subst (λ (d : ℕ). GoesOn d k.mine k.announced (mine d log) (pending d)) numbered (m.calls (let a = numbered in omega arith)) in
      let own : new.0.mine ≡ mine c log ++ e ∷ [] = n.mine ∙ ap (λ d. mine d (log ++ e ∷ [])) numbered ∙ own_entry c c log e named refl in
      record {
        task_is = ap (λ (x : Me (Cell D U) (Known W U X L)). x.0.task) m.entered.after;
        entered = record {
          before = log;
          seen = m.entered.covers.seen;
          legal = subst (λ (l : List (Entry U X L)). Legal (limits p) l) (sym n.seen) (m.entered.legal p told);
          last = n.seen;
          calls = subst (λ (a : Option (Asked U)). GoesOn c k.mine k.announced (mine c log) a) (ap pending (sym numbered) ∙ sym n.announced) calls;
          grown = own;
          own = n.mine ∙ (λ i. mine (numbered i) (sym n.seen i));
          steps = n.steps;
        };
        plan = n.plan;
        caller = n.caller;
        hand = n.hand;
        back = n.back;
        carried = ap (λ (x : Me (Cell D U) (Known W U X L)). x.1) m.entered.after;
        pin = ap (pinned c) own ∙ pinned_last c (mine c log) e ∙ ap (λ o. pin_after c o e) (pinned_still c k.mine (mine c log) k.announced (pending c) calls);
        tries =
            let a = ap (count_by is_acquire) own in
            let b = counts_last is_acquire (mine c log) e in
            let d = acquires_still c k.mine (mine c log) k.announced (pending c) calls in
            omega arith;
      }

  -- after a release by a seat that has put its door back
  pub released_by : (p : Plan W) (c g slot n : ℕ) (ls : List L) (k : Known W U X L) (out : List (ℕ × Cell D U)) (met new : Me (Cell D U) (Known W U X L)) → met ≡ (k, out) → k.plan ≡ Some p → k.caller ≡ c → 1 ≤ c → HasMade (Release met.0.caller g ls) (duty_by n slot g) met (new.0, met.1)
      → HasKept p c (k, out) (new.0, out) (Release c g ls) (duty_by n slot g)
  released_by p c g slot n ls k out met new is told numbered low made =
      let here : HasMade (Release k.caller g ls) (duty_by n slot g) (k, out) (new.0, out) = subst (λ (m : Me (Cell D U) (Known W U X L)). HasMade (Release m.0.caller g ls) (duty_by n slot g) m (new.0, m.1)) is made in
      kept_by p c (k, out) (new.0, out) (Release c g ls) (duty_by n slot g) told numbered low refl (subst (λ (d : ℕ). HasMade (Release d g ls) (duty_by n slot g) (k, out) (new.0, out)) numbered here)

  -- what the step leaves that frees a slot
  pub record HasFreedOne (p : Plan W) (c : ℕ) (me new : Me (Cell D U) (Known W U X L)) (g : ℕ) : Type 0 where
    pub freed : HasFreed p c me.0 new.0 g
    pub task_is : new.0.task ≡ Idle
    pub plan : new.0.plan ≡ me.0.plan
    pub caller : new.0.caller ≡ me.0.caller
    pub hand : new.0.hand ≡ None
    pub back : new.0.back ≡ me.0.back
    pub carried : new.1 ≡ me.1
    pub pin : pinned c new.0.mine ≡ pinned c me.0.mine
    pub tries : count_by is_acquire new.0.mine ≡ count_by is_acquire me.0.mine

  pub freed_by : (p : Plan W) (c : ℕ) (me new : Me (Cell D U) (Known W U X L)) (g : ℕ) → me.0.plan ≡ Some p → me.0.caller ≡ c → 1 ≤ c → HasMade (Free g) Idle me new → HasFreedOne p c me new g
  freed_by p c me new g told numbered low m =
      let k = me.0 in
      let log : List (Entry U X L) = m.entered.log in
      let pending = m.entered.pending in
      let e : Entry U X L = Free g in
      let n : Knows k new.0 (log ++ e ∷ []) pending None = knows me new (log ++ e ∷ []) pending None m.entered.after in
      let own : new.0.mine ≡ mine c log = n.mine ∙ ap (λ d. mine d (log ++ e ∷ [])) numbered ∙ none_more c log (e ∷ []) (refl, tt) in
      let had : GoesOn c k.mine k.announced (mine c log) (pending c) = subst (λ (d : ℕ). GoesOn d k.mine k.announced (mine d log) (pending d)) numbered (m.calls (let a = numbered in omega arith)) in
      let calls : GoesOn c k.mine k.announced new.0.mine new.0.announced =
      subst (λ (z : List (Entry U X L) × Option (Asked U)). GoesOn c k.mine k.announced z.0 z.1) (λ i. (sym own i, (ap pending (sym numbered) ∙ sym n.announced) i)) had in
      record {
        freed = record {
          before = log;
          seen = m.entered.covers.seen;
          legal = subst (λ (l : List (Entry U X L)). Legal (limits p) l) (sym n.seen) (m.entered.legal p told);
          last = n.seen;
          calls = calls;
          own = n.mine ∙ (λ i. mine (numbered i) (sym n.seen i));
          steps = n.steps;
        };
        task_is = ap (λ (x : Me (Cell D U) (Known W U X L)). x.0.task) m.entered.after;
        plan = n.plan;
        caller = n.caller;
        hand = n.hand;
        back = n.back;
        carried = ap (λ (x : Me (Cell D U) (Known W U X L)). x.1) m.entered.after;
        pin = pinned_still c k.mine new.0.mine k.announced new.0.announced calls;
        tries = acquires_still c k.mine new.0.mine k.announced new.0.announced calls;
      }

module _ {U X L : Type 0} where
  -- the entry of an acquire by what the current word was
  pub early_entry : (d c n : ℕ) → d ≡ c → n / 549755813888 ≡ 0 → acquire_of {U = U} {X = X} {L = L} d n ≡ NotYet c
  early_entry d c n same none = ap (λ e. acquire_of e n) same ∙ ap (λ b. cond b (NotYet c) (Acquire c (n / 549755813888) (n % 4294967296))) (eq-eqb (n / 549755813888) 0 none)

  pub acquire_entry : (d c n : ℕ) → d ≡ c → n / 549755813888 ≢ 0 → acquire_of {U = U} {X = X} {L = L} d n ≡ Acquire c (n / 549755813888) (n % 4294967296)
  acquire_entry d c n same some = ap (λ e. acquire_of e n) same ∙ ap (λ b. cond b (NotYet c) (Acquire c (n / 549755813888) (n % 4294967296))) (ne_eqb (n / 549755813888) 0 some)

  -- where something was current, its slot is open for it after the acquire too
  pub tells_slot : (l : Limits) (log : List (Entry U X L)) (n : ℕ) → TellsCurrent l log n → n / 549755813888 ≢ 0 → TellsGeneration l log n
  tells_slot l log n t some = ⊎_elim (λ (k : TellsNone l log n). let a = k.early in absurd (some (omega arith))) (λ (k : TellsGeneration l log n). k) t

  pub slot_after : (l : Limits) (log seen : List (Entry U X L)) (c g t slot h : ℕ) → seen ≡ log ++ Acquire c g t ∷ [] → (state_of l log).slots slot ≡ Some h → (state_of l seen).slots slot ≡ Some h
  slot_after l log seen c g t slot h is opened = ap (λ (s : List (Entry U X L)). (state_of l s).slots slot) is ∙ ap (λ (s : State). s.slots slot) (state_next l log (Acquire c g t)) ∙ opened

module _ {D U W X L : Type 0} (p : Plan W) (c n : ℕ) (me new : Me (Cell D U) (Known W U X L)) (told : me.0.plan ≡ Some p) (numbered : me.0.caller ≡ c) (low : 1 ≤ c) where
  -- what an acquire leaves while nothing is current
  pub kept_early : HasMade (acquire_of me.0.caller n) me.0.task me new → n / 549755813888 ≡ 0 → HasKept p c me new (NotYet c) me.0.task
  kept_early m none = kept_by p c me new (NotYet c) me.0.task told numbered low refl (subst (λ (e : Entry U X L). HasMade e me.0.task me new) (early_entry me.0.caller c n numbered none) m)

  -- and of what is current
  pub kept_acquired : HasMade (acquire_of me.0.caller n) me.0.task me new → n / 549755813888 ≢ 0 → HasKept p c me new (Acquire c (n / 549755813888) (n % 4294967296)) me.0.task
  kept_acquired m some = kept_by p c me new (Acquire c (n / 549755813888) (n % 4294967296)) me.0.task told numbered low refl
      (subst (λ (e : Entry U X L). HasMade e me.0.task me new) (acquire_entry me.0.caller c n numbered some) m)

  -- whose slot is told
  pub slot_acquired : (m : HasMade (acquire_of me.0.caller n) me.0.task me new) → TellsCurrent (limits p) m.entered.log n → n / 549755813888 ≢ 0
      → ((state_of (limits p) new.0.seen).slots (n / 4294967296 % 128) ≡ Some (n / 549755813888)) × (n / 4294967296 % 128 < 70)
  slot_acquired m t some =
      let k = tells_slot (limits p) m.entered.log n t some in
      let is : new.0.seen ≡ m.entered.log ++ Acquire c (n / 549755813888) (n % 4294967296) ∷ [] =
      ap (λ (x : Me (Cell D U) (Known W U X L)). x.0.seen) m.entered.after ∙ ap (λ (e : Entry U X L). m.entered.log ++ e ∷ []) (acquire_entry me.0.caller c n numbered some) in
      (slot_after (limits p) m.entered.log new.0.seen c (n / 549755813888) (n % 4294967296) (n / 4294967296 % 128) (n / 549755813888) is k.opened, k.below)
