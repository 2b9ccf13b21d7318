-- A pass's step with an entry of its own, without a place, keeps the rule: what the other seats know stays true.
use Rattle.std.proofs.Common.{◌≡◌, ◌≢◌, ℕ, ◌≤◌, ◌<◌, false, List, [], ◌∷◌, ◌++◌, count_by, length-set, set, get_or-set_other, append_assoc, sym, refl, ap, ◌∙◌, subst, ⊎_elim, arith, Option, Some, None}
use mathlib.Core.Option.{some}
use lib.ListN.{get_elem?}
use Rattle.std.specs.List.{AllByRecursion}
use Rattle.std.proofs.lemmas.Option.{none-some}
use Rattle.std.proofs.lemmas.List.Sums.{fold-append}
use Rattle.atomic_table.specs.Table.{State, Me, Act, homes_after, stepped}
use Rattle.registry_machine.specs.declared.entry.Entry.{Entry}
use Rattle.registry_machine.specs.declared.entry.Entry.TheVariants.{Open, TooMany, GenerationsSpent, Update, Finish, Superseded, Acquire, NotYet, Release, Free}
use Rattle.registry_machine.specs.Entries.{caller_of, has_place}
use Rattle.registry_machine.specs.Machine.{Limits, after}
use Rattle.registry_machine.specs.Machine.{State as MachineState}
use Rattle.registry_machine.specs.Legal.{IsAllowed, state_of}
use Rattle.searcher_table.specs.declared.board.Asked.{Asked}
use Rattle.searcher_table.specs.declared.board.Call.{Call}
use Rattle.searcher_table.specs.declared.board.Cell.{Cell}
use Rattle.searcher_table.specs.declared.board.Plan.{Plan}
use Rattle.searcher_table.specs.declared.board.Own.{Own}
use Rattle.searcher_table.specs.declared.board.Known.{Known}
use Rattle.searcher_table.specs.Words.{call_word, limits}
use Rattle.searcher_table.specs.Counts.{is_acquire, pin_after, pinned}
use Rattle.searcher_table.specs.Views.{call_of, IsStill, WasExecuted, GoesOn}
use Rattle.searcher_table.specs.Rule.{World, IsPass, IsHand, IsRegistrar, IsBack, Two, released, Kept}
use Rattle.searcher_table.specs.Steps.{looked}
use Rattle.searcher_table.specs.declared.board.Task.{Task}
use Rattle.searcher_table.specs.declared.board.Task.TheVariants.{Back}
use Rattle.searcher_table.specs.declared.board.Fresh.{Fresh}
use Rattle.searcher_table.specs.Tasks.{emptied, IsWarming, Three}
use Rattle.searcher_table.specs.Doors.{told_in, held_in, Four}
use Rattle.searcher_table.proofs.Quiet.{state_next}
use Rattle.searcher_table.proofs.Frame.{put, put_here, put_else, moved, Leaves, starts_later, done_still, nothing_out, not_some, one_after}
use Rattle.searcher_table.proofs.Handing.{another}
use Rattle.searcher_table.proofs.Execute.{no_entry, grows_legal}
use Rattle.searcher_table.proofs.Counts.{counts_last}
use Rattle.searcher_table.proofs.Beside.{all_snoc}

module _ {U X L : Type 0} where
  -- the entry of an announced call changes no pin, and is no acquire
  an_answer : (c : ℕ) (pin : Option ℕ) (call : Call) (e : Entry U X L) → call_of e ≡ Some call → (pin_after c pin e ≡ pin) × (is_acquire e ≡ false)
  an_answer c pin call (Open d u g s x) is = (refl, refl)
  an_answer c pin call (TooMany d u gs) is = (refl, refl)
  an_answer c pin call (GenerationsSpent d u) is = (refl, refl)
  an_answer c pin call (Update d u) is = (refl, refl)
  an_answer c pin call (Finish g l) is = absurd (none-some call is)
  an_answer c pin call (Superseded g by l) is = absurd (none-some call is)
  an_answer c pin call (Acquire d g k) is = absurd (none-some call is)
  an_answer c pin call (NotYet d) is = absurd (none-some call is)
  an_answer c pin call (Release d g l) is = absurd (none-some call is)
  an_answer c pin call (Free g) is = absurd (none-some call is)

  -- what a caller pins after one entry more of its own
  pub pinned_last : (c : ℕ) (own : List (Entry U X L)) (e : Entry U X L) → pinned c (own ++ e ∷ []) ≡ pin_after c (pinned c own) e
  pinned_last c own e = fold-append (pin_after c) None own (e ∷ [])

  -- so a caller whose announced call was executed meanwhile pins what it pinned, and has acquired as often
  pub pinned_still : (c : ℕ) (had has : List (Entry U X L)) (a b : Option (Asked U)) → GoesOn c had a has b → pinned c has ≡ pinned c had
  pinned_still c had has a b calls = ⊎_elim
      (λ (k : IsStill c had a has b). ap (pinned c) k.mine)
      (λ (k : WasExecuted c had a has b). ap (pinned c) k.mine ∙ pinned_last c had k.entry ∙ (an_answer c (pinned c had) k.asked.call k.entry k.answers.call).0)
      calls

  pub acquires_still : (c : ℕ) (had has : List (Entry U X L)) (a b : Option (Asked U)) → GoesOn c had a has b → count_by is_acquire has ≡ count_by is_acquire had
  acquires_still c had has a b calls = ⊎_elim
      (λ (k : IsStill c had a has b). ap (count_by is_acquire) k.mine)
      (λ (k : WasExecuted c had a has b).
      let n = ap (count_by is_acquire) k.mine in
      let m = counts_last is_acquire had k.entry in
      let z = (an_answer c None k.asked.call k.entry k.answers.call).1 in
      grind arith)
      calls

module _ {U X L : Type 0} (w : World U X L) (c id : ℕ) (e : Entry U X L) (named : caller_of e ≡ Some c) (placeless : has_place e ≡ false) (here : w.pass_at c ≡ id) where
  leaves : (W : Type 0) (l : Limits) (task : Task) → emptied (w.tasks 0) ≡ None → 1 ≤ c → ((f : Fresh) → IsWarming (state_of l w.log) f → IsWarming (state_of l (w.log ++ e ∷ [])) f) → Leaves W l w (moved w (w.log ++ e ∷ []) w.pending w.hand_at (put c task w.tasks) w.fresh_at) id
  leaves W l task none low warm = record {
    log = λ seen s. starts_later w.log seen (e ∷ []) s;
    passes = λ j k other _ (g : IsPass w j k).
        let n : k.caller ≢ c = another w id j c k.caller here g.here other in
        record { here = g.here; dealt = g.dealt; calls = subst (λ (es : List (Entry U X L)). GoesOn k.caller k.mine k.announced es (w.pending k.caller)) (sym (no_entry c k.caller w.log e named n)) g.calls; task = g.task ∙ sym (put_else c task w.tasks k.caller n) };
    freshes = λ j f other g. record { here = g.here; warming = warm f g.warming };
    hands = λ j h other (g : IsHand w j h). record { here = g.here; pending = g.pending };
    registrars = λ j k other (g : IsRegistrar w j k). record {
      here = g.here;
      seen = record { rest = g.seen.rest ++ e ∷ []; grown = ap (λ l. l ++ e ∷ []) g.seen.grown ∙ append_assoc k.seen g.seen.rest (e ∷ []); quiet = all_snoc (λ x. has_place x ≡ false) g.seen.rest e g.seen.quiet placeless };
      next = g.next;
      nobody = g.nobody;
      task = g.task ∙ sym (put_else c task w.tasks 0 (λ z. absurd (omega arith)));
      filling = g.filling;
      final = λ n is. not_some (emptied (w.tasks 0)) n none (ap emptied (sym g.task) ∙ is);
    };
    backs = λ j o other (g : IsBack w j o).
        let n : o.caller ≢ c = another w id j c o.caller here g.here other in
        record { here = g.here; dealt = g.dealt; mine = no_entry c o.caller w.log e named n ∙ g.mine; none = g.none; done = done_still w.tasks (put c task w.tasks) o (put_else c task w.tasks o.caller n) g.done };
  }

module _ {D W U X L : Type 0} (setting : D → W) (docs : D → X) (deeds : D → List L) (p : Plan W) where
  pub own_step : (s : State (Cell D U) (Known W U X L)) (kept : Kept setting docs deeds p s) (id i x : ℕ) (me : Me (Cell D U) (Known W U X L)) (e : Entry U X L) (task : Task) (act : Act (Cell D U)) → get_elem? s.views id ≡ some me.0 → 1 ≤ me.0.caller → me.0.task ≢ Back → me.0.back ≡ [] → i < 640
      → caller_of e ≡ Some me.0.caller → has_place e ≡ false → IsAllowed (limits p) (state_of (limits p) kept.world.log) e → Two p (kept.world.log ++ e ∷ []) (set s.words i x)
      → Three p (after (state_of (limits p) kept.world.log) e) (released (kept.world.log ++ e ∷ [])) (kept.world.tasks 0) (put me.0.caller task kept.world.tasks) (set s.words i x)
      → Four setting docs deeds p (after (state_of (limits p) kept.world.log) e) (told_in (kept.world.log ++ e ∷ [])) (held_in (kept.world.log ++ e ∷ [])) (kept.world.tasks 0) kept.world.filling (homes_after s.homes me.1 act)
      → ((f : Fresh) → IsWarming (state_of (limits p) kept.world.log) f → IsWarming (after (state_of (limits p) kept.world.log) e) f)
      → Kept setting docs deeds p (stepped s i x id me.1 (record (looked me.0 (kept.world.log ++ e ∷ []) kept.world.pending) { hand = None; task = task; fresh = me.0.fresh }) act)
  own_step s kept id i x me e task act at low out bare below named placeless may two three four warm =
      let w = kept.world in
      let k = me.0 in
      let c : ℕ = k.caller in
      let l = limits p in
      let log : List (Entry U X L) = w.log ++ e ∷ [] in
      let all = kept.one.fits id k at in
      let f = all.pass low in
      let tasks : ℕ → Task = put c task w.tasks in
      let next = state_next l w.log e in
      let none = nothing_out p w s.words s.views kept.one c low f.dealt (λ z. out (f.task ∙ z)) in
      let warm_after : (g : Fresh) → IsWarming (state_of l w.log) g → IsWarming (state_of l log) g = λ g z. subst (λ (n : MachineState). IsWarming n g) (sym next) (warm g z) in
      record {
        words = length-set s.words i x ∙ kept.words;
        world = moved w log w.pending w.hand_at tasks w.fresh_at;
        legal = grows_legal l w.log e kept.legal may;
        two = two;
        three = subst (λ (z : MachineState × Task). Three p z.0 (released log) z.1 tasks (set s.words i x)) (λ j. (sym next j, sym (put_else c task w.tasks 0 (λ z. absurd (omega arith))) j)) three;
        four = subst (λ (z : MachineState × Task). Four setting docs deeds p z.0 (told_in log) (held_in log) z.1 w.filling (homes_after s.homes me.1 act)) (λ j. (sym next j, sym (put_else c task w.tasks 0 (λ z. absurd (omega arith))) j)) four;
        one = one_after p w log w.pending w.hand_at tasks w.fresh_at id k None task k.fresh s.words (set s.words i x) s.views kept.one at (leaves w c id e named placeless f.here W l task none low warm_after)
            (λ d l h. get_or-set_other s.words i (call_word d) x 0 (λ z. absurd (omega arith)) ∙ kept.one.calls d l h)
            (λ d past. let u = kept.one.undealt d past in
            let n : d ≢ c = λ same. (let deal = f.dealt in absurd (omega arith)) in
            (u.0, no_entry c d w.log e named n ∙ u.1, put_else c task w.tasks d n ∙ u.2))
            (λ n d is _ _. not_some (emptied (w.tasks 0)) n none (ap emptied (sym (put_else c task w.tasks 0 (λ z. absurd (omega arith)))) ∙ is))
            record {
              hands = λ h z. absurd (none-some h z);
              freshes = λ g z. let h = all.fresh g z in record { here = h.here; warming = warm_after g h.warming };
              begun = λ _. sym (put_here c task w.tasks);
              backs = subst (λ (os : List (Own U X L)). AllByRecursion (IsBack (moved w log w.pending w.hand_at tasks w.fresh_at) id) os) (sym bare) tt;
            };
      }
