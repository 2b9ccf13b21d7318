-- Executing keeps the rule: the call in hand has its entry, which its caller's pass does not know yet.
use Rattle.std.proofs.Common.{◌≡◌, ◌≢◌, ℕ, ◌<◌, ◌≤◌, true, false, Bool, cond, List, length, [], ◌∷◌, ◌++◌, append-nil, set, sym, refl, ap, ◌∙◌, subst, arith, inr, ⊎_elim, length-set, eq-eqb, ne_eqb, Option, Some, None, IfSome}
use mathlib.Core.Option.{some}
use mathlib.Core.Option as maybe
use mathlib.Core.Logic.{dite}
use native.Mathlib.Decide.{ℕ_discrete}
use Rattle.std.specs.Prelude.{◌==◌, slice_index}
use Rattle.std.specs.List.{AllByRecursion}
use Rattle.std.proofs.lemmas.Option.{same_Some, none-some}
use Rattle.atomic_table.specs.Table.{State, Me, Allows, keeps, step, stepped}
use lib.ListN.{get_elem?}
use Rattle.registry_machine.specs.declared.entry.Entry.{Entry}
use Rattle.registry_machine.specs.declared.entry.Entry.TheVariants.{TooMany, GenerationsSpent}
use Rattle.registry_machine.specs.Entries.{caller_of, has_place}
use Rattle.registry_machine.specs.Callers.{mine}
use Rattle.registry_machine.specs.Machine.{Limits, start, is_some_of, after}
use Rattle.registry_machine.specs.Machine.{State as MachineState}
use Rattle.registry_machine.specs.Legal.{IsAllowed, Legal, state_of}
use Rattle.registry_machine.proofs.Runs.{joined as runs_join}
use Rattle.searcher_table.specs.declared.board.Asked.{Asked}
use Rattle.searcher_table.specs.declared.board.Call.{Call}
use Rattle.searcher_table.specs.declared.board.Call.TheVariants.{Open as ToOpen, Update as ToUpdate}
use Rattle.searcher_table.specs.declared.board.Cell.{Cell}
use Rattle.searcher_table.specs.declared.board.Plan.{Plan}
use Rattle.searcher_table.specs.declared.board.Hand.{Hand}
use Rattle.searcher_table.specs.declared.board.Own.{Own}
use Rattle.searcher_table.specs.declared.board.Known.{Known}
use Rattle.searcher_table.specs.declared.board.Task.{Task}
use Rattle.searcher_table.specs.declared.board.Task.TheVariants.{Back}
use Rattle.searcher_table.specs.declared.board.Fresh.{Fresh}
use Rattle.searcher_table.specs.Tasks.{emptied, IsWarming, Three}
use Rattle.searcher_table.specs.Doors.{shown_after, left_after, held_after, told_in, held_in, Four}
use Rattle.searcher_table.specs.Words.{current_word, call_word, code_of, code, limits}
use Rattle.searcher_table.specs.Views.{Answers, IsStill, WasExecuted, GoesOn, HasNoPlaceSince}
use Rattle.searcher_table.specs.Rule.{World, IsPass, IsHand, IsFresh, IsRegistrar, IsDone, IsBack, released, Kept}
use Rattle.searcher_table.specs.Steps.{answer_of, looked, HasExecuted, Executed}
use Rattle.searcher_table.proofs.Frame.{put, put_here, put_else, put_same, moved, Leaves, starts_later, own_joined, all_map, done_still, one_after, covers}
use Rattle.searcher_table.specs.Counts.{releases, NamesCaller}
use Rattle.searcher_table.proofs.Beside.{AreSame, Apart, call_beside, few_slots, not_counted, two_entry}
use Rattle.searcher_table.proofs.Slotted.{three_words, slots_same}
use Rattle.searcher_table.proofs.Doors.{fills_on, four_entry}
use Rattle.searcher_table.proofs.Turning.{Holds}
use Rattle.searcher_table.proofs.Handing.{calls_after, other_hand}
use Rattle.searcher_table.proofs.Quiet.{HasSameOpenings, quiet_since, state_next}

module _ {U X L : Type 0} where
  -- a caller's own entry is one more, and another's is none
  pub own_entry : (c d : ℕ) (log : List (Entry U X L)) (e : Entry U X L) → caller_of e ≡ Some c → d ≡ c → mine d (log ++ e ∷ []) ≡ mine d log ++ e ∷ []
  own_entry c d log e named same = own_joined d log (e ∷ []) ∙ ap (λ es. mine d log ++ es)
      (ap (λ o. cond (is_some_of d o) (e ∷ []) []) named ∙ ap (λ b. cond b (e ∷ []) []) (eq-eqb c d (sym same)))

  pub no_entry : (c d : ℕ) (log : List (Entry U X L)) (e : Entry U X L) → caller_of e ≡ Some c → d ≢ c → mine d (log ++ e ∷ []) ≡ mine d log
  no_entry c d log e named other = own_joined d log (e ∷ []) ∙ ap (λ es. mine d log ++ es)
      (ap (λ o. cond (is_some_of d o) (e ∷ []) []) named ∙ ap (λ b. cond b (e ∷ []) []) (ne_eqb c d (λ s. other (sym s)))) ∙ append-nil (mine d log)

  pub grows_legal : (l : Limits) (log : List (Entry U X L)) (e : Entry U X L) → Legal l log → IsAllowed l (state_of l log) e → Legal l (log ++ e ∷ [])
  grows_legal l log e legal may = runs_join l (start l) log (e ∷ []) legal (may, tt)

module _ {U X L : Type 0} (w : World U X L) (h : Hand U) (e : Entry U X L) (answers : Answers h.caller h.asked e) where
  -- a pass knows its caller's entries but the one that is new
  passes : {W : Type 0} (j : ℕ) (k : Known W U X L) → w.pending h.caller ≡ Some h.asked → IsPass w j k
      → GoesOn k.caller k.mine k.announced (mine k.caller (w.log ++ e ∷ [])) (put h.caller None w.pending k.caller)
  passes {W} j k pending g = dite (ℕ_discrete k.caller h.caller)
      (λ same. ⊎_elim
      (λ (s : IsStill k.caller k.mine k.announced (mine k.caller w.log) (w.pending k.caller)). inr record {
        asked = h.asked;
        entry = e;
        announced = sym s.announced ∙ ap w.pending same ∙ pending;
        answers = subst (λ n. Answers n h.asked e) (sym same) answers;
        mine = own_entry h.caller k.caller w.log e answers.caller same ∙ ap (λ es. es ++ e ∷ []) s.mine;
        none = ap (put h.caller None w.pending) same ∙ put_here h.caller None w.pending;
      })
      (λ (s : WasExecuted k.caller k.mine k.announced (mine k.caller w.log) (w.pending k.caller)). absurd (none-some h.asked (sym s.none ∙ ap w.pending same ∙ pending)))
      g.calls)
      (λ other. subst (λ (a : Option (Asked U)). GoesOn k.caller k.mine k.announced (mine k.caller (w.log ++ e ∷ [])) a) (sym (put_else h.caller None w.pending k.caller other))
      (subst (λ (es : List (Entry U X L)). GoesOn k.caller k.mine k.announced es (w.pending k.caller)) (sym (no_entry h.caller k.caller w.log e answers.caller other)) g.calls))

  backs : (tasks : ℕ → Task) (fresh_at : ℕ → ℕ) (j : ℕ) (o : Own U X L) → ((d : ℕ) → 1 ≤ d → tasks d ≡ w.tasks d) → w.pending h.caller ≡ Some h.asked → IsBack w j o → IsBack (moved w (w.log ++ e ∷ []) (put h.caller None w.pending) w.hand_at tasks fresh_at) j o
  backs tasks fresh_at j o still pending g =
      let n : o.caller ≢ h.caller = λ same. none-some h.asked (sym g.none ∙ ap w.pending same ∙ pending) in
      record { here = g.here; dealt = g.dealt; mine = no_entry h.caller o.caller w.log e answers.caller n ∙ g.mine; none = put_else h.caller None w.pending o.caller n ∙ g.none; done = done_still w.tasks tasks o (still o.caller g.done.low) g.done }

  leaves : (W : Type 0) (l : Limits) (id : ℕ) (tasks : ℕ → Task) (fresh_at : ℕ → ℕ) → w.registrar_at ≡ id → w.hand_at h.caller ≡ id → w.pending h.caller ≡ Some h.asked
      → ((d : ℕ) → 1 ≤ d → tasks d ≡ w.tasks d) → ((j : ℕ) (f : Fresh) → j ≢ id → IsFresh w j l f → (fresh_at f.generation ≡ j) × IsWarming (state_of l (w.log ++ e ∷ [])) f)
      → Leaves W l w (moved w (w.log ++ e ∷ []) (put h.caller None w.pending) w.hand_at tasks fresh_at) id
  leaves W l id tasks fresh_at registrar here pending theirs freshes = record {
    log = λ seen s. starts_later w.log seen (e ∷ []) s;
    passes = λ j k away low (g : IsPass w j k). record { here = g.here; dealt = g.dealt; calls = passes j k pending g; task = g.task ∙ sym (theirs k.caller low) };
    hands = λ j i other (g : IsHand w j i). record { here = g.here; pending = put_else h.caller None w.pending i.caller (other_hand w id j h.caller i.caller here g.here other) ∙ g.pending };
    freshes = λ j f away g. let i = freshes j f away g in record { here = i.0; warming = i.1 };
    registrars = λ j k other (g : IsRegistrar w j k). absurd (other (sym g.here ∙ registrar));
    backs = λ j o _ g. backs tasks fresh_at j o theirs pending g;
  }

-- the entry is one that may come next, whatever the history is by then
abbrev pub MayCome : {W U X L : Type 0} → Plan W → Known W U X L → Entry U X L → Type 0
MayCome {W} {U} {X} {L} p k e = (log : List (Entry U X L)) → HasNoPlaceSince log k.seen → IsAllowed (limits p) (state_of (limits p) log) e

-- the entry of a call that opens nothing: it leaves the registry as it was, and stays allowed while no entry has a place
pub record IsAnswer {W U X L : Type 0} (p : Plan W) (h : Hand U) (e : Entry U X L) : Type 0 where
  pub answers : Answers h.caller h.asked e
  pub placed : has_place e ≡ true
  pub same : (s : MachineState) → after s e ≡ s
  pub shows : (f : ℕ → Option X) (g : ℕ) → shown_after f e g ≡ f g
  pub left : (f : ℕ → ℕ → List L) (g c : ℕ) → left_after f e g c ≡ f g c
  pub holds : (f : ℕ → Option ℕ) (b : ℕ) → held_after f e b ≡ f b
  pub apart : (l : Limits) (log : List (Entry U X L)) → Apart l log e
  pub lasting : (s t : MachineState) → HasSameOpenings s t → IsAllowed (limits p) s e → IsAllowed (limits p) t e

module _ {W U X L : Type 0} (p : Plan W) (h : Hand U) where
  too_many : (gs : List ℕ) → h.asked.call ≡ ToOpen → IsAnswer {X = X} {L = L} p h (TooMany h.caller h.asked.content gs)
  too_many gs is = record {
    answers = record { caller = refl; content = refl; call = ap (λ x. Some x) (sym is) };
    placed = refl;
    same = λ _. refl;
    shows = λ _ _. refl;
    left = λ _ _ _. refl;
    holds = λ _ _. refl;
    apart = λ l log. record { current = refl; acquired = λ _. refl; stays = λ _ _ _ is. is; early = refl; acquire = refl; released = λ _. refl };
    lasting = λ s t o a. record { full = ap length o.warming ∙ a.full; told = a.told ∙ sym o.warming };
  }

  spent : h.asked.call ≡ ToOpen → IsAnswer {X = X} {L = L} p h (GenerationsSpent h.caller h.asked.content)
  spent is = record {
    answers = record { caller = refl; content = refl; call = ap (λ x. Some x) (sym is) };
    placed = refl;
    same = λ _. refl;
    shows = λ _ _. refl;
    left = λ _ _ _. refl;
    holds = λ _ _. refl;
    apart = λ l log. record { current = refl; acquired = λ _. refl; stays = λ _ _ _ is. is; early = refl; acquire = refl; released = λ _. refl };
    lasting = λ s t o a. record { room = subst (λ (gs : List ℕ). length gs < p.max_warming) (sym o.warming) a.room; last = o.last ∙ a.last };
  }

  refusal : (gs : List ℕ) → h.asked.call ≡ ToOpen → (b : Bool) → IsAnswer {X = X} {L = L} p h (cond b (TooMany h.caller h.asked.content gs) (GenerationsSpent h.caller h.asked.content))
  refusal gs is true = too_many gs is
  refusal gs is false = spent is

pub is_answer : {W U X L : Type 0} (p : Plan W) (seen : List (Entry U X L)) (h : Hand U) (call : Call) → h.asked.call ≡ call → IsAnswer p h (answer_of call p seen h)
is_answer p seen h ToUpdate is = record {
  answers = record { caller = refl; content = refl; call = ap (λ x. Some x) (sym is) };
  placed = refl;
  same = λ _. refl;
  shows = λ _ _. refl;
  left = λ _ _ _. refl;
  holds = λ _ _. refl;
  apart = λ l log. record { current = refl; acquired = λ _. refl; stays = λ _ _ _ is. is; early = refl; acquire = refl; released = λ _. refl };
  lasting = λ s t o a. tt;
}
is_answer p seen h ToOpen is = let gs : List ℕ = (state_of (limits p) seen).warming in refusal p h gs is (length gs == p.max_warming)

module _ {D W U X L : Type 0} (setting : D → W) (docs : D → X) (deeds : D → List L) (p : Plan W) where
  -- what a call's step leaves of the slots, by its entry, what the registrar has begun then, and which warming generation it can publish
  pub record Places (s : State (Cell D U) (Known W U X L)) (kept : Kept setting docs deeds p s) (id i : ℕ) (k : Known W U X L) (e : Entry U X L) (task : Task) (fresh : Option Fresh) : Type 0 where
    pub fresh_at : ℕ → ℕ
    pub over : (n c : ℕ) → emptied task ≡ Some n → 1 ≤ c → c ≤ p.callers → kept.world.tasks c ≡ Back
    pub three : Three p (state_of (limits p) (kept.world.log ++ e ∷ [])) (released (kept.world.log ++ e ∷ [])) (put 0 task kept.world.tasks 0) (put 0 task kept.world.tasks) (set s.words i 0)
    pub four : Four setting docs deeds p (state_of (limits p) (kept.world.log ++ e ∷ [])) (told_in (kept.world.log ++ e ∷ [])) (held_in (kept.world.log ++ e ∷ [])) (put 0 task kept.world.tasks 0) kept.world.filling s.homes
    pub others : (j : ℕ) (f : Fresh) → j ≢ id → IsFresh kept.world j (limits p) f → Holds p fresh_at (kept.world.log ++ e ∷ []) j f
    pub own : (f : Fresh) → fresh ≡ Some f → Holds p fresh_at (kept.world.log ++ e ∷ []) id f

  pub executes : (slots id : ℕ) (me : Me (Cell D U) (Known W U X L)) (i : ℕ) (f : ℕ → ℕ) (h : Hand U) (e : Entry U X L) (task : Task) (fresh : Option Fresh) → i ≡ call_word h.caller → 1 ≤ h.caller → h.caller ≤ 64 → f (code_of h.asked.call) ≡ 0 → me.0.hand ≡ Some h → me.0.registrar ≡ true
      → Answers h.caller h.asked e → MayCome p me.0 e
      → ((log : List (Entry U X L)) → Legal (limits p) log → AllByRecursion NamesCaller log → IsAllowed (limits p) (state_of (limits p) log) e → Apart (limits p) log e)
      → ((s : State (Cell D U) (Known W U X L)) (kept : Kept setting docs deeds p s) → get_elem? s.views id ≡ some me.0 → IsAllowed (limits p) (state_of (limits p) kept.world.log) e → Places s kept id i me.0 e task fresh)
      → (then : ℕ → Me (Cell D U) (Known W U X L) → Type 0) → ((n : ℕ) (new : Me (Cell D U) (Known W U X L)) → HasExecuted e task fresh me new → then n new)
      → Allows (Kept setting docs deeds p) slots id me i f then
  executes slots id me i f h e task fresh at_word low few zero has role answers may apart places then tells s kept deep at small =
      let w = kept.world in
      let k = me.0 in
      let c : ℕ = h.caller in
      let all = kept.one.fits id k at in
      let r = all.registrar role in
      let hand = all.hand h has in
      let now : ℕ → Option (Asked U) = put c None w.pending in
      let log : List (Entry U X L) = w.log ++ e ∷ [] in
      let allowed = may w.log r.seen in
      let legal : Legal (limits p) log = grows_legal (limits p) w.log e kept.legal allowed in
      let found : f (slice_index s.words i) ≡ 0 = ap f (ap (λ n. slice_index s.words n) at_word ∙ kept.one.calls c low few ∙ ap code hand.pending) ∙ zero in
      let new : Me (Cell D U) (Known W U X L) = (record (looked k log now) { hand = None; task = task; fresh = fresh }, me.1) in
      let tasks : ℕ → Task = put 0 task w.tasks in
      let z = places s kept at allowed in (
        new.0,
        keeps,
        tt,
        subst (λ (x : ℕ). Kept setting docs deeds p (stepped s i x id me.1 new.0 keeps)) (sym found) record {
          words = length-set s.words i 0 ∙ kept.words;
          world = moved w log now w.hand_at tasks z.fresh_at;
          legal = legal;
          two = two_entry p w.log e s.words (set s.words i 0) (subst (λ (n : ℕ). slice_index (set s.words n 0) current_word ≡ slice_index s.words current_word) (sym at_word) (call_beside s.words c 0 current_word (omega arith)))
              (apart w.log kept.legal kept.two.named allowed) (subst (λ (o : Option ℕ). IfSome o (λ n. (1 ≤ n) × (n ≤ 64))) (sym answers.caller) (low, few)) kept.two;
          three = z.three;
          four = z.four;
          one = one_after p w log now w.hand_at tasks z.fresh_at id k None task fresh s.words (set s.words i 0) s.views kept.one at
              (leaves w h e answers W (limits p) id tasks z.fresh_at r.here hand.here hand.pending (λ d some. put_else 0 task w.tasks d (λ same. absurd (omega arith))) z.others)
              (λ d l g. subst (λ (n : ℕ). slice_index (set s.words n 0) (call_word d) ≡ code (now d)) (sym at_word) (calls_after s.words w.pending c 0 None kept.words few refl kept.one.calls d l g))
              (λ d past. let u = kept.one.undealt d past in
              let n : d ≢ c = λ same. none-some h.asked (sym u.0 ∙ ap w.pending same ∙ hand.pending) in
              let first = kept.one.first in
              (put_else c None w.pending d n ∙ u.0, no_entry c d w.log e answers.caller n ∙ u.1, put_else 0 task w.tasks d (λ same. absurd (omega arith)) ∙ u.2))
              (λ n d is some few. put_else 0 task w.tasks d (λ same. absurd (omega arith)) ∙ z.over n d is some few)
              record {
                hands = λ g is. absurd (none-some g is);
                freshes = λ g is. let y = z.own g is in record { here = y.0; warming = y.1 };
                begun = λ _. sym (ap tasks r.nobody);
                backs = all_map (IsBack w id) (IsBack (moved w log now w.hand_at tasks z.fresh_at) id) (λ o b. backs w h e answers tasks z.fresh_at id o (λ d some. put_else 0 task w.tasks d (λ same. absurd (omega arith))) hand.pending b) k.back all.back;
              };
        },
        tells (slice_index s.words i) new record {
          log = w.log;
          pending = now;
          covers = covers p w id k all kept.legal;
          legal = λ q is. subst (λ (r : Plan W). Legal (limits r) log) (sym (all.plan q is)) legal;
          after = refl;
        },
      )

  -- a call that opens nothing has its entry, which may come next after what the registrar has seen
  pub answers : (slots id : ℕ) (me : Me (Cell D U) (Known W U X L)) (i : ℕ) (h : Hand U) → i ≡ call_word h.caller → 1 ≤ h.caller → h.caller ≤ 64 → me.0.hand ≡ Some h → me.0.registrar ≡ true → me.0.plan ≡ Some p
      → IsAllowed (limits p) (state_of (limits p) me.0.seen) (answer_of h.asked.call p me.0.seen h) → Allows (Kept setting docs deeds p) slots id me i (λ _. 0) (λ _. Executed (step slots i 0 0 maybe.none) me 0)
  answers slots id me i h at_word low few has role told may =
      let e : Entry U X L = answer_of h.asked.call p me.0.seen h in
      let l = limits p in
      let a = is_answer p me.0.seen h h.asked.call refl in
      executes slots id me i (λ _. 0) h e me.0.task me.0.fresh at_word low few refl has role a.answers
      (λ log q. a.lasting (state_of (limits p) me.0.seen) (state_of (limits p) log) (quiet_since (limits p) log me.0.seen q) may)
      (λ log _ _ _. a.apart (limits p) log)
      (λ s kept at _.
      let w = kept.world in
      let f = kept.one.fits id me.0 at in
      let r = f.registrar role in
      let log : List (Entry U X L) = w.log ++ e ∷ [] in
      let state : state_of l log ≡ state_of l w.log = state_next l w.log e ∙ a.same (state_of l w.log) in
      let warm : (g : Fresh) → IsWarming (state_of l w.log) g → IsWarming (state_of l log) g = λ g. subst (λ (z : MachineState). IsWarming z g) (sym state) in
      let still : (c : ℕ) → put 0 me.0.task w.tasks c ≡ w.tasks c = put_same 0 me.0.task w.tasks r.task in
      let words : Three p (state_of l w.log) (released w.log) (w.tasks 0) w.tasks (set s.words i 0) =
      three_words p (state_of l w.log) (released w.log) w.tasks (few_slots p kept.two.sizes) s.words (set s.words i 0) (slots_same s.words (set s.words i 0) (subst (λ (n : ℕ). AreSame s.words (set s.words n 0)) (sym at_word) (call_beside s.words h.caller 0))) kept.three in
      record {
        fresh_at = w.fresh_at;
        over = λ n c is. kept.one.over n c (ap emptied (sym r.task) ∙ is);
        three = (
            let y : Three p (state_of l log) (released log) (w.tasks 0) w.tasks (set s.words i 0) =
            subst (λ (z : MachineState × (ℕ → ℕ)). Three p z.0 z.1 (w.tasks 0) w.tasks (set s.words i 0)) (λ j. (sym state j, λ g. sym (not_counted (releases g) w.log e ((a.apart l w.log).released g)) j)) words in
            subst (λ (z : ℕ → Task). Three p (state_of l log) (released log) (z 0) z (set s.words i 0)) (λ j c. sym (still c) j) y);
        four = four_entry setting docs deeds p w.log e (w.tasks 0) (put 0 me.0.task w.tasks 0) w.filling s.homes (λ b. ap (λ (z : MachineState). z.slots b) (a.same (state_of l w.log))) (λ c. ap (λ (z : MachineState). z.pins c) (a.same (state_of l w.log))) a.shows a.left a.holds
            (fills_on (w.tasks 0) (put 0 me.0.task w.tasks 0) (still 0)) kept.four;
        others = λ j g away i. (i.here, warm g i.warming);
        own = λ g is. let i = f.fresh g is in (i.here, warm g i.warming);
      })
      (λ _ new. Executed (step slots i 0 0 maybe.none) me 0 new)
      (λ _ new done g r e t. subst (λ (x : Hand U × Plan W). HasExecuted (answer_of x.0.asked.call x.1 me.0.seen x.0) me.0.task me.0.fresh me new) (λ j. (same_Some h g (sym has ∙ e) j, same_Some p r (sym told ∙ t) j)) done)
