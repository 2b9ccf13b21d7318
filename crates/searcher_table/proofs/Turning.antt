-- A step whose entries name nobody keeps the rule, by what it leaves of the words and slots.
use Rattle.std.proofs.Common.{◌≡◌, ◌≢◌, ◌⊎◌, ℕ, ◌≤◌, ◌<◌, false, true, List, [], ◌∷◌, ◌++◌, append-nil, append_assoc, length-set, set, get_or-set_other, cond, sym, refl, ap, ◌∙◌, subst, ⊎_elim, arith, Option, Some, None}
use mathlib.Core.Option.{some}
use lib.ListN.{get_elem?}
use Rattle.std.specs.List.{AllByRecursion}
use Rattle.std.proofs.lemmas.Option.{none-some}
use Rattle.atomic_table.specs.Table.{State, Me, Act, homes_after, stepped}
use Rattle.registry_machine.specs.declared.entry.Entry.{Entry}
use Rattle.registry_machine.specs.Entries.{caller_of, has_place}
use Rattle.registry_machine.specs.Callers.{mine}
use Rattle.registry_machine.specs.Machine.{is_some_of}
use Rattle.registry_machine.specs.Legal.{Legal, state_of}
use Rattle.searcher_table.specs.declared.board.Cell.{Cell}
use Rattle.searcher_table.specs.declared.board.Plan.{Plan}
use Rattle.searcher_table.specs.declared.board.Own.{Own}
use Rattle.searcher_table.specs.declared.board.Known.{Known}
use Rattle.searcher_table.specs.declared.board.Task.{Task}
use Rattle.searcher_table.specs.declared.board.Task.TheVariants.{Back}
use Rattle.searcher_table.specs.declared.board.Fresh.{Fresh}
use Rattle.searcher_table.specs.Words.{call_word, limits}
use Rattle.searcher_table.specs.Tasks.{emptied, IsWarming, Three}
use Rattle.searcher_table.specs.Doors.{told_in, held_in, Four}
use Rattle.searcher_table.specs.Views.{GoesOn}
use Rattle.searcher_table.specs.Rule.{World, IsPass, IsHand, IsFresh, IsRegistrar, IsDone, IsBack, Fits, Two, released, Kept}
use Rattle.searcher_table.specs.Steps.{looked}
use Rattle.searcher_table.proofs.Frame.{put, put_here, put_else, moved, Acts, starts_later, own_joined, all_joined, all_map, done_still, nothing_out, not_some, one_after}
use Rattle.searcher_table.proofs.Handing.{another}

module _ {U X L : Type 0} where
  -- entries that name nobody are no caller's own
  none_named : (c : ℕ) (es : List (Entry U X L)) → AllByRecursion (λ e. caller_of e ≡ None) es → mine c es ≡ []
  none_named c [] all = refl
  none_named c (e ∷ es) all = ap (λ o. cond (is_some_of c o) (e ∷ mine c es) (mine c es)) all.0 ∙ none_named c es all.1

  pub none_more : (c : ℕ) (log es : List (Entry U X L)) → AllByRecursion (λ e. caller_of e ≡ None) es → mine c (log ++ es) ≡ mine c log
  none_more c log es all = own_joined c log es ∙ ap (λ l. mine c log ++ l) (none_named c es all) ∙ append-nil (mine c log)

-- the seat that acts is another one than that of a pass or of the registrar
module _ {W U X L : Type 0} (p : Plan W) (w : World U X L) (id : ℕ) (k : Known W U X L) (f : Fits p w id k) (acts : Acts k) where
  pub other_pass : (j d : ℕ) → j ≢ id → 1 ≤ d → w.pass_at d ≡ j → d ≢ k.caller
  other_pass j d away low there = ⊎_elim
      (λ own. another w id j k.caller d (f.pass own).here there away)
      (λ r. λ same. let n = (f.registrar r).nobody in absurd (omega arith))
      acts

  pub other_registrar : (j : ℕ) → j ≢ id → w.registrar_at ≡ j → (0 ≢ k.caller) × (k.registrar ≡ true → ⊥)
  other_registrar j away there = ⊎_elim
      (λ low. (λ same. absurd (omega arith), λ r. away (sym there ∙ (f.registrar r).here)))
      (λ r. absurd (away (sym there ∙ (f.registrar r).here)))
      acts

  pub own_below : 1 ≤ w.next → k.caller < w.next
  own_below first = ⊎_elim (λ low. (f.pass low).dealt) (λ r. let n = (f.registrar r).nobody in omega arith) acts

-- the right to a warming generation after the step
abbrev pub Holds : {W U X L : Type 0} → Plan W → (ℕ → ℕ) → List (Entry U X L) → ℕ → Fresh → Type 0
Holds p fresh_at log id f = (fresh_at f.generation ≡ id) × IsWarming (state_of (limits p) log) f

module _ {D W U X L : Type 0} (setting : D → W) (docs : D → X) (deeds : D → List L) (p : Plan W) where
  pub turns : (s : State (Cell D U) (Known W U X L)) (kept : Kept setting docs deeds p s) (id i x : ℕ) (me : Me (Cell D U) (Known W U X L)) (log es : List (Entry U X L)) (task : Task) (fresh : Option Fresh) (fresh_at : ℕ → ℕ) (act : Act (Cell D U))
      → get_elem? s.views id ≡ some me.0 → Acts me.0 → (1 ≤ me.0.caller → me.0.task ≢ Back) → ((n c : ℕ) → emptied task ≡ Some n → 1 ≤ c → c ≤ p.callers → kept.world.tasks c ≡ Back) → i < 640 → log ≡ kept.world.log ++ es → AllByRecursion (λ e. caller_of e ≡ None) es
      → AllByRecursion (λ e. has_place e ≡ false) es ⊎ (me.0.registrar ≡ true) → Legal (limits p) log → Two p log (set s.words i x)
      → Three p (state_of (limits p) log) (released log) (put me.0.caller task kept.world.tasks 0) (put me.0.caller task kept.world.tasks) (set s.words i x)
      → Four setting docs deeds p (state_of (limits p) log) (told_in log) (held_in log) (put me.0.caller task kept.world.tasks 0) kept.world.filling (homes_after s.homes me.1 act)
      → ((j : ℕ) (f : Fresh) → j ≢ id → IsFresh kept.world j (limits p) f → Holds p fresh_at log j f) → ((f : Fresh) → fresh ≡ Some f → Holds p fresh_at log id f)
      → Kept setting docs deeds p (stepped s i x id me.1 (record (looked me.0 log kept.world.pending) { hand = None; task = task; fresh = fresh }) act)
  turns s kept id i x me log es task fresh fresh_at act at acts out over below grown named quiet legal two three four others own =
      let w = kept.world in
      let k = me.0 in
      let all = kept.one.fits id k at in
      let tasks : ℕ → Task = put k.caller task w.tasks in
      let v : World U X L = moved w log w.pending w.hand_at tasks fresh_at in
      let same : (c : ℕ) → mine c log ≡ mine c w.log = λ c. ap (mine c) grown ∙ none_more c w.log es named in
      let none : 1 ≤ k.caller → emptied (w.tasks 0) ≡ None = λ own. nothing_out p w s.words s.views kept.one k.caller own (all.pass own).dealt (λ z. out own ((all.pass own).task ∙ z)) in
      let apart : (o : Own U X L) → IsDone w.tasks o → o.caller ≢ k.caller = λ o d eq. ⊎_elim
      (λ low. out low ((all.pass low).task ∙ ap w.tasks (sym eq) ∙ d.task))
      (λ r. let n = (all.registrar r).nobody in let a = d.low in absurd (omega arith))
      acts in
      let back : (j : ℕ) (o : Own U X L) → IsBack w j o → IsBack v j o = λ j o g. record {
        here = g.here;
        dealt = g.dealt;
        mine = same o.caller ∙ g.mine;
        none = g.none;
        done = done_still w.tasks tasks o (put_else k.caller task w.tasks o.caller (apart o g.done)) g.done;
      } in
      record {
        words = length-set s.words i x ∙ kept.words;
        world = v;
        legal = legal;
        two = two;
        three = three;
        four = four;
        one = one_after p w log w.pending w.hand_at tasks fresh_at id k None task fresh s.words (set s.words i x) s.views kept.one at
            record {
              log = λ seen z. let g = starts_later w.log seen es z in (g.0, grown ∙ g.1);
              passes = λ j u away low (g : IsPass w j u). record {
                here = g.here;
                dealt = g.dealt;
                calls = subst (λ (l : List (Entry U X L)). GoesOn u.caller u.mine u.announced l (w.pending u.caller)) (sym (same u.caller)) g.calls;
                task = g.task ∙ sym (put_else k.caller task w.tasks u.caller (other_pass p w id k all acts j u.caller away low g.here));
              };
              hands = λ j h away (g : IsHand w j h). record { here = g.here; pending = g.pending };
              freshes = λ j f away g. let h = others j f away g in record { here = h.0; warming = h.1 };
              registrars = λ j u away (g : IsRegistrar w j u).
                  let n = other_registrar p w id k all acts j away g.here in
                  record {
                    here = g.here;
                    seen = record {
                      rest = g.seen.rest ++ es;
                      grown = grown ∙ ap (λ l. l ++ es) g.seen.grown ∙ append_assoc u.seen g.seen.rest es;
                      quiet = all_joined (λ e. has_place e ≡ false) g.seen.rest es g.seen.quiet (⊎_elim (λ q. q) (λ r. absurd (n.1 r)) quiet);
                    };
                    next = g.next;
                    nobody = g.nobody;
                    task = g.task ∙ sym (put_else k.caller task w.tasks 0 n.0);
                    filling = g.filling;
                    final = λ m is. ⊎_elim
                        (λ own. not_some (emptied (w.tasks 0)) m (none own) (ap emptied (sym g.task) ∙ is))
                        (λ r. absurd (n.1 r))
                        acts;
                  };
              backs = λ j o away g. back j o g;
            }
            (λ c low few. get_or-set_other s.words i (call_word c) x 0 (λ z. absurd (omega arith)) ∙ kept.one.calls c low few)
            (λ c past. let u = kept.one.undealt c past in (
              u.0,
              same c ∙ u.1,
              put_else k.caller task w.tasks c (λ z. let b = own_below p w id k all acts kept.one.first in absurd (omega arith)) ∙ u.2,
            ))
            (λ n c is low few. ⊎_elim
            (λ own. not_some (emptied (w.tasks 0)) n (none own) (ap emptied (sym (put_else k.caller task w.tasks 0 (λ z. absurd (omega arith)))) ∙ is))
            (λ r. let z = (all.registrar r).nobody in
            put_else k.caller task w.tasks c (λ e. absurd (omega arith)) ∙ over n c (ap emptied (sym (ap (put k.caller task w.tasks) (sym z) ∙ put_here k.caller task w.tasks)) ∙ is) low few)
            acts)
            record {
              hands = λ h z. absurd (none-some h z);
              freshes = λ f z. let h = own f z in record { here = h.0; warming = h.1 };
              begun = λ _. sym (put_here k.caller task w.tasks);
              backs = all_map (IsBack w id) (IsBack v id) (λ o g. back id o g) k.back all.back;
            };
      }
