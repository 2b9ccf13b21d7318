-- Taking a pass back keeps the rule: its caller has announced nothing, and its entries are the registrar's.
use Rattle.std.proofs.Common.{◌≡◌, ◌≢◌, ℕ, ◌≤◌, List, [], ◌∷◌, set, sym, ap, ◌∙◌, subst, arith, None}
use mathlib.Core.Option.{some}
use mathlib.Core.Logic.{dite}
use native.Mathlib.Decide.{ℕ_discrete}
use lib.ListN.{get_elem?}
use Rattle.atomic_table.specs.Table.{Joins}
use Rattle.atomic_table.proofs.Lists.{set_else}
use Rattle.searcher_table.specs.declared.board.Plan.{Plan}
use Rattle.searcher_table.specs.declared.board.Task.{Task}
use Rattle.searcher_table.specs.declared.board.Task.TheVariants.{Idle, Back}
use Rattle.searcher_table.specs.declared.board.Own.{Own}
use Rattle.searcher_table.specs.declared.board.Known.{Known}
use Rattle.registry_machine.specs.Legal.{state_of}
use Rattle.searcher_table.specs.Words.{limits}
use Rattle.searcher_table.specs.Tasks.{emptied}
use Rattle.searcher_table.specs.Counts.{pinned}
use Rattle.searcher_table.specs.Doors.{told_in, held_in, Four}
use Rattle.searcher_table.specs.Rule.{World, IsBack, Fits, released, Kept}
use Rattle.searcher_table.specs.Steps.{taken_back, spent}
use Rattle.searcher_table.proofs.Frame.{put, put_here, put_else, each_set, all_map, all_joined, done_still}
use Rattle.searcher_table.proofs.HandOut.{given, given_on, given_not}
use Rattle.searcher_table.proofs.Announce.{nothing_pending}
use Rattle.searcher_table.proofs.Gather.{spent_fits}
use Rattle.searcher_table.proofs.Slotted.{three_back}

module _ {U X L : Type 0} where
  -- the passes of one seat are another's, and this caller's is taken back
  abbrev taken : World U X L → ℕ → ℕ → ℕ → World U X L
  taken w from to c = record w { pass_at = given from to w.pass_at; tasks = put c Back w.tasks }

module _ {W U X L : Type 0} where
  -- what another seat knows stays true
  fits_still : (p : Plan W) (w : World U X L) (from to c j : ℕ) (k : Known W U X L) → 1 ≤ c → w.pass_at c ≡ from → j ≢ from → Fits p w j k → Fits p (taken w from to c) j k
  fits_still p w from to c j k low there away f =
      let apart : (d : ℕ) → w.pass_at d ≡ j → put c Back w.tasks d ≡ w.tasks d = λ d here. put_else c Back w.tasks d (λ e. away (sym here ∙ ap w.pass_at e ∙ there)) in
      let stays : (c : ℕ) → w.pass_at c ≡ j → given from to w.pass_at c ≡ j = λ c here. given_not from to w.pass_at c (λ e. away (sym here ∙ e)) ∙ here in
      record {
        plan = f.plan;
        seen = f.seen;
        told = f.told;
        pass = λ some. let g = f.pass some in record { here = stays k.caller g.here; dealt = g.dealt; calls = g.calls; task = g.task ∙ sym (apart k.caller g.here) };
        hand = λ h e. let g = f.hand h e in record { here = g.here; pending = g.pending };
        fresh = λ h e. let g = f.fresh h e in record { here = g.here; warming = g.warming };
        registrar = λ r. let g = f.registrar r in record { here = g.here; seen = g.seen; next = g.next; nobody = g.nobody; task = g.task ∙ sym (put_else c Back w.tasks 0 (λ z. absurd (omega arith))); filling = g.filling; final = g.final };
        back = all_map (IsBack w j) (IsBack (taken w from to c) j) (λ o g. record { here = stays o.caller g.here; dealt = g.dealt; mine = g.mine; none = g.none; done = done_still w.tasks (put c Back w.tasks) o (apart o.caller g.here) g.done }) k.back f.back;
      }

  pub takes_back : {D : Type 0} (setting : D → W) (docs : D → X) (deeds : D → List L) (p : Plan W) (id : ℕ) (k : Known W U X L) (other : ℕ) (o : Known W U X L) → 1 ≤ o.caller → o.announced ≡ None → o.task ≡ Idle → pinned o.caller o.mine ≡ None → Joins (Kept setting docs deeds p) id k other o (taken_back k o) spent
  takes_back setting docs deeds p id k other o low none idle unpinned s kept at apart at' =
      let w = kept.world in
      let l = limits p in
      let c : ℕ = o.caller in
      let v = taken w other id c in
      let one : List (Known W U X L) = set s.views id (taken_back k o) in
      let was : get_elem? s.views other ≡ some o = sym (set_else s.views id other (taken_back k o) apart) ∙ at' in
      let g = kept.one.fits other o was in
      let mine = g.pass low in
      let still = nothing_pending w other o mine none in
      let own : put c Back w.tasks 0 ≡ w.tasks 0 = put_else c Back w.tasks 0 (λ z. absurd (omega arith)) in
      let f = fits_still p w other id c id k low mine.here (λ e. apart (sym e)) (kept.one.fits id k at) in
      let left : Own U X L = record { caller = o.caller; mine = o.mine } in
      let new : IsBack v id left = record { here = given_on other id w.pass_at o.caller mine.here; dealt = mine.dealt; mine = still.0; none = still.1; done = record { low = low; task = put_here c Back w.tasks; unpinned = unpinned } } in
      let both : Fits p v id (taken_back k o) = record {
        plan = f.plan;
        seen = f.seen;
        told = g.seen;
        pass = λ c. let i = f.pass c in record { here = i.here; dealt = i.dealt; calls = i.calls; task = i.task };
        hand = f.hand;
        fresh = f.fresh;
        registrar = λ r. let i = f.registrar r in record { here = i.here; seen = i.seen; next = i.next; nobody = i.nobody; task = i.task; filling = i.filling; final = i.final };
        back = all_joined (IsBack v id) k.back (left ∷ []) f.back (new, tt);
      } in
      record {
        words = kept.words;
        world = v;
        legal = kept.legal;
        two = kept.two;
        three = three_back p (state_of l w.log) (released w.log) w.tasks s.words c low (sym mine.task ∙ idle) kept.three;
        four = subst (λ (a : Task). Four setting docs deeds p (state_of l w.log) (told_in w.log) (held_in w.log) a w.filling s.homes) (sym own) kept.four;
        one = record {
          calls = kept.one.calls;
          fits = each_set (Fits p v) one other spent (spent_fits p v other)
              (λ j u away e. each_set (λ i x. i ≢ other → Fits p v i x) s.views id (taken_back k o) (λ _. both)
              (λ i x n is far. fits_still p w other id c i x low mine.here far (kept.one.fits i x is)) j u e away);
          undealt = λ d past. let u = kept.one.undealt d past in (u.0, u.1, put_else c Back w.tasks d (λ e. let a = mine.dealt in absurd (omega arith)) ∙ u.2);
          first = kept.one.first;
          few = kept.one.few;
          over = λ n d is some few. dite (ℕ_discrete d c)
              (λ same. ap (put c Back w.tasks) same ∙ put_here c Back w.tasks)
              (λ away. put_else c Back w.tasks d away ∙ kept.one.over n d (ap emptied (sym own) ∙ is) some few);
        };
      }
