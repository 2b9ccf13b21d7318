-- Joining a seat into another keeps the rule: what that one had in hand is then this one's, which is told what it had seen.
use Rattle.std.proofs.Common.{◌≡◌, ◌≢◌, ℕ, List, set, sym, refl, ◌∙◌, true≢false, arith}
use mathlib.Core.Option.{some}
use lib.ListN.{get_elem?}
use Rattle.std.proofs.lemmas.Option.{none-some}
use Rattle.atomic_table.specs.Table.{Joins}
use Rattle.atomic_table.proofs.Lists.{set_else}
use Rattle.searcher_table.specs.declared.board.Plan.{Plan}
use Rattle.searcher_table.specs.declared.board.Hand.{Hand}
use Rattle.searcher_table.specs.declared.board.Known.{Known}
use Rattle.searcher_table.specs.declared.board.Fresh.{Fresh}
use Rattle.searcher_table.specs.Words.{limits}
use Rattle.searcher_table.specs.Rule.{World, IsHand, IsFresh, IsBack, Fits, Kept}
use Rattle.searcher_table.specs.Steps.{joined, spent}
use Rattle.searcher_table.proofs.Frame.{each_set, all_map, moved}
use Rattle.searcher_table.proofs.HandOut.{given, given_on, given_not, fits_beside}

module _ {W U X L : Type 0} where
  -- a seat that knows nothing
  pub spent_fits : (p : Plan W) (w : World U X L) (id : ℕ) → Fits p w id spent
  spent_fits p w id = record {
    plan = λ q e. absurd (none-some q e);
    seen = (w.log, refl);
    told = (w.log, refl);
    pass = λ c. absurd (omega arith);
    hand = λ h e. absurd (none-some h e);
    fresh = λ h e. absurd (none-some h e);
    registrar = λ r. absurd (true≢false (sym r));
    back = tt;
  }

  pub joins : {D : Type 0} (setting : D → W) (docs : D → X) (deeds : D → List L) (p : Plan W) (id : ℕ) (k : Known W U X L) (other : ℕ) (o : Known W U X L) → Joins (Kept setting docs deeds p) id k other o (joined k o) spent
  joins setting docs deeds p id k other o s kept at apart at' =
      let w = kept.world in
      let one : List (Known W U X L) = set s.views id (joined k o) in
      let was : get_elem? s.views other ≡ some o = sym (set_else s.views id other (joined k o) apart) ∙ at' in
      let f = kept.one.fits id k at in
      let g = kept.one.fits other o was in
      let hands : ℕ → ℕ = given other id w.hand_at in
      let freshes : ℕ → ℕ = given other id w.fresh_at in
      let v = moved w w.log w.pending hands w.tasks freshes in
      let give : (h : Fresh) → IsFresh w other (limits p) h → IsFresh v id (limits p) h = λ h i. record { here = given_on other id w.fresh_at h.generation i.here; warming = i.warming } in
      let leave : (j : ℕ) (h : Fresh) → j ≢ other → IsFresh w j (limits p) h → IsFresh v j (limits p) h = λ j h n i.
      record { here = given_not other id w.fresh_at h.generation (λ e. n (sym i.here ∙ e)) ∙ i.here; warming = i.warming } in
      let to : (h : Hand U) → IsHand w other h → IsHand v id h = λ h i. record { here = given_on other id w.hand_at h.caller i.here; pending = i.pending } in
      let stays : (j : ℕ) (h : Hand U) → j ≢ other → IsHand w j h → IsHand v j h = λ j h n i.
      record { here = given_not other id w.hand_at h.caller (λ e. n (sym i.here ∙ e)) ∙ i.here; pending = i.pending } in
      let both : Fits p v id (joined k o) = record {
        plan = f.plan;
        seen = f.seen;
        told = g.seen;
        pass = λ c. let i = f.pass c in record { here = i.here; dealt = i.dealt; calls = i.calls; task = i.task };
        hand = λ h e. to h (g.hand h e);
        fresh = λ h e. give h (g.fresh h e);
        registrar = λ r. let i = f.registrar r in record { here = i.here; seen = i.seen; next = i.next; nobody = i.nobody; task = i.task; filling = i.filling; final = i.final };
        back = all_map (IsBack w id) (IsBack v id) (λ b i. record { here = i.here; dealt = i.dealt; mine = i.mine; none = i.none; done = i.done }) k.back f.back;
      } in
      record {
        words = kept.words;
        world = v;
        legal = kept.legal;
        two = kept.two;
        three = kept.three;
        four = kept.four;
        one = record {
          calls = kept.one.calls;
          fits = each_set (Fits p v) one other spent (spent_fits p v other)
              (λ j u away e. each_set (λ i x. i ≢ other → Fits p v i x) s.views id (joined k o) (λ _. both)
              (λ i x n is far. fits_beside p w hands freshes i x (λ h has. stays i h far ((kept.one.fits i x is).hand h has)) (λ h has. leave i h far ((kept.one.fits i x is).fresh h has)) (kept.one.fits i x is)) j u e away);
          undealt = kept.one.undealt;
          first = kept.one.first;
          few = kept.one.few;
          over = kept.one.over;
        };
      }
