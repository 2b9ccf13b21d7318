-- Splitting a seat off for what was announced, or for what was seen, keeps the rule.
use Rattle.std.proofs.Common.{◌≡◌, ◌≢◌, ℕ, List, length, set, cond, true≢false, sym, refl, ap, ◌∙◌, arith, eq-eqb, ne_eqb, Some}
use Rattle.std.specs.Prelude.{◌==◌}
use Rattle.std.proofs.lemmas.Option.{none-some}
use Rattle.atomic_table.specs.Table.{Splits}
use Rattle.searcher_table.specs.declared.board.Plan.{Plan}
use Rattle.searcher_table.specs.declared.board.Hand.{Hand}
use Rattle.searcher_table.specs.declared.board.Known.{Known}
use Rattle.searcher_table.specs.declared.board.Fresh.{Fresh}
use Rattle.searcher_table.specs.Words.{limits}
use Rattle.searcher_table.specs.Rule.{World, IsHand, IsFresh, IsBack, Fits, Kept}
use Rattle.searcher_table.specs.Steps.{kept_back, handed_out, still, told_of}
use Rattle.searcher_table.proofs.Frame.{each_set, each_snoc, all_map, moved}

-- what is one seat's goes to another
abbrev pub given : ℕ → ℕ → (ℕ → ℕ) → ℕ → ℕ
given from to at c = cond (at c == from) to (at c)

pub given_on : (from to : ℕ) (at : ℕ → ℕ) (c : ℕ) → at c ≡ from → given from to at c ≡ to
given_on from to at c e = ap (λ b. cond b to (at c)) (eq-eqb (at c) from e)

pub given_not : (from to : ℕ) (at : ℕ → ℕ) (c : ℕ) → at c ≢ from → given from to at c ≡ at c
given_not from to at c n = ap (λ b. cond b to (at c)) (ne_eqb (at c) from n)

module _ {W U X L : Type 0} where
  -- whose hand is another seat's, and nothing else changed
  pub fits_beside : (p : Plan W) (w : World U X L) (at on : ℕ → ℕ) (j : ℕ) (k : Known W U X L) → ((h : Hand U) → k.hand ≡ Some h → IsHand (moved w w.log w.pending at w.tasks on) j h)
      → ((h : Fresh) → k.fresh ≡ Some h → IsFresh (moved w w.log w.pending at w.tasks on) j (limits p) h) → Fits p w j k → Fits p (moved w w.log w.pending at w.tasks on) j k
  fits_beside p w at on j k hands freshes f = let v = moved w w.log w.pending at w.tasks on in record {
    plan = f.plan;
    seen = f.seen;
    told = f.told;
    pass = λ c. let g = f.pass c in record { here = g.here; dealt = g.dealt; calls = g.calls; task = g.task };
    hand = hands;
    fresh = freshes;
    registrar = λ r. let g = f.registrar r in record { here = g.here; seen = g.seen; next = g.next; nobody = g.nobody; task = g.task; filling = g.filling; final = g.final };
    back = all_map (IsBack w j) (IsBack v j) (λ o g. record { here = g.here; dealt = g.dealt; mine = g.mine; none = g.none; done = g.done }) k.back f.back;
  }

  pub without_hand : (p : Plan W) (w : World U X L) (id : ℕ) (k : Known W U X L) → Fits p w id k → Fits p w id (kept_back k)
  without_hand p w id k f = record {
    plan = f.plan;
    seen = f.seen;
    told = f.told;
    pass = λ c. let g = f.pass c in record { here = g.here; dealt = g.dealt; calls = g.calls; task = g.task };
    hand = λ h e. absurd (none-some h e);
    fresh = λ h e. absurd (none-some h e);
    registrar = λ r. let g = f.registrar r in record { here = g.here; seen = g.seen; next = g.next; nobody = g.nobody; task = g.task; filling = g.filling; final = g.final };
    back = f.back;
  }

  pub splits : {D : Type 0} (setting : D → W) (docs : D → X) (deeds : D → List L) (p : Plan W) (id : ℕ) (k : Known W U X L) → Splits (Kept setting docs deeds p) id k (kept_back k) (handed_out k)
  splits setting docs deeds p id k s kept at =
      let w = kept.world in
      let f = kept.one.fits id k at in
      let left : List (Known W U X L) = set s.views id (kept_back k) in
      let n : ℕ = length left in
      let hands : ℕ → ℕ = given id n w.hand_at in
      let freshes : ℕ → ℕ = given id n w.fresh_at in
      let v = moved w w.log w.pending hands w.tasks freshes in
      let give : (h : Fresh) → IsFresh w id (limits p) h → IsFresh v n (limits p) h = λ h g. record { here = given_on id n w.fresh_at h.generation g.here; warming = g.warming } in
      let leave : (j : ℕ) (h : Fresh) → j ≢ id → IsFresh w j (limits p) h → IsFresh v j (limits p) h = λ j h other g.
      record { here = given_not id n w.fresh_at h.generation (λ e. other (sym g.here ∙ e)) ∙ g.here; warming = g.warming } in
      let to : (h : Hand U) → IsHand w id h → IsHand v n h = λ h g. record { here = given_on id n w.hand_at h.caller g.here; pending = g.pending } in
      let stays : (j : ℕ) (h : Hand U) → j ≢ id → IsHand w j h → IsHand v j h = λ j h other g.
      record { here = given_not id n w.hand_at h.caller (λ e. other (sym g.here ∙ e)) ∙ g.here; pending = g.pending } in
      record {
        words = kept.words;
        world = v;
        legal = kept.legal;
        two = kept.two;
        three = kept.three;
        four = kept.four;
        one = record {
          calls = kept.one.calls;
          fits = each_snoc (Fits p v) left (handed_out k)
              (each_set (Fits p v) s.views id (kept_back k)
              (fits_beside p w hands freshes id (kept_back k) (λ h e. absurd (none-some h e)) (λ h e. absurd (none-some h e)) (without_hand p w id k f))
              (λ j u other e. fits_beside p w hands freshes j u (λ h is. stays j h other ((kept.one.fits j u e).hand h is)) (λ h is. leave j h other ((kept.one.fits j u e).fresh h is)) (kept.one.fits j u e)))
              record {
                plan = f.plan;
                seen = f.seen;
                told = (w.log, refl);
                pass = λ c. absurd (omega arith);
                hand = λ h e. to h (f.hand h e);
                fresh = λ h e. give h (f.fresh h e);
                registrar = λ r. absurd (true≢false (sym r));
                back = tt;
              };
          undealt = kept.one.undealt;
          first = kept.one.first;
          few = kept.one.few;
          over = kept.one.over;
        };
      }

  -- splitting a seat off that has only seen as much
  pub tells_on : {D : Type 0} (setting : D → W) (docs : D → X) (deeds : D → List L) (p : Plan W) (id : ℕ) (k : Known W U X L) → Splits (Kept setting docs deeds p) id k (still k) (told_of k)
  tells_on setting docs deeds p id k s kept at =
      let w = kept.world in
      let f = kept.one.fits id k at in
      record {
        words = kept.words;
        world = w;
        legal = kept.legal;
        two = kept.two;
        three = kept.three;
        four = kept.four;
        one = record {
          calls = kept.one.calls;
          fits = each_snoc (Fits p w) (set s.views id k) (told_of k) (each_set (Fits p w) s.views id k f (λ j u _ e. kept.one.fits j u e)) record {
            plan = f.plan;
            seen = f.seen;
            told = (w.log, refl);
            pass = λ c. absurd (omega arith);
            hand = λ h e. absurd (none-some h e);
            fresh = λ h e. absurd (none-some h e);
            registrar = λ r. absurd (true≢false (sym r));
            back = tt;
          };
          undealt = kept.one.undealt;
          first = kept.one.first;
          few = kept.one.few;
          over = kept.one.over;
        };
      }
