-- Dealing a pass keeps the rule: the next caller has announced nothing and has no entries.
use Rattle.std.proofs.Common.{◌≡◌, ℕ, ◌+◌, ◌≤◌, ◌<◌, List, length, set, true, true≢false, sym, refl, ap, ◌∙◌, inl, arith}
use Rattle.std.proofs.lemmas.Option.{none-some}
use Rattle.atomic_table.specs.Table.{Splits}
use Rattle.searcher_table.specs.declared.board.Plan.{Plan}
use Rattle.searcher_table.specs.declared.board.Known.{Known}
use Rattle.searcher_table.specs.Rule.{World, IsRegistrar, IsBack, Fits, Kept}
use Rattle.searcher_table.specs.Steps.{keeps_others, dealt_out}
use Rattle.searcher_table.proofs.Frame.{put, put_here, put_else, each_set, each_snoc, all_map}

module _ {U X L : Type 0} where
  -- the next pass is another seat's
  abbrev dealt : World U X L → ℕ → World U X L
  dealt w n = record w { pass_at = put w.next n w.pass_at; next = w.next + 1 }

  still : (w : World U X L) (n j c : ℕ) → w.pass_at c ≡ j → c < w.next → put w.next n w.pass_at c ≡ j
  still w n j c here few = put_else w.next n w.pass_at c (λ e. absurd (omega arith)) ∙ here

module _ {W U X L : Type 0} where
  -- what a seat knows stays true, where a registrar knows who is next
  fits_still : (p : Plan W) (w : World U X L) (n j m : ℕ) (k : Known W U X L) → (k.registrar ≡ true → IsRegistrar (dealt w n) j (record k { next = m })) → Fits p w j k → Fits p (dealt w n) j (record k { next = m })
  fits_still p w n j m k registrar f = record {
    plan = f.plan;
    seen = f.seen;
    told = f.told;
    pass = λ c. let g = f.pass c in record { here = still w n j k.caller g.here g.dealt; dealt = (let d = g.dealt in omega arith); calls = g.calls; task = g.task };
    hand = λ h e. let g = f.hand h e in record { here = g.here; pending = g.pending };
    fresh = λ h e. let g = f.fresh h e in record { here = g.here; warming = g.warming };
    registrar = registrar;
    back = all_map (IsBack w j) (IsBack (dealt w n) j) (λ o g. record { here = still w n j o.caller g.here g.dealt; dealt = (let d = g.dealt in omega arith); mine = g.mine; none = g.none; done = g.done }) k.back f.back;
  }

  pub deals : {D : Type 0} (setting : D → W) (docs : D → X) (deeds : D → List L) (p : Plan W) (id : ℕ) (k : Known W U X L) → k.registrar ≡ true → k.next ≤ p.callers → Splits (Kept setting docs deeds p) id k (keeps_others k) (dealt_out k)
  deals setting docs deeds p id k role left_over s kept at =
      let w = kept.world in
      let f = kept.one.fits id k at in
      let r = f.registrar role in
      let left : List (Known W U X L) = set s.views id (keeps_others k) in
      let n : ℕ = length left in
      let v = dealt w n in
      let free = kept.one.undealt k.next (let e = r.next in omega arith) in
      record {
        words = kept.words;
        world = v;
        legal = kept.legal;
        two = kept.two;
        three = kept.three;
        four = kept.four;
        one = record {
          calls = kept.one.calls;
          fits = each_snoc (Fits p v) left (dealt_out k)
              (each_set (Fits p v) s.views id (keeps_others k)
              (fits_still p w n id (k.next + 1) k (λ _. record { here = r.here; seen = r.seen; next = ap (λ m. m + 1) r.next; nobody = r.nobody; task = r.task; filling = r.filling; final = r.final }) f)
              (λ j u other e. fits_still p w n j u.next u (λ x. let g = (kept.one.fits j u e).registrar x in absurd (other (sym g.here ∙ r.here))) (kept.one.fits j u e)))
              record {
                plan = f.plan;
                seen = (w.log, refl);
                told = (w.log, refl);
                pass = λ _. record {
                  here = ap (put w.next n w.pass_at) r.next ∙ put_here w.next n w.pass_at;
                  dealt = (let e = r.next in omega arith);
                  calls = inl record { mine = free.1; announced = free.0 };
                  task = sym free.2;
                };
                hand = λ h e. absurd (none-some h e);
                fresh = λ h e. absurd (none-some h e);
                registrar = λ x. absurd (true≢false (sym x));
                back = tt;
              };
          undealt = λ c past. kept.one.undealt c (omega arith);
          first = omega arith;
          few = (let e = r.next in omega arith);
          over = kept.one.over;
        };
      }
