-- Joining a seat into another keeps the rule: the numbers and lists of both are then one seat's.
use Rattle.std.proofs.Common.{◌≡◌, ◌≢◌, ℕ, ◌-◌, true, false, true≢false, cond, List, set, sym, ◌∙◌, subst, ⊎_elim, arith, Option, Some, None}
use mathlib.Core.Option.{some}
use mathlib.Core.Option as maybe
use lib.ListN.{get_elem?}
use Rattle.std.specs.Prelude.{slice_index}
use Rattle.atomic_table.specs.Table.{Joins}
use Rattle.atomic_table.proofs.Lists.{set_else}
use Rattle.view_cells.specs.declared.board.Setting.{Setting}
use Rattle.view_cells.specs.declared.board.Known.{Known}
use Rattle.view_cells.specs.Lists.{names, AreDistinct}
use Rattle.view_cells.specs.Rule.{number, Holds, Kept, HoldsByLock, OwnsLists}
use Rattle.view_cells.specs.Steps.{joined, spent}
use Rattle.view_cells.proofs.Numbers.{holds_or_not, names_append, entries_left, entries_right, distinct_append}
use Rattle.view_cells.proofs.Frame.{Each, each_set, taker_stays, not_by_idle}
use Rattle.view_cells.proofs.SplitOff.{chosen, passed}

module _ {T W E : Type 0} (Fit : W → T → Type 0) (entries : T → ℕ → List E) (about : Setting W) where
  pub gathered : (lock : ℕ) (home : maybe.Option (maybe.Option (Option T))) (knows : List (Known T W E)) (value : T) (owner : ℕ → ℕ) (id : ℕ) (k : Known T W E) (other : ℕ) (w : Known T W E)
      → Holds Fit entries about lock home knows value owner → get_elem? knows id ≡ some k → k.taken ≡ None → names (number k) k.lists ≡ true → other ≢ id
      → get_elem? (set knows id (joined k w)) other ≡ some w → w.taken ≡ None
      → Holds Fit entries about lock home (set (set knows id (joined k w)) other spent) value (λ n. cond (names n w.lists) id (owner n))
  gathered lock home knows value owner id k other w h at idle has apart at' idle' =
      let both : Known T W E = joined k w in
      let some_knows : List (Known T W E) = set knows id both in
      let all : List (Known T W E) = set some_knows other spent in
      let was : get_elem? knows other ≡ some w = sym (set_else knows id other both apart) ∙ at' in
      let owner' : ℕ → ℕ = λ n. cond (names n w.lists) id (owner n) in
      let stays : (n : ℕ) → names n w.lists ≡ false → owner' n ≡ owner n = λ n e. passed (names n w.lists) id (owner n) e in
      let goes : (n : ℕ) → names n w.lists ≡ true → owner' n ≡ id = λ n e. chosen (names n w.lists) id (owner n) e in
      let setting = (h.lists id k at (number k) has).0 in
      record {
        value_fits = h.value_fits;
        at_home = h.at_home;
        if_locked = λ z. let t = h.if_locked z in
            let not_joined : names (lock - 1) w.lists ≡ false = ⊎_elim
            (λ e. absurd (not_by_idle Fit entries about lock home knows value owner h other w was idle' (lock - 1) e (omega arith)))
            (λ e. e) (holds_or_not (names (lock - 1) w.lists)) in
            let there = taker_stays some_knows value other w at' idle' spent (owner (lock - 1)) t.0 (taker_stays knows value id k at idle both (owner (lock - 1)) t.0 t.1 t.3) t.3 in
            (t.0, subst (λ (j : ℕ). get_elem? all j ≡ some t.0) (sym (stays (lock - 1) not_joined)) there, t.2, t.3);
        by_lock = let F : ℕ → Known T W E → Type 0 = λ _ u. HoldsByLock Fit entries about lock home all value owner' u in
            let first : Each F some_knows = each_set F knows id both (λ t e. let no : None ≡ Some t = sym idle ∙ e in cc) (λ j u _ e. h.by_lock j u e) in
            each_set F some_knows other spent (λ t e. let no : None ≡ Some t = e in cc) (λ j u _ e. first j u e);
        lists = let F : ℕ → Known T W E → Type 0 = OwnsLists Fit entries about lock home all value owner' in
            let G : ℕ → Known T W E → Type 0 = λ j u. j ≢ other → F j u in
            let first : Each G some_knows = each_set G knows id both
            (λ _ n named. ⊎_elim
            (λ mine. let o = h.lists id k at n mine in
            let own : owner' n ≡ id = ⊎_elim (goes n) (λ e. stays n e ∙ o.2) (holds_or_not (names n w.lists)) in
            (setting, o.1, own, o.3 ∙ sym (entries_left n k.lists w.lists mine)))
            (λ not_mine. let theirs : names n w.lists ≡ true = ⊎_elim (λ e. absurd (true≢false (sym e ∙ not_mine))) (λ e. e) (names_append n k.lists w.lists named) in
            let o = h.lists other w was n theirs in
            (setting, o.1, goes n theirs, o.3 ∙ sym (entries_right n k.lists w.lists not_mine)))
            (holds_or_not (names n k.lists)))
            (λ j u _ e away n named. let o = h.lists j u e n named in
            let not_joined : names n w.lists ≡ false = ⊎_elim (λ s. absurd (away (sym o.2 ∙ (h.lists other w was n s).2))) (λ s. s) (holds_or_not (names n w.lists)) in
            (o.0, o.1, stays n not_joined ∙ o.2, o.3)) in
            each_set F some_knows other spent (λ n named. absurd (true≢false (sym named))) (λ j u away e. first j u e away);
        distinct = let F : ℕ → Known T W E → Type 0 = λ _ u. AreDistinct u.lists in
            let apart' : (n : ℕ) → names n k.lists ≡ true → names n w.lists ≡ false = λ n mine. ⊎_elim
            (λ theirs. absurd (apart (sym (h.lists other w was n theirs).2 ∙ (h.lists id k at n mine).2)))
            (λ f. f) (holds_or_not (names n w.lists)) in
            let first : Each F some_knows = each_set F knows id both (distinct_append k.lists w.lists (h.distinct id k at) (h.distinct other w was) apart') (λ j u _ e. h.distinct j u e) in
            each_set F some_knows other spent tt (λ j u _ e. first j u e);
      }

  pub joins : (id : ℕ) (k : Known T W E) (other : ℕ) (w : Known T W E) → k.taken ≡ None → names (number k) k.lists ≡ true → w.taken ≡ None
      → Joins (Kept Fit entries about) id k other w (joined k w) spent
  joins id k other w idle has idle' s kept at apart at' = record {
    words = kept.words;
    value = kept.value;
    owner = λ n. cond (names n w.lists) id (kept.owner n);
    holds = gathered (slice_index s.words 8) (get_elem? s.homes 0) s.views kept.value kept.owner id k other w kept.holds at idle has apart at' idle';
  }
