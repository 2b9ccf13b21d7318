-- Splitting a seat off keeps the rule: the new seat has the numbers behind the first.
use Rattle.std.proofs.Common.{◌≡◌, ℕ, ◌-◌, Bool, true, false, cond, List, [], ◌∷◌, ◌++◌, length, set, sym, ap, ◌∙◌, subst, ⊎_elim, arith, Option, Some, None}
use mathlib.Core.Option.{some}
use mathlib.Core.Option as maybe
use lib.ListN.{get_elem?}
use Rattle.std.specs.Prelude.{slice_index}
use Rattle.atomic_table.specs.Table.{Splits}
use Rattle.atomic_table.proofs.Lists.{at_longer}
use Rattle.view_cells.specs.declared.board.Setting.{Setting}
use Rattle.view_cells.specs.declared.board.Known.{Known}
use Rattle.view_cells.specs.Lists.{names, AreDistinct, others}
use Rattle.view_cells.specs.Rule.{number, Holds, Kept, HoldsByLock, OwnsLists}
use Rattle.view_cells.specs.Steps.{first_only, rest_only}
use Rattle.view_cells.proofs.Numbers.{holds_or_not, first_names, others_names, distinct_first, distinct_others}
use Rattle.view_cells.proofs.Frame.{each_set, each_snoc, taker_stays, not_by_idle}

-- a choice by a test that is known
pub chosen : (b : Bool) (x y : ℕ) → b ≡ true → cond b x y ≡ x
chosen b x y e = ap (λ c. cond c x y) e

pub passed : (b : Bool) (x y : ℕ) → b ≡ false → cond b x y ≡ y
passed b x y e = ap (λ c. cond c x y) e

module _ {T W E : Type 0} (Fit : W → T → Type 0) (entries : T → ℕ → List E) (about : Setting W) where
  pub split_off : (lock : ℕ) (home : maybe.Option (maybe.Option (Option T))) (knows : List (Known T W E)) (value : T) (owner : ℕ → ℕ) (id : ℕ) (k : Known T W E)
      → Holds Fit entries about lock home knows value owner → get_elem? knows id ≡ some k → k.taken ≡ None → names (number k) (others k.lists) ≡ false
      → Holds Fit entries about lock home (set knows id (first_only k) ++ rest_only k ∷ []) value (λ n. cond (names n (others k.lists)) (length (set knows id (first_only k))) (owner n))
  split_off lock home knows value owner id k h at idle alone =
      let left : Known T W E = first_only k in
      let right : Known T W E = rest_only k in
      let left_knows : List (Known T W E) = set knows id left in
      let all : List (Known T W E) = left_knows ++ right ∷ [] in
      let owner' : ℕ → ℕ = λ n. cond (names n (others k.lists)) (length left_knows) (owner n) in
      let stays : (n : ℕ) → names n (others k.lists) ≡ false → owner' n ≡ owner n = λ n e. passed (names n (others k.lists)) (length left_knows) (owner n) e in
      let goes : (n : ℕ) → names n (others k.lists) ≡ true → owner' n ≡ length left_knows = λ n e. chosen (names n (others k.lists)) (length left_knows) (owner n) e in
      record {
        value_fits = h.value_fits;
        at_home = h.at_home;
        if_locked = λ z. let t = h.if_locked z in
            let not_split : names (lock - 1) (others k.lists) ≡ false = ⊎_elim
            (λ e. absurd (not_by_idle Fit entries about lock home knows value owner h id k at idle (lock - 1) (others_names (lock - 1) k.lists alone e).0 (omega arith)))
            (λ e. e) (holds_or_not (names (lock - 1) (others k.lists))) in
            let there = at_longer left_knows (right ∷ []) (owner (lock - 1)) t.0 (taker_stays knows value id k at idle left (owner (lock - 1)) t.0 t.1 t.3) in
            (t.0, subst (λ (j : ℕ). get_elem? all j ≡ some t.0) (sym (stays (lock - 1) not_split)) there, t.2, t.3);
        by_lock = let F : ℕ → Known T W E → Type 0 = λ _ u. HoldsByLock Fit entries about lock home all value owner' u in
            each_snoc F left_knows right
            (each_set F knows id left (λ t e. let no : None ≡ Some t = sym idle ∙ e in cc) (λ j u _ e. h.by_lock j u e))
            (λ t e. let no : None ≡ Some t = e in cc);
        lists = let F : ℕ → Known T W E → Type 0 = OwnsLists Fit entries about lock home all value owner' in
            each_snoc F left_knows right
            (each_set F knows id left
            (λ n has. let f = first_names n k.lists has in
            let o = h.lists id k at n f.1 in
            (o.0, o.1, stays n (subst (λ (m : ℕ). names m (others k.lists) ≡ false) f.0 alone) ∙ o.2, o.3 ∙ f.2))
            (λ j u other e n has. let o = h.lists j u e n has in
            let not_split : names n (others k.lists) ≡ false = ⊎_elim
            (λ s. absurd (other (sym o.2 ∙ (h.lists id k at n (others_names n k.lists alone s).0).2)))
            (λ s. s) (holds_or_not (names n (others k.lists))) in
            (o.0, o.1, stays n not_split ∙ o.2, o.3)))
            (λ n has. let f = others_names n k.lists alone has in
            let o = h.lists id k at n f.0 in
            (o.0, o.1, goes n has, o.3 ∙ f.1));
        distinct = let F : ℕ → Known T W E → Type 0 = λ _ u. AreDistinct u.lists in
            each_snoc F left_knows right
            (each_set F knows id left (distinct_first k.lists) (λ j u _ e. h.distinct j u e))
            (distinct_others k.lists (h.distinct id k at));
      }

  pub splits : (id : ℕ) (k : Known T W E) → k.taken ≡ None → names (number k) (others k.lists) ≡ false → Splits (Kept Fit entries about) id k (first_only k) (rest_only k)
  splits id k idle alone s kept at = record {
    words = kept.words;
    value = kept.value;
    owner = λ n. cond (names n (others k.lists)) (length (set s.views id (first_only k))) (kept.owner n);
    holds = split_off (slice_index s.words 8) (get_elem? s.homes 0) s.views kept.value kept.owner id k kept.holds at idle alone;
  }
