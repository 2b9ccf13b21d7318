-- A table keeps the rule as it is made, where its value fits and keeps no entries.
use Rattle.std.proofs.Common.{◌≡◌, ℕ, zero, suc, List, [], ◌∷◌, length, sym, refl, ◌∙◌, subst, arith, Option, Some, None}
use mathlib.Core.Option.{some, some-injective, some-ne-none}
use Rattle.std.specs.Prelude.{slice_index}
use Rattle.atomic_table.specs.Table.{opening}
use Rattle.view_cells.specs.declared.board.Setting.{Setting}
use Rattle.view_cells.specs.declared.board.Known.{Known}
use Rattle.view_cells.specs.Rule.{Kept, HoldsByLock, OwnsLists, opened}
use Rattle.view_cells.specs.Lists.{AreDistinct}
use Rattle.view_cells.proofs.Numbers.{blank_names, blank_entries, blank_distinct}
use Rattle.view_cells.proofs.Frame.{Each}

each_one : {A : Type 0} (F : ℕ → A → Type 0) (a : A) → F 0 a → Each F (a ∷ [])
each_one F a mine zero x e = subst (F 0) (some-injective a x e) mine
each_one F a mine (suc j) x e = absurd (some-ne-none x (sym e))

module _ {T W E : Type 0} (Fit : W → T → Type 0) (entries : T → ℕ → List E) (about : Setting W) where
  one_value : (words : List ℕ) (value : T) → length words ≡ 16 → slice_index words 8 ≡ 0 → Fit about.view.value value → ((n : ℕ) → entries value n ≡ [])
      → Kept Fit entries about (opening words (Some value ∷ []) (opened about))
  one_value words value long free fits none = let knows : List (Known T W E) = opened about ∷ [] in let owner : ℕ → ℕ = λ _. 0 in record {
    words = long;
    value = value;
    owner = owner;
    holds = record {
      value_fits = fits;
      at_home = λ _. refl;
      if_locked = λ locked. absurd (locked free);
      by_lock = each_one (λ _ u. HoldsByLock Fit entries about (slice_index words 8) (some (some (Some value))) knows value owner u) (opened about) (λ t e. let no : None ≡ Some t = e in cc);
      lists = each_one (OwnsLists Fit entries about (slice_index words 8) (some (some (Some value))) knows value owner) (opened about)
          (λ n has. (refl, (let t = blank_names E n 0 about.seats has in omega arith), refl, none n ∙ sym (blank_entries n 0 about.seats)));
      distinct = each_one (λ _ (u : Known T W E). AreDistinct u.lists) (opened about) (blank_distinct E 0 about.seats);
    };
  }

  pub opens : (words : List ℕ) (slots : List (Option T)) (value : T) (view : W) → length words ≡ 16 → slice_index words 8 ≡ 0 → slots ≡ Some value ∷ [] → about.view.value ≡ view → Fit view value
      → ((n : ℕ) → entries value n ≡ []) → Kept Fit entries about (opening words slots (opened about))
  opens words slots value view long free one shows fits none =
      subst (λ (xs : List (Option T)). Kept Fit entries about (opening words xs (opened about))) (sym one) (one_value words value long free (subst (λ (w : W). Fit w value) (sym shows) fits) none)
