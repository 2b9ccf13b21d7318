-- Taking the value keeps the rule, and tells that it fits; a try that fails changes nothing.
use Rattle.std.proofs.Common.{◌≡◌, ℕ, ◌+◌, ◌-◌, true, List, [], ◌∷◌, length, get_or, set, sym, refl, ap, ◌∙◌, subst, arith, length-set, get_or-set_same, Option, Some, None}
use mathlib.Core.Option.{some}
use mathlib.Core.Option as maybe
use native.Mathlib.Decide.{ℕ_discrete}
use lib.ListN.{get_elem?}
use prog.Atomic.{either}
use Rattle.std.specs.Prelude.{◌==◌, slice_index}
use Rattle.atomic_table.specs.Table.{State, Me, Allows, Act, keeps, takes, step, stepped, Valid, carried_after}
use Rattle.atomic_table.proofs.Lists.{exchanged}
use Rattle.view_cells.specs.declared.board.Setting.{Setting}
use Rattle.view_cells.specs.declared.board.Known.{Known}
use Rattle.view_cells.specs.Lists.{names, AreDistinct}
use Rattle.view_cells.specs.Rule.{number, Holds, Kept, HoldsByLock, OwnsLists}
use Rattle.view_cells.specs.Steps.{IsLent, Took, looked}
use Rattle.view_cells.proofs.Frame.{each_set, at_set_same, not_by_idle, taker_stays, told, names_a_seat, sole_finds}

module _ {T W E : Type 0} (Fit : W → T → Type 0) (entries : T → ℕ → List E) (about : Setting W) where
  abbrev M : Type 0
  M = Me (Option T) (Known T W E)

  -- the value goes from its cell to the seat
  pub taken_out : (home away : maybe.Option (maybe.Option (Option T))) (knows : List (Known T W E)) (value : T) (owner : ℕ → ℕ) (id : ℕ) (k : Known T W E)
      → Holds Fit entries about 0 home knows value owner → get_elem? knows id ≡ some k → names (number k) k.lists ≡ true
      → Holds Fit entries about (number k + 1) away (set knows id (record (looked k 0) { taken = Some value })) value owner
  taken_out home away knows value owner id k h at has =
      let w : Known T W E = record (looked k 0) { taken = Some value } in
      let here : owner (number k + 1 - 1) ≡ id = ap owner (omega arith) ∙ (h.lists id k at (number k) has).2 in
      record {
        value_fits = h.value_fits;
        at_home = λ z. absurd (omega arith);
        if_locked = λ _. (w, subst (λ (j : ℕ). get_elem? (set knows id w) j ≡ some w) (sym here) (at_set_same knows id w k at), refl, refl);
        by_lock = each_set (λ _ u. HoldsByLock Fit entries about (number k + 1) away (set knows id w) value owner u) knows id w
            (λ t e. (let same : Some t ≡ Some value = sym e in cc, refl, has))
            (λ j u _ e t is. let b = (h.by_lock j u e t is).1 in absurd (omega arith));
        lists = each_set (OwnsLists Fit entries about (number k + 1) away (set knows id w) value owner) knows id w (h.lists id k at) (λ j u _ e. h.lists j u e);
        distinct = each_set (λ _ (u : Known T W E). AreDistinct u.lists) knows id w (h.distinct id k at) (λ j u _ e. h.distinct j u e);
      }

  -- a try that finds the value taken changes nothing but what the seat knows of its tries
  pub found_taken : (lock : ℕ) (home : maybe.Option (maybe.Option (Option T))) (knows : List (Known T W E)) (value : T) (owner : ℕ → ℕ) (id : ℕ) (k : Known T W E)
      → Holds Fit entries about lock home knows value owner → get_elem? knows id ≡ some k → k.taken ≡ None
      → Holds Fit entries about lock home (set knows id (looked k lock)) value owner
  found_taken lock home knows value owner id k h at idle =
      let w : Known T W E = looked k lock in
      record {
        value_fits = h.value_fits;
        at_home = h.at_home;
        if_locked = λ z. let t = h.if_locked z in (t.0, taker_stays knows value id k at idle w (owner (lock - 1)) t.0 t.1 t.3, t.2, t.3);
        by_lock = each_set (λ _ u. HoldsByLock Fit entries about lock home (set knows id w) value owner u) knows id w (h.by_lock id k at) (λ j u _ e. h.by_lock j u e);
        lists = each_set (OwnsLists Fit entries about lock home (set knows id w) value owner) knows id w (h.lists id k at) (λ j u _ e. h.lists j u e);
        distinct = each_set (λ _ (u : Known T W E). AreDistinct u.lists) knows id w (h.distinct id k at) (λ j u _ e. h.distinct j u e);
      }

  -- what the seat is lent fits what it was told
  pub lent : (lock : ℕ) (home : maybe.Option (maybe.Option (Option T))) (knows : List (Known T W E)) (value : T) (owner : ℕ → ℕ) (id : ℕ) (k : Known T W E)
      → Holds Fit entries about lock home knows value owner → get_elem? knows id ≡ some k → (n : ℕ) → names n k.lists ≡ true → IsLent Fit entries k value
  lent lock home knows value owner id k h at n has = record {
    fits = λ setting is. subst (λ (x : Setting W). Fit x.view.value value) (sym (told Fit entries about lock home knows value owner h id k at n has setting is)) h.value_fits;
    lists = λ m has'. (h.lists id k at m has').3;
  }

  abbrev Goes : ℕ → ℕ → M → ℕ → State (Option T) (Known T W E) → ℕ → Type 0
  Goes slots id me new s x = (w : Known T W E) × (a : Act (Option T)) × Valid s.homes me.1 a × Kept Fit entries about (stepped s 8 x id me.1 w a)
      × Took Fit entries (step slots 8 0 new maybe.none) me (slice_index s.words 8) (w, carried_after me.1 a)

  pub takes_or_not : (slots id : ℕ) (me : M) (new : ℕ) → new ≡ number me.0 + 1 → me.0.taken ≡ None → me.1 ≡ [] → names (number me.0) me.0.lists ≡ true
      → Allows (Kept Fit entries about) slots id me 8 (λ n. either (n == 0) new n) (Took Fit entries (step slots 8 0 new maybe.none) me)
  takes_or_not slots id me new is idle bare has s kept deep at small =
      let lock : ℕ = slice_index s.words 8 in
      let home : maybe.Option (maybe.Option (Option T)) = get_elem? s.homes 0 in
      let k : Known T W E = me.0 in
      let v : T = kept.value in
      let h = kept.holds in
      let lent' = lent lock home s.views v kept.owner id k h at (number k) has in
      let wide : (x : ℕ) → length (set s.words 8 x) ≡ 16 = λ x. length-set s.words 8 x ∙ kept.words in
      let long = kept.words in
      let word : (x : ℕ) → get_or (set s.words 8 x) 8 0 ≡ x = λ x. get_or-set_same s.words 8 x 0 (omega arith) in
      let sole = sole_finds Fit entries about lock home s.views v kept.owner h id k at idle (number k) has in
      exchanged lock 0 new (Goes slots id me new s)
      (λ free. (
        record (looked k 0) { taken = Some v },
        takes 0 (Some v),
        h.at_home free,
        record {
          words = wide new;
          value = v;
          owner = kept.owner;
          holds = subst (λ (l : ℕ). Holds Fit entries about l (get_elem? (set s.homes 0 maybe.none) 0) (set s.views id (record (looked k 0) { taken = Some v })) v kept.owner) (sym (word new ∙ is))
              (taken_out home (get_elem? (set s.homes 0 maybe.none) 0) s.views v kept.owner id k (subst (λ (l : ℕ). Holds Fit entries about l home s.views v kept.owner) free h) at has);
        },
        record {
          free = λ _. (v, ap (λ (c : List (ℕ × Option T)). (record (looked k 0) { taken = Some v }, (0, Some v) ∷ c)) bare, lent');
          busy = λ n. absurd (n free);
          sole = λ _. free;
          distinct = h.distinct id k at;
        },
      ))
      (λ locked. (
        looked k lock,
        keeps,
        tt,
        record {
          words = wide lock;
          value = v;
          owner = kept.owner;
          holds = subst (λ (l : ℕ). Holds Fit entries about l home (set s.views id (looked k lock)) v kept.owner) (sym (word lock))
              (found_taken lock home s.views v kept.owner id k h at idle);
        },
        record {
          free = λ z. absurd (locked z);
          busy = λ _. (
            refl,
            not_by_idle Fit entries about lock home s.views v kept.owner h id k at idle (number k) has,
            names_a_seat Fit entries about lock home s.views v kept.owner h id k at (number k) has locked,
          );
          sole = λ all. sole all (ℕ_discrete lock 0);
          distinct = h.distinct id k at;
        },
      ))
