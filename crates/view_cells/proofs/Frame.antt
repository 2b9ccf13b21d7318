-- What every kind of step's proof uses: facts about the views of all seats, and what the rule says of a seat that holds nothing.
use Rattle.std.proofs.Common.{◌≡◌, ◌≢◌, ◌⊎◌, ℕ, zero, suc, ◌+◌, ◌-◌, true, List, [], ◌∷◌, ◌++◌, length, set, sym, refl, ap, ◌∙◌, subst, inl, inr, ⊎_elim, arith, Some, None}
use mathlib.Core.Option.{some, some-injective, some-ne-none}
use lib.ListN.{get_elem?}
use Rattle.atomic_table.specs.Table.{Me, rest}
use Rattle.atomic_table.proofs.Lists.{at_set, set_else}
use Rattle.view_cells.specs.declared.board.Setting.{Setting}
use Rattle.view_cells.specs.declared.board.Known.{Known}
use Rattle.view_cells.specs.Lists.{names}
use Rattle.view_cells.specs.Rule.{number, Holds}
use Rattle.view_cells.specs.Steps.{HasAllSeats, NamesASeat}

module _ {A : Type 0} where
  -- F holds of each element, with its place
  abbrev pub Each : (ℕ → A → Type 0) → List A → Type 0
  Each F xs = (j : ℕ) (x : A) → get_elem? xs j ≡ some x → F j x

  pub each_set : (F : ℕ → A → Type 0) (xs : List A) (i : ℕ) (a : A) → F i a → ((j : ℕ) (x : A) → j ≢ i → get_elem? xs j ≡ some x → F j x) → Each F (set xs i a)
  each_set F xs i a mine others j x e = ⊎_elim (λ (c : (j ≡ i) × (a ≡ x)). subst (λ (y : ℕ × A). F y.0 y.1) (λ t. (sym c.0 t, c.1 t)) mine)
      (λ (c : (j ≢ i) × (get_elem? xs j ≡ some x)). others j x c.0 c.1) (at_set xs i j a x e)

  at_end : (xs : List A) (a : A) (j : ℕ) (x : A) → get_elem? (xs ++ a ∷ []) j ≡ some x → (get_elem? xs j ≡ some x) ⊎ ((j ≡ length xs) × (a ≡ x))
  at_end [] a zero x e = inr (refl, some-injective a x e)
  at_end [] a (suc j) x e = absurd (some-ne-none x (sym e))
  at_end (y ∷ ys) a zero x e = inl e
  at_end (y ∷ ys) a (suc j) x e = ⊎_elim (λ s. inl s) (λ s. inr (ap suc s.0, s.1)) (at_end ys a j x e)

  pub each_snoc : (F : ℕ → A → Type 0) (xs : List A) (a : A) → Each F xs → F (length xs) a → Each F (xs ++ a ∷ [])
  each_snoc F xs a all last j x e = ⊎_elim (λ c. all j x c) (λ (c : (j ≡ length xs) × (a ≡ x)). subst (λ (y : ℕ × A). F y.0 y.1) (λ t. (sym c.0 t, c.1 t)) last) (at_end xs a j x e)

  pub at_set_same : (xs : List A) (i : ℕ) (a b : A) → get_elem? xs i ≡ some b → get_elem? (set xs i a) i ≡ some a
  at_set_same [] i a b e = absurd (some-ne-none b (sym e))
  at_set_same (x ∷ xs) zero a b e = refl
  at_set_same (x ∷ xs) (suc i) a b e = at_set_same xs i a b e

  pub one_there : (xs : List A) (i : ℕ) (a b : A) → get_elem? xs i ≡ some a → get_elem? xs i ≡ some b → a ≡ b
  one_there xs i a b p q = some-injective a b (sym p ∙ q)

module _ {T W E : Type 0} where
  -- the seat that has taken a value stays, whatever an idle seat comes to know
  pub taker_stays : (knows : List (Known T W E)) (value : T) (id : ℕ) (k : Known T W E) → get_elem? knows id ≡ some k → k.taken ≡ None
      → (w : Known T W E) (j : ℕ) (u : Known T W E) → get_elem? knows j ≡ some u → u.taken ≡ Some value → get_elem? (set knows id w) j ≡ some u
  taker_stays knows value id k at idle w j u there took = set_else knows id j w (λ e.
      let same : u ≡ k = one_there knows id u k (subst (λ (i : ℕ). get_elem? knows i ≡ some u) e there) at in
      let no : Some value ≡ None = sym took ∙ ap (λ (x : Known T W E). x.taken) same ∙ idle in cc) ∙ there

module _ {T W E : Type 0} (Fit : W → T → Type 0) (entries : T → ℕ → List E) (about : Setting W) where
  module _ (lock : ℕ) (home : _) (knows : List (Known T W E)) (value : T) (owner : ℕ → ℕ) (h : Holds Fit entries about lock home knows value owner) (id : ℕ) (k : Known T W E) (at : get_elem? knows id ≡ some k) where
    -- a number of an idle seat isn't the one that the lock word names
    pub not_by_idle : k.taken ≡ None → (n : ℕ) → names n k.lists ≡ true → lock ≢ n + 1
    not_by_idle idle n has is =
        let t = h.if_locked (λ z. omega arith) in
        let same : lock - 1 ≡ n = omega arith in
        let here : owner (lock - 1) ≡ id = ap owner same ∙ (h.lists id k at n has).2 in
        let e : t.0 ≡ k = one_there knows id t.0 k (subst (λ (j : ℕ). get_elem? knows j ≡ some t.0) here t.1) at in
        let no : Some value ≡ None = sym t.3 ∙ ap (λ (u : Known T W E). u.taken) e ∙ idle in
        cc

    -- what the seat was told is what the table was told
    pub told : (n : ℕ) → names n k.lists ≡ true → (setting : Setting W) → k.setting ≡ Some setting → setting ≡ about
    told n has setting is = let e : Some setting ≡ Some about = sym is ∙ (h.lists id k at n has).0 in cc

    -- the lock word names a seat of the table
    pub names_a_seat : (n : ℕ) → names n k.lists ≡ true → lock ≢ 0 → NamesASeat k lock
    names_a_seat n has locked setting is =
        let t = h.if_locked locked in
        let b = h.by_lock (owner (lock - 1)) t.0 t.1 value t.3 in
        let few = (h.lists (owner (lock - 1)) t.0 t.1 (number t.0) b.2).1 in
        let e : setting.seats ≡ about.seats = ap (λ (x : Setting W). x.seats) (told n has setting is) in
        let word = t.2 in
        omega arith

    -- a seat that has all numbers finds the value at home
    pub sole_finds : k.taken ≡ None → (n : ℕ) → names n k.lists ≡ true → HasAllSeats k → Dec (lock ≡ 0) → lock ≡ 0
    sole_finds idle n has all (yes z) = z
    sole_finds idle n has all (no z) =
        let setting = (h.lists id k at n has).0 in
        let few = names_a_seat n has z about setting in
        let named = all about setting (lock - 1) (omega arith) in
        absurd (not_by_idle idle (lock - 1) named (omega arith))

module _ {S V : Type 0} where
  -- a seat that has taken one slot can read and write it
  pub has_slot : (me : Me S V) (v : V) (slot : ℕ) (x : S) → me ≡ (v, (slot, x) ∷ []) → (y : S) × (me.1 ≡ (slot, y) ∷ rest me.1)
  has_slot me v slot x is = (x, ap (λ (m : Me S V). m.1) is ∙ sym (ap (λ (m : Me S V). (slot, x) ∷ rest m.1) is))
