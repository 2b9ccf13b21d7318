-- The row of passes, one by one.
use Rattle.std.proofs.Common.{◌≡◌, ◌⊎◌, ℕ, zero, suc, ◌+◌, List, [], ◌∷◌, ◌++◌, length, refl, sym, ap, ◌∙◌, inl, inr, ⊎_elim, subst, Some, None}
use Rattle.std.specs.Prelude.{slice_get}
use Rattle.searcher_table.specs.declared.pass.Pass.{Pass}
use Rattle.searcher_table.specs.declared.registrar.Registrar.{Registrar}
use Rattle.searcher_table.specs.Making.{IsNewPass, ArePassesOf, HasDealt}

pub got_last : {A : Type 0} (xs : List A) (a x : A) (i : ℕ) → slice_get (xs ++ a ∷ []) i ≡ Some x → (slice_get xs i ≡ Some x) ⊎ ((i ≡ length xs) × (a ≡ x))
got_last [] a x zero e = inr (refl, (let p : Some a ≡ Some x = e in cc))
got_last [] a x (suc i) e = let p : None ≡ Some x = e in absurd (cc)
got_last (y ∷ ys) a x zero e = inl e
got_last (y ∷ ys) a x (suc i) e = ⊎_elim (λ s. inl s) (λ s. inr (ap suc s.0, s.1)) (got_last ys a x i e)

pub got_here : {A : Type 0} (xs : List A) (a : A) → slice_get (xs ++ a ∷ []) (length xs) ≡ Some a
got_here [] a = refl
got_here (x ∷ xs) a = got_here xs a

pub got_before : {A : Type 0} (xs ys : List A) (i : ℕ) (x : A) → slice_get xs i ≡ Some x → slice_get (xs ++ ys) i ≡ Some x
got_before [] ys i x e = let p : None ≡ Some x = e in absurd (cc)
got_before (a ∷ xs) ys zero x e = e
got_before (a ∷ xs) ys (suc i) x e = got_before xs ys i x e

-- what holds of each and of the last holds of each
pub each_and_last : {A : Type 0} (P : A → Type 0) (xs : List A) (a : A) → ((i : ℕ) (x : A) → slice_get xs i ≡ Some x → P x) → P a → (i : ℕ) (x : A) → slice_get (xs ++ a ∷ []) i ≡ Some x → P x
each_and_last P xs a all last i x e = ⊎_elim (λ was. all i x was) (λ (it : (i ≡ length xs) × (a ≡ x)). subst P it.1 last) (got_last xs a x i e)

module _ {D U W X L : Type 0} where
  -- the registrar stays what it was to a pass that was dealt
  same_registrar : (r s : Registrar D U W X L) (c : ℕ) (t : Pass D U W X L) → HasDealt r s → IsNewPass r c t → IsNewPass s c t
  same_registrar r s c t d n = record {
    table = n.table ∙ sym d.registrar.table;
    plan = n.plan ∙ sym d.registrar.plan;
    caller = n.caller;
    seen = n.seen;
    mine = n.mine;
    announced = n.announced;
    steps = n.steps;
  }

  pub one_more : (r s : Registrar D U W X L) (passes : List (Pass D U W X L)) (t : Pass D U W X L) → ArePassesOf r passes → HasDealt r s → IsNewPass s (length passes + 1) t → ArePassesOf s (passes ++ t ∷ [])
  one_more r s passes t all d new = record {
    dealt = λ i x e. ⊎_elim
        (λ was. same_registrar r s (i + 1) x d (all.dealt i x was))
        (λ (it : (i ≡ length passes) × (t ≡ x)). subst (λ (y : ℕ × Pass D U W X L). IsNewPass s (y.0 + 1) y.1) (λ j. (sym it.0 j, it.1 j)) new)
        (got_last passes t x i e);
    opening = d.seen ∙ all.opening;
  }
