-- The pullers of a new queue, dealt one after the other.
use Rattle.std.proofs.Common.{◌≡◌, ◌⊎◌, ℕ, zero, suc, ◌+◌, List, [], ◌∷◌, ◌++◌, length, sym, refl, ap, ◌∙◌, subst, inl, inr, ⊎_elim, length-append, Some, None}
use Rattle.std.specs.Prelude.{slice_get}
use Rattle.atomic_table.specs.Seated.{TableId}
use Rattle.warming_jobs.specs.declared.puller.Puller.{Puller}
use Rattle.warming_jobs.specs.Making.{IsNewPuller, AreNewPullers}

at_the_end : {A : Type 0} (xs : List A) (a x : A) (i : ℕ) → slice_get (xs ++ a ∷ []) i ≡ Some x → (slice_get xs i ≡ Some x) ⊎ ((i ≡ length xs) × (a ≡ x))
at_the_end [] a x zero e = inr (refl, (let p : Some a ≡ Some x = e in cc))
at_the_end [] a x (suc i) e = let p : None ≡ Some x = e in absurd (cc)
at_the_end (y ∷ ys) a x zero e = inl e
at_the_end (y ∷ ys) a x (suc i) e = ⊎_elim (λ s. inl s) (λ s. inr (ap suc s.0, s.1)) (at_the_end ys a x i e)

module _ {J : Type 0} (id : TableId) where
  pub one_dealt : (n : ℕ) (ps ps' : List (Puller J)) (p : Puller J) → ps' ≡ ps ++ p ∷ [] → AreNewPullers id n ps → IsNewPuller id n p → AreNewPullers id (n + 1) ps'
  one_dealt n ps ps' p e made new = record {
    count = ap length e ∙ length-append ps (p ∷ []) ∙ ap (λ (m : ℕ). m + 1) made.count;
    each = λ i q got. ⊎_elim (λ old. made.each i q old)
        (λ (it : (i ≡ length ps) × (p ≡ q)). subst (λ (y : ℕ × Puller J). IsNewPuller id y.0 y.1) (λ t. (sym (it.0 ∙ made.count) t, it.1 t)) new)
        (at_the_end ps p q i (sym (ap (λ l. slice_get l i) e) ∙ got));
  }
