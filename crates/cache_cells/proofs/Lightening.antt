-- Entries that are dropped from the end until the rest is light enough.
use Rattle.std.proofs.Common.{◌≡◌, ℕ, zero, suc, ◌+◌, ◌-◌, ◌≤◌, ◌<◌, true, false, List, [], ◌∷◌, length, take, drop, cond, Some, None, refl, sym, ap, subst, ◌∙◌, arith}
use Rattle.std.specs.Prelude.{slice_get, nat_le}
use Rattle.std.proofs.lemmas.Bool.Decides.{nat_tests}
use Rattle.cache_machine.specs.Machine.{light_front}
use Rattle.cache_machine.specs.Laws.{weight_of}
use Rattle.cache_cells.specs.Bounded.{first_with}

module _ {K V : Type 0} (w : V → ℕ) where
  -- entries that are light enough all stay
  pub light_front-whole : (most : ℕ) (es : List (K × V)) → weight_of w es ≤ most → light_front w most es ≡ es
  light_front-whole most [] light = refl
  light_front-whole most (e ∷ es) light =
      (elim (nat_le (w e.1) most) as (λ b. nat_le (w e.1) most ≡ b → cond b (e ∷ light_front w (most - w e.1) es) [] ≡ e ∷ es) [
        | true ↦ λ h. ap (λ l. e ∷ l) (light_front-whole (most - w e.1) es (omega arith))
        | false ↦ λ h. absurd (grind (arith, nat_tests))
      ]) refl

  -- the last of entries that are too heavy does not stay
  pub light_front-last : (most n : ℕ) (es : List (K × V)) → length es ≡ suc n → most < weight_of w es → light_front w most (take n es) ≡ light_front w most es
  light_front-last most n [] is heavy = absurd (omega arith)
  light_front-last most zero (e ∷ f ∷ es) is heavy = absurd (omega arith)
  light_front-last most zero (e ∷ []) is heavy =
      (elim (nat_le (w e.1) most) as (λ b. nat_le (w e.1) most ≡ b → [] ≡ cond b (e ∷ light_front w (most - w e.1) []) []) [
        | true ↦ λ h. absurd (grind (arith, nat_tests))
        | false ↦ λ h. refl
      ]) refl
  light_front-last most (suc n) (e ∷ es) is heavy =
      (elim (nat_le (w e.1) most) as (λ b. nat_le (w e.1) most ≡ b → cond b (e ∷ light_front w (most - w e.1) (take n es)) [] ≡ cond b (e ∷ light_front w (most - w e.1) es) []) [
        | true ↦ λ h. ap (λ l. e ∷ l) (light_front-last (most - w e.1) n es (omega arith) (grind (arith, nat_tests)))
        | false ↦ λ h. refl
      ]) refl

  pub heavy-some : (most : ℕ) (es : List (K × V)) → most < weight_of w es → 0 < length es
  heavy-some most [] heavy = absurd (omega arith)
  heavy-some most (e ∷ es) heavy = omega arith

  -- the last entry and those before it weigh what all do
  pub weight-front : (n : ℕ) (es : List (K × V)) (e : K × V) → length es ≡ suc n → slice_get es n ≡ Some e → w e.1 + weight_of w (take n es) ≡ weight_of w es
  weight-front n [] e is h = cc
  weight-front zero (f ∷ g ∷ es) e is h = absurd (omega arith)
  weight-front zero (f ∷ []) e is h = (let it : f ≡ e = cc in subst (λ (g : K × V). w g.1 + 0 ≡ w f.1 + 0) it refl)
  weight-front (suc n) (f ∷ es) e is h = (let rest = weight-front n es e (omega arith) h in omega arith)

module _ {X : Type 0} where
  pub first-front : (n : ℕ) (es : List X) → take 1 (take (suc n) es) ≡ take 1 es
  first-front n [] = refl
  first-front n (e ∷ es) = refl

  pub rest-front : (n : ℕ) (es : List X) → drop 1 (take (suc n) es) ≡ take n (drop 1 es)
  rest-front zero [] = refl
  rest-front (suc n) [] = refl
  rest-front n (e ∷ es) = refl

  pub some-front : (n : ℕ) (es : List X) → 0 < length es → 0 < length (take (suc n) es)
  some-front n [] some = some
  some-front n (e ∷ es) some = omega arith

  pub last-some : (n : ℕ) (es : List X) → n < length es → slice_get es n ≡ None → ⊥
  last-some n [] some none = omega arith
  last-some zero (e ∷ es) some none = cc
  last-some (suc n) (e ∷ es) some none = last-some n es (omega arith) none

  pub get-rest : (n : ℕ) (es : List X) → slice_get es (suc n) ≡ slice_get (drop 1 es) n
  get-rest n [] = refl
  get-rest n (e ∷ es) = refl

  pub length-drop_one : (n : ℕ) (es : List X) → length es ≡ suc n → length (drop 1 es) ≡ n
  length-drop_one n [] is = omega arith
  length-drop_one n (e ∷ es) is = omega arith

  -- a list of two or more, by the number of those between its ends
  pub between-ends : (es : List X) → 1 < length es → (n : ℕ) × (length es ≡ suc (suc n))
  between-ends es long = (length es - 2, omega arith)

  pub length-rest : (es : List X) → 0 < length (drop 1 es) → 1 < length es
  length-rest [] some = absurd (omega arith)
  length-rest (e ∷ es) some = omega arith

  pub first_with-same : (f : List X → List X) (es fs : List X) → 0 < length es → take 1 es ≡ take 1 fs → drop 1 es ≡ f (drop 1 fs) → es ≡ first_with f fs
  first_with-same f [] fs some first rest = absurd (omega arith)
  first_with-same f (e ∷ es) [] some first rest = cc
  first_with-same f (e ∷ es) (g ∷ gs) some first rest = (let same : e ≡ g = cc in cc)

module _ {K V : Type 0} (w : V → ℕ) where
  pub heavy-two : (most : ℕ) (es : List (K × V)) → most < weight_of w (drop 1 es) → 1 < length es
  heavy-two most [] heavy = absurd (omega arith)
  heavy-two most (e ∷ es) heavy = (let some = heavy-some w most es heavy in omega arith)

  pub shorter-weighs : (es : List (K × V)) (e : K × V) → 1 < length es → slice_get es (length es - 1) ≡ Some e
      → w e.1 + weight_of w (drop 1 (take (length es - 1) es)) ≡ weight_of w (drop 1 es)
  shorter-weighs es e long last =
      let ends = between-ends es long in
      let one_less : length es - 1 ≡ suc ends.0 = omega arith in
      let at_end : slice_get (drop 1 es) ends.0 ≡ Some e = sym (get-rest ends.0 es) ∙ subst (λ n. slice_get es n ≡ Some e) one_less last in
      let front : drop 1 (take (length es - 1) es) ≡ take ends.0 (drop 1 es) = ap (λ n. drop 1 (take n es)) one_less ∙ rest-front ends.0 es in
      ap (λ fs. w e.1 + weight_of w fs) front ∙ weight-front w ends.0 (drop 1 es) e (length-drop_one (suc ends.0) es ends.1) at_end

  pub shorter-front : (most : ℕ) (es : List (K × V)) → 1 < length es → most < weight_of w (drop 1 es)
      → light_front w most (drop 1 (take (length es - 1) es)) ≡ light_front w most (drop 1 es)
  shorter-front most es long heavy =
      let ends = between-ends es long in
      let one_less : length es - 1 ≡ suc ends.0 = omega arith in
      let front : drop 1 (take (length es - 1) es) ≡ take ends.0 (drop 1 es) = ap (λ n. drop 1 (take n es)) one_less ∙ rest-front ends.0 es in
      ap (light_front w most) front ∙ light_front-last w most ends.0 (drop 1 es) (length-drop_one (suc ends.0) es ends.1) heavy

  pub shorter-first : (es : List (K × V)) → 1 < length es → take 1 (take (length es - 1) es) ≡ take 1 es
  shorter-first es long =
      let ends = between-ends es long in
      let one_less : length es - 1 ≡ suc ends.0 = omega arith in
      ap (λ n. take 1 (take n es)) one_less ∙ first-front ends.0 es

  pub shorter-some : (es : List (K × V)) → 1 < length es → 0 < length (take (length es - 1) es)
  shorter-some es long =
      let ends = between-ends es long in
      let one_less : length es - 1 ≡ suc ends.0 = omega arith in
      subst (λ n. 0 < length (take n es)) (sym one_less) (some-front ends.0 es (omega arith))
