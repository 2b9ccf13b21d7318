-- The longest front of entries within bounds.
use Rattle.std.proofs.Common.{◌≡◌, ℕ, zero, suc, ◌-◌, ◌≤◌, true, false, List, [], ◌∷◌, length, take, cond, Option, Some, None, refl, sym, ap, ◌∙◌, arith}
use Rattle.std.specs.Prelude.{nat_le}
use Rattle.std.proofs.lemmas.List.{length-take, take-take}
use Rattle.std.proofs.Math.Seq.{take-length}
use Rattle.std.proofs.lemmas.Bool.Decides.{nat_tests}
use Rattle.cache_machine.specs.Machine.{light_front, cut}
use Rattle.cache_machine.specs.Laws.{weight_of, IsLongestFront}

module _ {K V : Type 0} (weight : V → ℕ) where
  -- it is a front
  pub light-front : (most : ℕ) (es : List (K × V)) → light_front weight most es ≡ take (length (light_front weight most es)) es
  light-front most [] = refl
  light-front most (e ∷ es) =
      elim (nat_le (weight e.1) most) as (λ t. cond t (e ∷ light_front weight (most - weight e.1) es) [] ≡ take (length (cond t (e ∷ light_front weight (most - weight e.1) es) [])) (e ∷ es)) [
        | true ↦ ap (λ l. e ∷ l) (light-front (most - weight e.1) es)
        | false ↦ refl
      ]

  pub length-light_front : (most : ℕ) (es : List (K × V)) → length (light_front weight most es) ≤ length es
  length-light_front most [] = omega arith
  length-light_front most (e ∷ es) =
      elim (nat_le (weight e.1) most) as (λ t. length (cond t (e ∷ light_front weight (most - weight e.1) es) []) ≤ suc (length es)) [
        | true ↦ (let below = length-light_front (most - weight e.1) es in omega arith)
        | false ↦ omega arith
      ]

  pub light_front-weighs : (most : ℕ) (es : List (K × V)) → weight_of weight (light_front weight most es) ≤ most
  light_front-weighs most [] = omega arith
  light_front-weighs most (e ∷ es) =
      (elim (nat_le (weight e.1) most) as (λ t. nat_le (weight e.1) most ≡ t → weight_of weight (cond t (e ∷ light_front weight (most - weight e.1) es) []) ≤ most) [
        | true ↦ λ h. (let below = light_front-weighs (most - weight e.1) es in grind (arith, nat_tests, below))
        | false ↦ λ h. omega arith
      ]) refl

  pub light_front-longest : (most : ℕ) (es : List (K × V)) (n : ℕ) → n ≤ length es → weight_of weight (take n es) ≤ most → n ≤ length (light_front weight most es)
  light_front-longest most [] n short light = omega arith
  light_front-longest most (e ∷ es) zero short light = omega arith
  light_front-longest most (e ∷ es) (suc n) short light =
      (elim (nat_le (weight e.1) most) as (λ t. nat_le (weight e.1) most ≡ t → suc n ≤ length (cond t (e ∷ light_front weight (most - weight e.1) es) [])) [
        | true ↦ λ h. (let in_rest : weight_of weight (take n es) ≤ most - weight e.1 = omega arith in
            let rest = light_front-longest (most - weight e.1) es n (omega arith) in_rest in omega arith)
        | false ↦ λ h. absurd (grind (arith, nat_tests))
      ]) refl

  length-take-most : (n : ℕ) (es : List (K × V)) → length (take n es) ≤ n
  length-take-most n es = rw length-take (omega arith)

  length-take-all : (n : ℕ) (es : List (K × V)) → n ≤ length es → length (take n es) ≡ n
  length-take-all n es short = rw length-take (omega arith)

  pub cut-longest : (size : ℕ) (greatest : Option ℕ) (es : List (K × V)) → IsLongestFront weight size greatest es (cut weight size greatest es)
  cut-longest size None es = record {
    front = (let few : length (take size es) ≤ size = length-take-most size es in let whole : take (length (take size es)) (take size es) ≡ take size es = take-length (take size es) in
        sym whole ∙ take-take (length (take size es)) size es few);
    few = length-take-most size es;
    light = tt;
    longest = λ n small short light. rw length-take (omega arith);
  }
  cut-longest size (Some most) es =
      let front = light_front weight most (take size es) in
      let few : length front ≤ size = (let a = length-light_front most (take size es) in let b = length-take-most size es in omega arith) in
      record {
        front = light-front most (take size es) ∙ take-take (length front) size es few;
        few = few;
        light = light_front-weighs most (take size es);
        longest = λ n small short light. light_front-longest most (take size es) n (rw length-take (omega arith)) (rw (take-take n size es small) light);
      }
