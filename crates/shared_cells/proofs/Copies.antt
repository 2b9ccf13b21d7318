-- Keys of numbers, one after the other.
use Rattle.std.proofs.Common.{◌≡◌, ℕ, zero, suc, ◌+◌, ◌<◌, List, [], ◌∷◌, ◌++◌, length, Option, Some, None, slice_get, refl, true≢false, sym, ap, ◌∙◌, arith, get_or, take}
use Rattle.std.specs.Prelude.{IsSome, option_map, option_and_then}
use Rattle.std.proofs.lemmas.Option.{none-some}
use Rattle.std.proofs.lemmas.List.{take_more}
use Rattle.cache_traces.specs.Named.{all_named}

module _ {K : Type 0} (keys : List K) where
  -- the key of the first number, and those of the others
  record Split (m : ℕ) (ns : List ℕ) (ks : List K) : Type 0 where
    first : K
    rest : List K
    first_is : slice_get keys m ≡ Some first
    rest_are : all_named keys ns ≡ Some rest
    whole : ks ≡ first ∷ rest

  split : (m : ℕ) (ns : List ℕ) (ks : List K) → all_named keys (m ∷ ns) ≡ Some ks → Split m ns ks
  split m ns ks h = by (slice_get keys m) (all_named keys ns) refl refl h
    where
      by : (o : Option K) (p : Option (List K)) → slice_get keys m ≡ o → all_named keys ns ≡ p → option_and_then (λ k. option_map (λ l. k ∷ l) p) o ≡ Some ks → Split m ns ks
      by None p a b e = absurd (none-some ks e)
      by (Some j) None a b e = absurd (none-some ks e)
      by (Some j) (Some js) a b e = record { first = j; rest = js; first_is = a; rest_are = b; whole = cc }

  then_named : (ns : List ℕ) (ks : List K) (n : ℕ) (k : K) → all_named keys ns ≡ Some ks → slice_get keys n ≡ Some k → all_named keys (ns ++ n ∷ []) ≡ Some (ks ++ k ∷ [])
  then_named [] ks n k h is =
      let none : [] ≡ ks = cc in
      ap (λ o. option_and_then (λ j. option_map (λ l. j ∷ l) (all_named keys [])) o) is ∙ ap (λ l. Some (l ++ k ∷ [])) none
  then_named (m ∷ ns) ks n k h is =
      let s = split m ns ks h in
      (λ i. option_and_then (λ j. option_map (λ l. j ∷ l) (then_named ns s.rest n k s.rest_are is i)) (s.first_is i)) ∙ ap (λ l. Some (l ++ k ∷ [])) (sym s.whole)

  below : (ls : List K) (n : ℕ) (k : K) → slice_get ls n ≡ Some k → n < length ls
  below [] n k is = absurd (none-some k is)
  below (l ∷ ls) zero k is = omega arith
  below (l ∷ ls) (suc n) k is = let rest = below ls n k is in omega arith

  -- each number is a key's
  each_named : (ns : List ℕ) (ks : List K) (i : ℕ) (d : ℕ) → all_named keys ns ≡ Some ks → i < length ns → get_or ns i d < length keys
  each_named [] ks i d h few = absurd (omega arith)
  each_named (m ∷ ns) ks zero d h few = let s = split m ns ks h in below keys m s.first s.first_is
  each_named (m ∷ ns) ks (suc i) d h few = let s = split m ns ks h in each_named ns s.rest i d s.rest_are (omega arith)

  some_named : (ns : List ℕ) → IsSome (all_named keys ns) → (ks : List K) × (all_named keys ns ≡ Some ks)
  some_named ns h = by (all_named keys ns) h
    where
      by : (o : Option (List K)) → IsSome o → (ks : List K) × (o ≡ Some ks)
      by None e = absurd (true≢false (sym e))
      by (Some ks) e = (ks, refl)

  pub number_within : (ns : List ℕ) (i : ℕ) (d : ℕ) → IsSome (all_named keys ns) → i < length ns → get_or ns i d < length keys
  number_within ns i d h few = let ks = some_named ns h in each_named ns ks.0 i d ks.1 few

  -- one more
  pub one_further : (ns : List ℕ) (i : ℕ) (d : ℕ) (ks : List K) (k : K) → i < length ns → all_named keys (take i ns) ≡ Some ks → slice_get keys (get_or ns i d) ≡ Some k → all_named keys (take (i + 1) ns) ≡ Some (ks ++ k ∷ [])
  one_further ns i d ks k few h is = ap (all_named keys) (take_more ns i d few) ∙ then_named (take i ns) ks (get_or ns i d) k h is
