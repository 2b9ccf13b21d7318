-- Keys of entries stay distinct, and so do the keys that seats own.
use Rattle.std.proofs.Common.{◌≡◌, ℕ, zero, suc, ◌+◌, ◌≤◌, Bool, true, false, List, [], ◌∷◌, length, take, cond, set, replicate, Option, Some, None, refl, sym, ap, subst, ◌∙◌, arith}
use Rattle.std.specs.List.{AllByRecursion, IsDistinct, position_from}
use Rattle.std.proofs.lemmas.Map.Keys.{IsDistinct-head, IsDistinct-tail, IsDistinct-cons, IsDistinct-from_apart}
use Rattle.std.specs.Cmp.{IsEquivalence}
use Rattle.std.specs.Option.{option_map_or}
use Rattle.std.specs.Map.{keys_of, lookup_entry, remove_entry}
use Rattle.cache_machine.specs.Machine.{brought_first}
use Rattle.cache_machine.specs.Laws.{weight_of, pending_keys}

module _ {X : Type 0} {P Q : X → Type 0} where
  -- what follows at each element
  pub all_so : ((x : X) → P x → Q x) → (xs : List X) → AllByRecursion P xs → AllByRecursion Q xs
  all_so f [] h = tt
  all_so f (x ∷ xs) h = (f x h.0, all_so f xs h.1)

-- no key is equal to k
abbrev pub Misses : {K : Type 0} → (K → K → Bool) → K → List K → Type 0
Misses eq k ks = AllByRecursion (λ y. eq k y ≡ false) ks

-- a key equal to one that misses
pub misses_like : {K : Type 0} {eq : K → K → Bool} → IsEquivalence eq → (k j : K) (ks : List K) → eq k j ≡ true → Misses eq j ks → Misses eq k ks
misses_like {K} {eq} laws k j ks same h = all_so (λ y e. sym (laws.congr j k y (laws.symm j k ∙ same)) ∙ e) ks h

pub distinct_nil : {K : Type 0} (eq : K → K → Bool) → IsDistinct eq []
distinct_nil eq = IsDistinct-from_apart eq [] (λ i j d before within. absurd (omega arith))

module _ {K V : Type 0} where
  module _ (P : K → Type 0) where
    pub all_removed : (t : K → Bool) (es : List (K × V)) → AllByRecursion P (keys_of es) → AllByRecursion P (keys_of (remove_entry t es))
    all_removed t [] h = tt
    all_removed t (e ∷ es) h = elim (t e.0) as (λ b. AllByRecursion P (keys_of (cond b es (e ∷ remove_entry t es)))) [
      | true ↦ h.1
      | false ↦ (h.0, all_removed t es h.1)
    ]

    pub all_taken : (n : ℕ) (es : List (K × V)) → AllByRecursion P (keys_of es) → AllByRecursion P (keys_of (take n es))
    all_taken zero es h = tt
    all_taken (suc n) [] h = tt
    all_taken (suc n) (e ∷ es) h = (h.0, all_taken n es h.1)

  module _ {eq : K → K → Bool} (laws : IsEquivalence eq) where
    pub distinct_removed : (t : K → Bool) (es : List (K × V)) → IsDistinct eq (keys_of es) → IsDistinct eq (keys_of (remove_entry t es))
    distinct_removed t [] h = h
    distinct_removed t (e ∷ es) h = elim (t e.0) as (λ b. IsDistinct eq (keys_of (cond b es (e ∷ remove_entry t es)))) [
      | true ↦ IsDistinct-tail eq e.0 (keys_of es) h
      | false ↦ IsDistinct-cons eq e.0 (keys_of (remove_entry t es)) (all_removed (λ y. eq e.0 y ≡ false) t es (IsDistinct-head eq e.0 (keys_of es) h)) (distinct_removed t es (IsDistinct-tail eq e.0 (keys_of es) h))
    ]

    pub distinct_taken : (n : ℕ) (es : List (K × V)) → IsDistinct eq (keys_of es) → IsDistinct eq (keys_of (take n es))
    distinct_taken zero es h = distinct_nil eq
    distinct_taken (suc n) [] h = h
    distinct_taken (suc n) (e ∷ es) h =
        IsDistinct-cons eq e.0 (keys_of (take n es)) (all_taken (λ y. eq e.0 y ≡ false) n es (IsDistinct-head eq e.0 (keys_of es) h)) (distinct_taken n es (IsDistinct-tail eq e.0 (keys_of es) h))

    -- without its entry no key is equal to k
    pub removed_misses : (k : K) (es : List (K × V)) → IsDistinct eq (keys_of es) → Misses eq k (keys_of (remove_entry (eq k) es))
    removed_misses k [] h = tt
    removed_misses k (e ∷ es) h =
        (elim (eq k e.0) as (λ b. eq k e.0 ≡ b → Misses eq k (keys_of (cond b es (e ∷ remove_entry (eq k) es)))) [
          | true ↦ λ same. misses_like laws k e.0 (keys_of es) same (IsDistinct-head eq e.0 (keys_of es) h)
          | false ↦ λ apart. (apart, removed_misses k es (IsDistinct-tail eq e.0 (keys_of es) h))
        ]) refl

    -- the entry that a look-up finds has a key equal to k
    pub found_same : (k : K) (es : List (K × V)) (e : K × V) → lookup_entry (eq k) es ≡ Some e → eq k e.0 ≡ true
    found_same k [] e h = cc
    found_same k (f ∷ es) e h =
        (elim (eq k f.0) as (λ b. eq k f.0 ≡ b → cond b (Some f) (lookup_entry (eq k) es) ≡ Some e → eq k e.0 ≡ true) [
          | true ↦ λ same found. (let it : f ≡ e = cc in subst (λ g. eq k g.0 ≡ true) it same)
          | false ↦ λ apart found. found_same k es e found
        ]) refl h

    brought_by : (k : K) (es : List (K × V)) (o : Option (K × V)) → lookup_entry (eq k) es ≡ o → IsDistinct eq (keys_of es)
        → IsDistinct eq (keys_of (option_map_or (λ e. e ∷ remove_entry (eq k) es) o es))
    brought_by k es None found h = h
    brought_by k es (Some e) found h =
        let same : eq k e.0 ≡ true = found_same k es e found in
        IsDistinct-cons eq e.0 (keys_of (remove_entry (eq k) es)) (misses_like laws e.0 k (keys_of (remove_entry (eq k) es)) (laws.symm e.0 k ∙ same) (removed_misses k es h)) (distinct_removed (eq k) es h)

    pub distinct_brought : (k : K) (es : List (K × V)) → IsDistinct eq (keys_of es) → IsDistinct eq (keys_of (brought_first eq k es))
    distinct_brought k es h = brought_by k es (lookup_entry (eq k) es) refl h

    pub distinct_put : (k : K) (v : V) (es : List (K × V)) → IsDistinct eq (keys_of es) → IsDistinct eq (keys_of ((k, v) ∷ remove_entry (eq k) es))
    distinct_put k v es h = IsDistinct-cons eq k (keys_of (remove_entry (eq k) es)) (removed_misses k es h) (distinct_removed (eq k) es h)

  -- ---- how many entries there are, and what they weigh

  module _ (t : K → Bool) where
    pub length-removed : (es : List (K × V)) → length (remove_entry t es) ≤ length es
    length-removed [] = omega arith
    length-removed (e ∷ es) = elim (t e.0) as (λ b. length (cond b es (e ∷ remove_entry t es)) ≤ suc (length es)) [
      | true ↦ omega arith
      | false ↦ (let rest = length-removed es in omega arith)
    ]

    pub length-found : (es : List (K × V)) (e : K × V) → lookup_entry t es ≡ Some e → suc (length (remove_entry t es)) ≡ length es
    length-found [] e h = cc
    length-found (f ∷ es) e h =
        (elim (t f.0) as (λ b. cond b (Some f) (lookup_entry t es) ≡ Some e → suc (length (cond b es (f ∷ remove_entry t es))) ≡ suc (length es)) [
          | true ↦ λ found. refl
          | false ↦ λ found. ap suc (length-found es e found)
        ]) h

    pub weight-found : (w : V → ℕ) (es : List (K × V)) (e : K × V) → lookup_entry t es ≡ Some e → w e.1 + weight_of w (remove_entry t es) ≡ weight_of w es
    weight-found w [] e h = cc
    weight-found w (f ∷ es) e h =
        (elim (t f.0) as (λ b. cond b (Some f) (lookup_entry t es) ≡ Some e → w e.1 + weight_of w (cond b es (f ∷ remove_entry t es)) ≡ w f.1 + weight_of w es) [
          | true ↦ λ found. (let it : f ≡ e = cc in subst (λ g. w g.1 + weight_of w es ≡ w f.1 + weight_of w es) it refl)
          | false ↦ λ found. (let rest = weight-found w es e found in omega arith)
        ]) h

  length_brought_by : (t : K → Bool) (es : List (K × V)) (o : Option (K × V)) → lookup_entry t es ≡ o → length (option_map_or (λ e. e ∷ remove_entry t es) o es) ≡ length es
  length_brought_by t es None found = refl
  length_brought_by t es (Some e) found = length-found t es e found

  pub length-brought : (eq : K → K → Bool) (k : K) (es : List (K × V)) → length (brought_first eq k es) ≡ length es
  length-brought eq k es = length_brought_by (eq k) es (lookup_entry (eq k) es) refl

  weight_brought_by : (w : V → ℕ) (t : K → Bool) (es : List (K × V)) (o : Option (K × V)) → lookup_entry t es ≡ o → weight_of w (option_map_or (λ e. e ∷ remove_entry t es) o es) ≡ weight_of w es
  weight_brought_by w t es None found = refl
  weight_brought_by w t es (Some e) found = weight-found t w es e found

  pub weight-brought : (w : V → ℕ) (eq : K → K → Bool) (k : K) (es : List (K × V)) → weight_of w (brought_first eq k es) ≡ weight_of w es
  weight-brought w eq k es = weight_brought_by w (eq k) es (lookup_entry (eq k) es) refl

-- ---- the keys that seats own

module _ {K : Type 0} where
  pub pending_keys-nobody : (n : ℕ) → let nobody : Option K = None in pending_keys (replicate n nobody) ≡ []
  pending_keys-nobody zero = refl
  pending_keys-nobody (suc n) = pending_keys-nobody n

  module _ (P : K → Type 0) where
    pub all_released : (os : List (Option K)) (i : ℕ) → AllByRecursion P (pending_keys os) → AllByRecursion P (pending_keys (set os i None))
    all_released [] i h = tt
    all_released (None ∷ os) zero h = h
    all_released (Some k ∷ os) zero h = h.1
    all_released (None ∷ os) (suc i) h = all_released os i h
    all_released (Some k ∷ os) (suc i) h = (h.0, all_released os i h.1)

    pub all_claimed : (os : List (Option K)) (i : ℕ) (k : K) → P k → AllByRecursion P (pending_keys os) → AllByRecursion P (pending_keys (set os i (Some k)))
    all_claimed [] i k new h = tt
    all_claimed (None ∷ os) zero k new h = (new, h)
    all_claimed (Some j ∷ os) zero k new h = (new, h.1)
    all_claimed (None ∷ os) (suc i) k new h = all_claimed os i k new h
    all_claimed (Some j ∷ os) (suc i) k new h = (h.0, all_claimed os i k new h.1)

  module _ {eq : K → K → Bool} (laws : IsEquivalence eq) where
    pub distinct_released : (os : List (Option K)) (i : ℕ) → IsDistinct eq (pending_keys os) → IsDistinct eq (pending_keys (set os i None))
    distinct_released [] i h = h
    distinct_released (None ∷ os) zero h = h
    distinct_released (Some k ∷ os) zero h = IsDistinct-tail eq k (pending_keys os) h
    distinct_released (None ∷ os) (suc i) h = distinct_released os i h
    distinct_released (Some k ∷ os) (suc i) h =
        IsDistinct-cons eq k (pending_keys (set os i None)) (all_released (λ y. eq k y ≡ false) os i (IsDistinct-head eq k (pending_keys os) h)) (distinct_released os i (IsDistinct-tail eq k (pending_keys os) h))

    -- a key that nobody owns is equal to none that is owned
    pub nobody_misses : (k : K) (os : List (Option K)) (n : ℕ) → position_from (λ o. option_map_or (eq k) o false) n os ≡ None → AllByRecursion (λ y. eq k y ≡ false) (pending_keys os)
    nobody_misses k [] n h = tt
    nobody_misses k (None ∷ os) n h = nobody_misses k os (n + 1) h
    nobody_misses k (Some j ∷ os) n h =
        (elim (eq k j) as (λ b. eq k j ≡ b → cond b (Some n) (position_from (λ o. option_map_or (eq k) o false) (n + 1) os) ≡ None → AllByRecursion (λ y. eq k y ≡ false) (j ∷ pending_keys os)) [
          | true ↦ λ same found. cc
          | false ↦ λ apart found. (apart, nobody_misses k os (n + 1) found)
        ]) refl h

    pub distinct_claimed : (os : List (Option K)) (i : ℕ) (k : K) → AllByRecursion (λ y. eq k y ≡ false) (pending_keys os) → IsDistinct eq (pending_keys os) → IsDistinct eq (pending_keys (set os i (Some k)))
    distinct_claimed [] i k new h = h
    distinct_claimed (None ∷ os) zero k new h = IsDistinct-cons eq k (pending_keys os) new h
    distinct_claimed (Some j ∷ os) zero k new h = IsDistinct-cons eq k (pending_keys os) new.1 (IsDistinct-tail eq j (pending_keys os) h)
    distinct_claimed (None ∷ os) (suc i) k new h = distinct_claimed os i k new h
    distinct_claimed (Some j ∷ os) (suc i) k new h =
        IsDistinct-cons eq j (pending_keys (set os i (Some k))) (all_claimed (λ y. eq j y ≡ false) os i k (laws.symm j k ∙ new.0) (IsDistinct-head eq j (pending_keys os) h)) (distinct_claimed os i k new.1 (IsDistinct-tail eq j (pending_keys os) h))
