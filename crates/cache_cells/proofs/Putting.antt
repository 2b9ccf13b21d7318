-- What `put` and `push` of an `LruCache` leave, in the machine's words.
use Rattle.std.proofs.Common.{◌≡◌, ℕ, zero, suc, ◌+◌, ◌-◌, ◌^◌, ◌≤◌, ◌<◌, Bool, true, false, List, [], ◌∷◌, length, take, drop, cond, Option, Some, None, refl, sym, ap, subst, ◌∙◌, arith}
use Rattle.std.specs.Prelude.{slice_get}
use Rattle.std.specs.Option.{option_map_or, ForSome}
use Rattle.std.specs.Map.{lookup, lookup_entry, remove_entry}
use Rattle.lru.specs.LruCache.{LruCache, lru_cache, put_entries, displaced}
use Rattle.cache_machine.specs.Laws.{weight_of}
use Rattle.cache_machine.specs.Machine.{brought_first, light_front}
use Rattle.cache_machine.proofs.Fronts.{light_front-weighs, length-light_front}
use Rattle.cache_machine.proofs.Keys.{length-found, weight-found, length-brought, weight-brought}
use Rattle.cache_cells.specs.Bounded.{IsBounded, put_first_of}
use Rattle.cache_cells.specs.Steps.{pushed}

module _ {K V : Type 0} where
  removed-none : (t : K → Bool) (es : List (K × V)) → lookup_entry t es ≡ None → remove_entry t es ≡ es
  removed-none t [] h = refl
  removed-none t (e ∷ es) h =
      (elim (t e.0) as (λ b. cond b (Some e) (lookup_entry t es) ≡ None → cond b es (e ∷ remove_entry t es) ≡ e ∷ es) [
        | true ↦ λ none. cc
        | false ↦ λ none. ap (λ l. e ∷ l) (removed-none t es none)
      ]) h

  lookup_of_entry : (t : K → Bool) (es : List (K × V)) (o : Option (K × V)) → lookup_entry t es ≡ o → lookup t es ≡ option_map_or (λ e. Some e.1) o None
  lookup_of_entry t [] o h = ap (λ p. option_map_or (λ (e : K × V). Some e.1) p None) h
  lookup_of_entry t (e ∷ es) o h =
      (elim (t e.0) as (λ b. cond b (Some e) (lookup_entry t es) ≡ o → cond b (Some e.1) (lookup t es) ≡ option_map_or (λ f. Some f.1) o None) [
        | true ↦ λ is. ap (λ p. option_map_or (λ (f : K × V). Some f.1) p None) is
        | false ↦ λ is. lookup_of_entry t es o is
      ]) h

  found_key : (t : K → Bool) (es : List (K × V)) (e : K × V) → lookup_entry t es ≡ Some e → t e.0 ≡ true
  found_key t [] e h = cc
  found_key t (f ∷ es) e h =
      (elim (t f.0) as (λ b. t f.0 ≡ b → cond b (Some f) (lookup_entry t es) ≡ Some e → t e.0 ≡ true) [
        | true ↦ λ passes is. (let it : f ≡ e = cc in subst (λ (g : K × V). t g.0 ≡ true) it passes)
        | false ↦ λ fails is. found_key t es e is
      ]) refl h

  take-short : (n : ℕ) (es : List (K × V)) → length es ≤ n → take n es ≡ es
  take-short zero [] h = refl
  take-short zero (e ∷ es) h = absurd (omega arith)
  take-short (suc n) [] h = refl
  take-short (suc n) (e ∷ es) h = ap (λ l. e ∷ l) (take-short n es (omega arith))

  -- the entry at the end of a full list weighs what the others lack
  weight-last : (w : V → ℕ) (n : ℕ) (es : List (K × V)) (e : K × V) → length es ≤ suc n → slice_get es n ≡ Some e → w e.1 + weight_of w (take n es) ≡ weight_of w es
  weight-last w n [] e short h = cc
  weight-last w zero (f ∷ []) e short h = (let it : f ≡ e = cc in subst (λ (g : K × V). w g.1 + 0 ≡ w f.1 + 0) it refl)
  weight-last w zero (f ∷ g ∷ es) e short h = absurd (omega arith)
  weight-last w (suc n) (f ∷ es) e short h = (let rest = weight-last w n es e (omega arith) h in omega arith)

  short-missing : (n : ℕ) (es : List (K × V)) → slice_get es n ≡ None → length es ≤ n
  short-missing n [] h = omega arith
  short-missing zero (e ∷ es) h = cc
  short-missing (suc n) (e ∷ es) h = (let rest = short-missing n es h in omega arith)

  module _ (eq : K → K → Bool) (k : K) (c : LruCache K V) where
    behind : List (K × V)
    behind = take (c.cap - 1) (remove_entry (eq k) c.entries)

    put_by : (v : V) (o : Option (K × V)) → ((x y : K) → eq x y ≡ true → x ≡ y) → length c.entries ≤ c.cap → 0 < c.cap → lookup_entry (eq k) c.entries ≡ o
        → option_map_or (λ e. (e.0, v) ∷ remove_entry (eq k) c.entries) o ((k, v) ∷ take (c.cap - 1) c.entries) ≡ put_first_of eq k v c
    put_by v None same few some is = ap (λ es. (k, v) ∷ take (c.cap - 1) es) (sym (removed-none (eq k) c.entries is))
    put_by v (Some e) same few some is =
        let key : k ≡ e.0 = same k e.0 (found_key (eq k) c.entries e is) in
        let short : length (remove_entry (eq k) c.entries) ≤ c.cap - 1 = (let one_less = length-found (eq k) c.entries e is in omega arith) in
        let whole : take (c.cap - 1) (remove_entry (eq k) c.entries) ≡ remove_entry (eq k) c.entries = take-short (c.cap - 1) (remove_entry (eq k) c.entries) short in
        subst (λ (j : K). (j, v) ∷ remove_entry (eq k) c.entries ≡ put_first_of eq k v c) key (ap (λ es. (k, v) ∷ es) (sym whole))

    pub put_entries-first : (v : V) → ((x y : K) → eq x y ≡ true → x ≡ y) → length c.entries ≤ c.cap → 0 < c.cap → put_entries eq c k v ≡ put_first_of eq k v c
    put_entries-first v same few some = put_by v (lookup_entry (eq k) c.entries) same few some refl

    displaced_by : (w : V → ℕ) (v : V) (o : Option (K × V)) (p : Option (K × V)) → length c.entries ≤ c.cap → 0 < c.cap → lookup_entry (eq k) c.entries ≡ o
        → option_map_or (λ old. Some (k, old)) (option_map_or (λ e. Some e.1) o None) (slice_get c.entries (c.cap - 1)) ≡ p
        → option_map_or (λ e. w e.1) p 0 + weight_of w (take (c.cap - 1) (remove_entry (eq k) c.entries)) ≡ weight_of w c.entries
    displaced_by w v (Some e) p few some is out =
        let short : length (remove_entry (eq k) c.entries) ≤ c.cap - 1 = (let one_less = length-found (eq k) c.entries e is in omega arith) in
        let whole : take (c.cap - 1) (remove_entry (eq k) c.entries) ≡ remove_entry (eq k) c.entries = take-short (c.cap - 1) (remove_entry (eq k) c.entries) short in
        subst (λ (q : Option (K × V)). option_map_or (λ (f : K × V). w f.1) q 0 + weight_of w (take (c.cap - 1) (remove_entry (eq k) c.entries)) ≡ weight_of w c.entries) out
        (ap (λ es. w e.1 + weight_of w es) whole ∙ weight-found (eq k) w c.entries e is)
    displaced_by w v None (Some e) few some is out =
        let same : remove_entry (eq k) c.entries ≡ c.entries = removed-none (eq k) c.entries is in
        ap (λ es. w e.1 + weight_of w (take (c.cap - 1) es)) same ∙ weight-last w (c.cap - 1) c.entries e (omega arith) out
    displaced_by w v None None few some is out =
        let same : remove_entry (eq k) c.entries ≡ c.entries = removed-none (eq k) c.entries is in
        let whole : take (c.cap - 1) c.entries ≡ c.entries = take-short (c.cap - 1) c.entries (short-missing (c.cap - 1) c.entries out) in
        omega (arith, ap (λ es. weight_of w (take (c.cap - 1) es)) same ∙ ap (weight_of w) whole)

    -- what was displaced weighs what the entries behind the new one lack
    pub displaced-weighs : (w : V → ℕ) (v : V) (p : Option (K × V)) → length c.entries ≤ c.cap → 0 < c.cap → displaced eq c k v ≡ p
        → option_map_or (λ e. w e.1) p 0 + weight_of w (take (c.cap - 1) (remove_entry (eq k) c.entries)) ≡ weight_of w c.entries
    displaced-weighs w v p few some out =
        let found : lookup (eq k) c.entries ≡ option_map_or (λ e. Some e.1) (lookup_entry (eq k) c.entries) None = lookup_of_entry (eq k) c.entries (lookup_entry (eq k) c.entries) refl in
        displaced_by w v (lookup_entry (eq k) c.entries) p few some refl
        (subst (λ o. option_map_or (λ old. Some (k, old)) o (slice_get c.entries (c.cap - 1)) ≡ p) found out)

    pub displaced-some : (w : V → ℕ) (v : V) (p : K × V) → length c.entries ≤ c.cap → 0 < c.cap → displaced eq c k v ≡ Some p
        → w p.1 + weight_of w (drop 1 (put_first_of eq k v c)) ≡ weight_of w c.entries
    displaced-some w v p few some out = displaced-weighs w v (Some p) few some out

  -- an entry that is brought first changes no bound
  pub bounded_brought : (w : V → ℕ) (eq : K → K → Bool) (k : K) (greatest : Option ℕ) (total : ℕ) (c : LruCache K V)
      → IsBounded w greatest total c → IsBounded w greatest total (lru_cache (brought_first eq k c.entries) c.cap)
  bounded_brought w eq k greatest total c h = record {
    some = h.some;
    small = h.small;
    few = subst (λ n. n ≤ c.cap) (sym (length-brought eq k c.entries)) h.few;
    weighed = subst (λ n. ForSome greatest (λ most. (total ≡ n) × (total ≤ most))) (sym (weight-brought w eq k c.entries)) h.weighed;
  }

  length-take-most : (n : ℕ) (es : List (K × V)) → length (take n es) ≤ n
  length-take-most zero es = omega arith
  length-take-most (suc n) [] = omega arith
  length-take-most (suc n) (e ∷ es) = (let rest = length-take-most n es in omega arith)

  -- what is pushed within a greatest weight keeps every bound
  pub bounded_pushed : (w : V → ℕ) (eq : K → K → Bool) (k : K) (v : V) (c : LruCache K V) (most : ℕ) → 0 < c.cap → c.cap < 2 ^ 32
      → let after : LruCache K V = pushed eq w most k v c in IsBounded w (Some most) (weight_of w after.entries) after
  bounded_pushed w eq k v c most some small = record {
    some = some;
    small = small;
    few = (let fewer = length-light_front w most (put_first_of eq k v c) in let cut = length-take-most (c.cap - 1) (remove_entry (eq k) c.entries) in omega arith);
    weighed = λ bound is. (refl, (let same : most ≡ bound = cc in subst (λ n. weight_of w (light_front w most (put_first_of eq k v c)) ≤ n) same (light_front-weighs w most (put_first_of eq k v c))));
  }
