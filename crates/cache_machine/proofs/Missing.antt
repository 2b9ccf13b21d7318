-- Where every value serves, no pending key has an entry.
use Rattle.std.proofs.Common.{◌≡◌, ℕ, zero, suc, Bool, true, false, List, [], ◌∷◌, length, cond, set, Option, Some, None, refl, sym, ap, subst, ◌∙◌}
use Rattle.std.specs.Prelude.{slice_get}
use Rattle.std.specs.List.{AllByRecursion, IsDistinct}
use Rattle.std.specs.Cmp.{IsEquivalence}
use Rattle.std.specs.Option.{option_map_or, option_and_then}
use Rattle.std.specs.Map.{keys_of, lookup, lookup_entry, remove_entry}
use Rattle.std.proofs.lemmas.Map.Keys.{IsDistinct-head, IsDistinct-tail}
use Rattle.cache_machine.specs.Machine.{Kept, Cache, empty_cache, with_entries, owned_by, owner_of, brought_first, stored, cut, is_light, answer_by, after_answer, released, finished}
use Rattle.cache_machine.specs.Laws.{pending_keys, IsSound, NoneIsBoth, TakesAll}
use Rattle.cache_machine.specs.Runs.{Call, Answer, look, finish, give_up, recent, looked, done, keys, no_memory, Allows, IsRun}
use Rattle.cache_machine.proofs.Fronts.{cut-longest}
use Rattle.cache_machine.proofs.Keys.{Misses, all_so, all_removed, all_taken, all_released, all_claimed, pending_keys-nobody}
use Rattle.cache_machine.proofs.Sound.{sound_empty, sound_step}

module _ {K : Type 0} where
  owned_is : (P : K → Type 0) (os : List (Option K)) (i : ℕ) (k : K) → slice_get os i ≡ Some (Some k) → AllByRecursion P (pending_keys os) → P k
  owned_is P [] i k owns h = cc
  owned_is P (None ∷ os) zero k owns h = cc
  owned_is P (Some j ∷ os) zero k owns h = (let it : j ≡ k = cc in subst P it h.0)
  owned_is P (None ∷ os) (suc i) k owns h = owned_is P os i k owns h
  owned_is P (Some j ∷ os) (suc i) k owns h = owned_is P os i k owns h.1

  -- the keys of other seats differ from the key that a seat owns
  pub others_differ : {eq : K → K → Bool} → IsEquivalence eq → (os : List (Option K)) (i : ℕ) (k : K) → slice_get os i ≡ Some (Some k) → IsDistinct eq (pending_keys os)
      → AllByRecursion (λ j. eq j k ≡ false) (pending_keys (set os i None))
  others_differ {eq} laws [] i k owns h = tt
  others_differ {eq} laws (None ∷ os) zero k owns h = cc
  others_differ {eq} laws (Some j ∷ os) zero k owns h =
      let it : j ≡ k = cc in
      all_so (λ y apart. laws.symm y k ∙ subst (λ z. eq z y ≡ false) it apart) (pending_keys os) (IsDistinct-head eq j (pending_keys os) h)
  others_differ {eq} laws (None ∷ os) (suc i) k owns h = others_differ laws os i k owns h
  others_differ {eq} laws (Some j ∷ os) (suc i) k owns h =
      (owned_is (λ y. eq j y ≡ false) os i k owns (IsDistinct-head eq j (pending_keys os) h), others_differ laws os i k owns (IsDistinct-tail eq j (pending_keys os) h))

  owns_at : (o : Option (Option K)) (k : K) → option_and_then (λ x. x) o ≡ Some k → o ≡ Some (Some k)
  owns_at None k h = cc
  owns_at (Some None) k h = cc
  owns_at (Some (Some j)) k h = ap (λ x. Some x) h

module _ {K V : Type 0} where
  misses_when_none : (eq : K → K → Bool) (k : K) (es : List (K × V)) → lookup (eq k) es ≡ None → Misses eq k (keys_of es)
  misses_when_none eq k [] h = tt
  misses_when_none eq k (e ∷ es) h =
      (elim (eq k e.0) as (λ b. eq k e.0 ≡ b → cond b (Some e.1) (lookup (eq k) es) ≡ None → Misses eq k (keys_of (e ∷ es))) [
        | true ↦ λ same none. cc
        | false ↦ λ apart none. (apart, misses_when_none eq k es none)
      ]) refl h

  none_when_misses : (eq : K → K → Bool) (k : K) (es : List (K × V)) → Misses eq k (keys_of es) → lookup (eq k) es ≡ None
  none_when_misses eq k [] h = refl
  none_when_misses eq k (e ∷ es) h =
      (elim (eq k e.0) as (λ b. eq k e.0 ≡ b → cond b (Some e.1) (lookup (eq k) es) ≡ None) [
        | true ↦ λ same. (let apart : eq k e.0 ≡ false = h.0 in cc)
        | false ↦ λ apart. none_when_misses eq k es h.1
      ]) refl

  found_is : (P : K → Type 0) (t : K → Bool) (es : List (K × V)) (e : K × V) → lookup_entry t es ≡ Some e → AllByRecursion P (keys_of es) → P e.0
  found_is P t [] e found h = cc
  found_is P t (f ∷ es) e found h =
      (elim (t f.0) as (λ b. cond b (Some f) (lookup_entry t es) ≡ Some e → P e.0) [
        | true ↦ λ first. (let it : f ≡ e = cc in subst (λ (g : K × V). P g.0) it h.0)
        | false ↦ λ later. found_is P t es e later h.1
      ]) found

  all_brought_by : (P : K → Type 0) (t : K → Bool) (es : List (K × V)) (o : Option (K × V)) → lookup_entry t es ≡ o → AllByRecursion P (keys_of es)
      → AllByRecursion P (keys_of (option_map_or (λ e. e ∷ remove_entry t es) o es))
  all_brought_by P t es None found h = h
  all_brought_by P t es (Some e) found h = (found_is P t es e found h, all_removed P t es h)

  -- what holds of all keys of entries holds once one was brought first
  pub all_brought : (P : K → Type 0) (eq : K → K → Bool) (k : K) (es : List (K × V)) → AllByRecursion P (keys_of es) → AllByRecursion P (keys_of (brought_first eq k es))
  all_brought P eq k es h = all_brought_by P (eq k) es (lookup_entry (eq k) es) refl h

  module _ {eq : K → K → Bool} (laws : IsEquivalence eq) (weight : V → ℕ) where
    missing_empty : (size : ℕ) (greatest : Option ℕ) (seats : ℕ) → NoneIsBoth {K = K} {V = V} eq (empty_cache size greatest seats)
    missing_empty size greatest seats = let none : List (K × V) = [] in subst (AllByRecursion (λ k. lookup (eq k) none ≡ None)) (sym (pending_keys-nobody seats)) tt

    missing_released : (seat : ℕ) (c : Cache K V) → NoneIsBoth eq c → NoneIsBoth eq (released seat c)
    missing_released seat c h = all_released (λ k. lookup (eq k) c.kept.entries ≡ None) c.pending seat h

    missing_answered : (serves : V → Bool) (k : K) (seat : ℕ) (c : Cache K V) → ((v : V) → serves v ≡ true) → (o : Option V) (owner : Option ℕ) → lookup (eq k) c.kept.entries ≡ o
        → NoneIsBoth eq c → NoneIsBoth eq (after_answer eq k seat c (answer_by k (option_and_then (λ v. cond (serves v) (Some v) None) o) owner))
    missing_answered serves k seat c all None None is h = all_claimed (λ j. lookup (eq j) c.kept.entries ≡ None) c.pending seat k is h
    missing_answered serves k seat c all None (Some owner) is h = h
    missing_answered serves k seat c all (Some v) owner is h =
        subst (λ b. NoneIsBoth eq (after_answer eq k seat c (answer_by k (cond b (Some v) None) owner))) (sym (all v))
        (all_so (λ j none. none_when_misses eq j (brought_first eq k c.kept.entries) (all_brought (λ y. eq j y ≡ false) eq k c.kept.entries (misses_when_none eq j c.kept.entries none))) (pending_keys c.pending) h)

    -- a key that misses the entries and the stored one misses what is stored
    misses_stored : (j k : K) (v : V) (c : Kept K V) → lookup (eq j) c.entries ≡ None → eq j k ≡ false → lookup (eq j) (stored eq weight k v c).entries ≡ None
    misses_stored j k v c none apart =
        elim (is_light weight c.greatest v) as (λ b. lookup (eq j) (cond b (with_entries c (cut weight c.size c.greatest ((k, v) ∷ remove_entry (eq k) c.entries))) c).entries ≡ None) [
          | true ↦ (
              let put : List (K × V) = (k, v) ∷ remove_entry (eq k) c.entries in
              let kept : List (K × V) = cut weight c.size c.greatest put in
              let misses : Misses eq j (keys_of put) = (apart, all_removed (λ y. eq j y ≡ false) (eq k) c.entries (misses_when_none eq j c.entries none)) in
              let fits = cut-longest weight c.size c.greatest put in
              none_when_misses eq j kept (subst (λ (es : List (K × V)). Misses eq j (keys_of es)) (sym fits.front) (all_taken (λ y. eq j y ≡ false) (length kept) put misses)))
          | false ↦ none
        ]

    both : {P Q R : K → Type 0} → ((j : K) → P j → Q j → R j) → (js : List K) → AllByRecursion P js → AllByRecursion Q js → AllByRecursion R js
    both f [] p q = tt
    both f (j ∷ js) p q = (f j p.0 q.0, both f js p.1 q.1)

    missing_finished : (seat : ℕ) (v : V) (keep : Bool) (c : Cache K V) → IsSound eq weight c → NoneIsBoth eq c → NoneIsBoth eq (finished eq weight seat v keep c)
    missing_finished seat v keep c sound h =
        let over = missing_released seat c h in
        (elim (owned_by c seat) as (λ o. owned_by c seat ≡ o → NoneIsBoth eq (option_map_or (λ k. cond keep (record (released seat c) { kept = stored eq weight k v c.kept }) (released seat c)) o (released seat c))) [
          | None ↦ λ is. over
          | Some k ↦ λ is. (elim keep as (λ b. NoneIsBoth eq (cond b (record (released seat c) { kept = stored eq weight k v c.kept }) (released seat c))) [
            | true ↦ both (λ j none apart. misses_stored j k v c.kept none apart) (pending_keys (set c.pending seat None)) over
                (others_differ laws c.pending seat k (owns_at (slice_get c.pending seat) k is) sound.owners)
            | false ↦ over
          ])
        ]) refl

    missing_step : (c next : Cache K V) (call : Call K V) (answer : Answer K V) → TakesAll call → Allows eq weight c call answer next → IsSound eq weight c → NoneIsBoth eq c → NoneIsBoth eq next
    missing_step c next (look k serves seat) (looked a) all step sound h =
        subst (NoneIsBoth eq) (sym step.1) (missing_answered serves k seat c all (lookup (eq k) c.kept.entries) (owner_of eq k c.pending) refl h)
    missing_step c next (look k serves seat) done all step sound h = absurd step
    missing_step c next (look k serves seat) (keys ks) all step sound h = absurd step
    missing_step c next (look k serves seat) no_memory all step sound h = subst (NoneIsBoth eq) (sym step.1) h
    missing_step c next (finish seat v keep) (looked a) all step sound h = absurd step
    missing_step c next (finish seat v keep) done all step sound h = subst (NoneIsBoth eq) (sym step) (missing_finished seat v keep c sound h)
    missing_step c next (finish seat v keep) (keys ks) all step sound h = absurd step
    missing_step c next (finish seat v keep) no_memory all step sound h = subst (NoneIsBoth eq) (sym step) (missing_released seat c h)
    missing_step c next (give_up seat) (looked a) all step sound h = absurd step
    missing_step c next (give_up seat) done all step sound h = subst (NoneIsBoth eq) (sym step) (missing_released seat c h)
    missing_step c next (give_up seat) (keys ks) all step sound h = absurd step
    missing_step c next (give_up seat) no_memory all step sound h = absurd step
    missing_step c next (recent n) (looked a) all step sound h = absurd step
    missing_step c next (recent n) done all step sound h = absurd step
    missing_step c next (recent n) (keys ks) all step sound h = subst (NoneIsBoth eq) (sym step.1) h
    missing_step c next (recent n) no_memory all step sound h = subst (NoneIsBoth eq) (sym step) h

    missing_run : (steps : List (Call K V × Answer K V)) (c to : Cache K V) → AllByRecursion (λ step. TakesAll step.0) steps → IsRun eq weight steps c to → IsSound eq weight c → NoneIsBoth eq c → NoneIsBoth eq to
    missing_run [] c to all run sound h = subst (NoneIsBoth eq) (sym run) h
    missing_run (step ∷ steps) c to all run sound h =
        missing_run steps run.0 to all.1 run.2 (sound_step laws weight c run.0 step.0 step.1 run.1 sound) (missing_step c run.0 step.0 step.1 all.0 run.1 sound h)

    pub pending_are_missing : (size : ℕ) (greatest : Option ℕ) (seats : ℕ) (steps : List (Call K V × Answer K V)) (c : Cache K V)
        → AllByRecursion (λ step. TakesAll step.0) steps → IsRun eq weight steps (empty_cache size greatest seats) c → NoneIsBoth eq c
    pending_are_missing size greatest seats steps c all run =
        missing_run steps (empty_cache size greatest seats) c all run (sound_empty laws weight size greatest seats) (missing_empty size greatest seats)
