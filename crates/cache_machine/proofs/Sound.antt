-- Every state that calls lead to is sound.
use Rattle.std.proofs.Common.{◌≡◌, ℕ, ◌≤◌, Bool, true, false, List, [], ◌∷◌, length, cond, Option, Some, None, IfSome, refl, sym, subst, arith}
use Rattle.std.specs.List.{IsDistinct}
use Rattle.std.specs.Cmp.{IsEquivalence}
use Rattle.std.specs.Option.{option_map_or}
use Rattle.std.specs.Map.{keys_of, remove_entry}
use Rattle.cache_machine.specs.Machine.{Kept, Cache, empty_cache, with_entries, owned_by, owner_of, served, stored, cut, is_light, answer_by, after_answer, after_look, released, finished}
use Rattle.cache_machine.specs.Laws.{weight_of, pending_keys, IsSound}
use Rattle.cache_machine.specs.Runs.{Call, Answer, look, finish, give_up, recent, looked, done, keys, no_memory, Allows, IsRun}
use Rattle.cache_machine.proofs.Fronts.{cut-longest}
use Rattle.cache_machine.proofs.Keys.{distinct_nil, distinct_taken, distinct_brought, distinct_put, length-brought, weight-brought, pending_keys-nobody, distinct_released, distinct_claimed, nobody_misses}

module _ {K V : Type 0} {eq : K → K → Bool} (laws : IsEquivalence eq) (weight : V → ℕ) where
  none_weighs : (size : ℕ) (greatest : Option ℕ) → IfSome greatest (λ most. weight_of {K = K} weight [] ≤ most)
  none_weighs size None = tt
  none_weighs size (Some most) = omega arith

  pub sound_empty : (size : ℕ) (greatest : Option ℕ) (seats : ℕ) → IsSound eq weight (empty_cache size greatest seats)
  sound_empty size greatest seats = record {
    keys = distinct_nil eq;
    few = omega arith;
    light = none_weighs size greatest;
    owners = subst (IsDistinct eq) (sym (pending_keys-nobody seats)) (distinct_nil eq);
  }

  sound_released : (seat : ℕ) (c : Cache K V) → IsSound eq weight c → IsSound eq weight (released seat c)
  sound_released seat c h = record { keys = h.keys; few = h.few; light = h.light; owners = distinct_released laws c.pending seat h.owners }

  sound_answered : (k : K) (seat : ℕ) (c : Cache K V) (value : Option V) (owner : Option ℕ) → owner_of eq k c.pending ≡ owner → IsSound eq weight c → IsSound eq weight (after_answer eq k seat c (answer_by k value owner))
  sound_answered k seat c (Some v) owner is h = record {
    keys = distinct_brought laws k c.kept.entries h.keys;
    few = subst (λ n. n ≤ c.kept.size) (sym (length-brought eq k c.kept.entries)) h.few;
    light = subst (λ n. IfSome c.kept.greatest (λ most. n ≤ most)) (sym (weight-brought weight eq k c.kept.entries)) h.light;
    owners = h.owners;
  }
  sound_answered k seat c None (Some owner) is h = h
  sound_answered k seat c None None is h = record {
    keys = h.keys;
    few = h.few;
    light = h.light;
    owners = distinct_claimed laws c.pending seat k (nobody_misses laws k c.pending 0 is) h.owners;
  }

  sound_looked : (serves : V → Bool) (k : K) (seat : ℕ) (c : Cache K V) → IsSound eq weight c → IsSound eq weight (after_look eq serves k seat c)
  sound_looked serves k seat c h = sound_answered k seat c (served eq serves k c.kept.entries) (owner_of eq k c.pending) refl h

  -- storing keeps the bounds and the keys apart
  sound_stored : (k : K) (v : V) (c next : Cache K V) → IsSound eq weight c → IsDistinct eq (pending_keys next.pending) → next.kept ≡ stored eq weight k v c.kept → IsSound eq weight next
  sound_stored k v c next h owners is =
      (elim (is_light weight c.kept.greatest v) as (λ b. next.kept ≡ cond b (with_entries c.kept (cut weight c.kept.size c.kept.greatest ((k, v) ∷ remove_entry (eq k) c.kept.entries))) c.kept → IsSound eq weight next) [
        | true ↦ λ kept. (
            let put : List (K × V) = (k, v) ∷ remove_entry (eq k) c.kept.entries in
            let fits = cut-longest weight c.kept.size c.kept.greatest put in
            let apart : IsDistinct eq (keys_of (cut weight c.kept.size c.kept.greatest put)) =
            subst (λ es. IsDistinct eq (keys_of es)) (sym fits.front) (distinct_taken laws (length (cut weight c.kept.size c.kept.greatest put)) put (distinct_put laws k v c.kept.entries h.keys)) in
            record {
              keys = subst (λ (n : Kept K V). IsDistinct eq (keys_of n.entries)) (sym kept) apart;
              few = subst (λ (n : Kept K V). length n.entries ≤ n.size) (sym kept) fits.few;
              light = subst (λ (n : Kept K V). IfSome n.greatest (λ most. weight_of weight n.entries ≤ most)) (sym kept) fits.light;
              owners = owners;
            })
        | false ↦ λ kept. record {
          keys = subst (λ (n : Kept K V). IsDistinct eq (keys_of n.entries)) (sym kept) h.keys;
          few = subst (λ (n : Kept K V). length n.entries ≤ n.size) (sym kept) h.few;
          light = subst (λ (n : Kept K V). IfSome n.greatest (λ most. weight_of weight n.entries ≤ most)) (sym kept) h.light;
          owners = owners;
        }
      ]) is

  sound_finished : (seat : ℕ) (v : V) (keep : Bool) (c : Cache K V) → IsSound eq weight c → IsSound eq weight (finished eq weight seat v keep c)
  sound_finished seat v keep c h =
      let over = sound_released seat c h in
      elim (owned_by c seat) as (λ o. IsSound eq weight (option_map_or (λ k. cond keep (record (released seat c) { kept = stored eq weight k v c.kept }) (released seat c)) o (released seat c))) [
        | None ↦ over
        | Some k ↦ (elim keep as (λ b. IsSound eq weight (cond b (record (released seat c) { kept = stored eq weight k v c.kept }) (released seat c))) [
          | true ↦ sound_stored k v c (record (released seat c) { kept = stored eq weight k v c.kept }) h over.owners refl
          | false ↦ over
        ])
      ]

  pub sound_step : (c next : Cache K V) (call : Call K V) (answer : Answer K V) → Allows eq weight c call answer next → IsSound eq weight c → IsSound eq weight next
  sound_step c next (look k serves seat) (looked a) step h = subst (IsSound eq weight) (sym step.1) (sound_looked serves k seat c h)
  sound_step c next (look k serves seat) done step h = absurd step
  sound_step c next (look k serves seat) (keys ks) step h = absurd step
  sound_step c next (look k serves seat) no_memory step h = subst (IsSound eq weight) (sym step.1) h
  sound_step c next (finish seat v keep) (looked a) step h = absurd step
  sound_step c next (finish seat v keep) done step h = subst (IsSound eq weight) (sym step) (sound_finished seat v keep c h)
  sound_step c next (finish seat v keep) (keys ks) step h = absurd step
  sound_step c next (finish seat v keep) no_memory step h = subst (IsSound eq weight) (sym step) (sound_released seat c h)
  sound_step c next (give_up seat) (looked a) step h = absurd step
  sound_step c next (give_up seat) done step h = subst (IsSound eq weight) (sym step) (sound_released seat c h)
  sound_step c next (give_up seat) (keys ks) step h = absurd step
  sound_step c next (give_up seat) no_memory step h = absurd step
  sound_step c next (recent n) (looked a) step h = absurd step
  sound_step c next (recent n) done step h = absurd step
  sound_step c next (recent n) (keys ks) step h = subst (IsSound eq weight) (sym step.1) h
  sound_step c next (recent n) no_memory step h = subst (IsSound eq weight) (sym step) h

  pub sound_run : (steps : List (Call K V × Answer K V)) (c to : Cache K V) → IsRun eq weight steps c to → IsSound eq weight c → IsSound eq weight to
  sound_run [] c to run h = subst (IsSound eq weight) (sym run) h
  sound_run (step ∷ steps) c to run h = sound_run steps run.0 to run.2 (sound_step c run.0 step.0 step.1 run.1 h)
