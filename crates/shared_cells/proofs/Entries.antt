-- Entries that fit, through the calls of a cache.
use Rattle.std.proofs.Common.{◌≡◌, ℕ, zero, suc, ◌-◌, Bool, true, false, cond, List, [], ◌∷◌, length, Option, Some, None, refl, sym, ap, subst, ◌∙◌}
use Rattle.std.specs.Prelude.{take, nat_le}
use Rattle.std.specs.List.{AllByRecursion}
use Rattle.std.specs.Option.{option_map_or, option_and_then}
use Rattle.std.specs.Map.{lookup, lookup_entry, remove_entry}
use Rattle.cache_machine.specs.declared.look.Look.{Look}
use Rattle.cache_machine.specs.declared.look.Look.TheVariants.{Hit, Join, Own}
use Rattle.cache_machine.specs.Machine.{Kept, Cache, with_entries, owned_by, brought_first, stored, cut, light_front, is_light, look_answer, after_answer, after_look, released, finished, answer_by, owner_of}
use Rattle.cache_traces.specs.Traces.{Rules}
use Rattle.cache_traces.specs.TracedCache.{TracedCache, IsTraced}
use Rattle.cache_traces.proofs.Holding.{IsSized, sized_look, sized_released, sized_finished}
use Rattle.shared_cells.specs.Fitting.{CellFits}

module _ {K V : Type 0} (Fits : K × V → Type 0) where
  removed : (t : K → Bool) (es : List (K × V)) → AllByRecursion Fits es → AllByRecursion Fits (remove_entry t es)
  removed t [] all = tt
  removed t (e ∷ es) all =
      elim (t e.0) as (λ b. AllByRecursion Fits (cond b es (e ∷ remove_entry t es))) [
        | true ↦ all.1
        | false ↦ (all.0, removed t es all.1)
      ]

  first_there : (t : K → Bool) (es : List (K × V)) (e : K × V) → AllByRecursion Fits es → lookup_entry t es ≡ Some e → Fits e
  first_there t [] e all is = cc
  first_there t (f ∷ es) e all is =
      (elim (t f.0) as (λ b. cond b (Some f) (lookup_entry t es) ≡ Some e → Fits e) [
        | true ↦ λ here. (let it : f ≡ e = cc in subst Fits it all.0)
        | false ↦ λ later. first_there t es e all.1 later
      ]) is

  -- the value of a key that passes, with that key
  pub value_there : (t : K → Bool) (es : List (K × V)) (v : V) → AllByRecursion Fits es → lookup t es ≡ Some v → (k : K) × (t k ≡ true) × Fits (k, v)
  value_there t [] v all is = cc
  value_there t (f ∷ es) v all is =
      (elim (t f.0) as (λ b. t f.0 ≡ b → cond b (Some f.1) (lookup t es) ≡ Some v → (k : K) × (t k ≡ true) × Fits (k, v)) [
        | true ↦ λ passes here. (f.0, passes, (let it : f.1 ≡ v = cc in subst (λ w. Fits (f.0, w)) it all.0))
        | false ↦ λ fails later. value_there t es v all.1 later
      ]) refl is

  pub brought : (eq : K → K → Bool) (k : K) (es : List (K × V)) → AllByRecursion Fits es → AllByRecursion Fits (brought_first eq k es)
  brought eq k es all =
      elim (lookup_entry (eq k) es) as (λ o. lookup_entry (eq k) es ≡ o → AllByRecursion Fits (option_map_or (λ e. e ∷ remove_entry (eq k) es) o es)) [
        | None ↦ λ none. all
        | Some e ↦ λ there. (first_there (eq k) es e all there, removed (eq k) es all)
      ] refl

  front : (n : ℕ) (es : List (K × V)) → AllByRecursion Fits es → AllByRecursion Fits (take n es)
  front zero es all = tt
  front (suc n) [] all = tt
  front (suc n) (e ∷ es) all = (all.0, front n es all.1)

  light : (weight : V → ℕ) (most : ℕ) (es : List (K × V)) → AllByRecursion Fits es → AllByRecursion Fits (light_front weight most es)
  light weight most [] all = tt
  light weight most (e ∷ es) all =
      let rest = light weight (most - weight e.1) es all.1 in
      (elim (nat_le (weight e.1) most) as (λ b. AllByRecursion Fits (cond b (e ∷ light_front weight (most - weight e.1) es) [])) [
        | true ↦ (all.0, rest)
        | false ↦ tt
      ])

  cut_fits : (weight : V → ℕ) (size : ℕ) (greatest : Option ℕ) (es : List (K × V)) → AllByRecursion Fits es → AllByRecursion Fits (cut weight size greatest es)
  cut_fits weight size None es all = front size es all
  cut_fits weight size (Some most) es all = light weight most (take size es) (front size es all)

  pub stored_fits : (eq : K → K → Bool) (weight : V → ℕ) (k : K) (v : V) (c : Kept K V) → AllByRecursion Fits c.entries → Fits (k, v) → AllByRecursion Fits (stored eq weight k v c).entries
  stored_fits eq weight k v c all new =
      elim (is_light weight c.greatest v) as (λ b. AllByRecursion Fits (cond b (with_entries c (cut weight c.size c.greatest ((k, v) ∷ remove_entry (eq k) c.entries))) c).entries) [
        | true ↦ cut_fits weight c.size c.greatest ((k, v) ∷ remove_entry (eq k) c.entries) (new, removed (eq k) c.entries all)
        | false ↦ all
      ]

  answered_fits : (eq : K → K → Bool) (k : K) (seat : ℕ) (c : Cache K V) (a : Look K V) → AllByRecursion Fits c.kept.entries → AllByRecursion Fits (after_answer eq k seat c a).kept.entries
  answered_fits eq k seat c (Hit v) all = brought eq k c.kept.entries all
  answered_fits eq k seat c (Join j owner) all = all
  answered_fits eq k seat c Own all = all

  finished_fits : (eq : K → K → Bool) (weight : V → ℕ) (seat : ℕ) (v : V) (keep : Bool) (c : Cache K V) → AllByRecursion Fits c.kept.entries
      → ((k : K) → owned_by c seat ≡ Some k → Fits (k, v)) → AllByRecursion Fits (finished eq weight seat v keep c).kept.entries
  finished_fits eq weight seat v keep c all new =
      (elim (owned_by c seat) as (λ o. owned_by c seat ≡ o → AllByRecursion Fits (option_map_or (λ k. cond keep (record (released seat c) { kept = stored eq weight k v c.kept }) (released seat c)) o (released seat c)).kept.entries) [
        | None ↦ λ none. all
        | Some k ↦ λ owns. (elim keep as (λ b. AllByRecursion Fits (cond b (record (released seat c) { kept = stored eq weight k v c.kept }) (released seat c)).kept.entries) [
          | true ↦ stored_fits eq weight k v c.kept all (new k owns)
          | false ↦ all
        ])
      ]) refl

  -- a value that is answered serves, and its key has it
  pub hit_fits : (eq : K → K → Bool) (serves : V → Bool) (k : K) (v : V) (c : Cache K V) → AllByRecursion Fits c.kept.entries → Hit v ≡ look_answer eq serves k c
      → (serves v ≡ true) × ((j : K) × (eq k j ≡ true) × Fits (j, v))
  hit_fits eq serves k v c all is =
      (elim (lookup (eq k) c.kept.entries) as (λ o. lookup (eq k) c.kept.entries ≡ o
      → Hit v ≡ answer_by k (option_and_then (λ w. cond (serves w) (Some w) None) o) (owner_of eq k c.pending)
      → (serves v ≡ true) × ((j : K) × (eq k j ≡ true) × Fits (j, v))) [
        | None ↦ λ none h. absurd (no_hit (owner_of eq k c.pending) h)
        | Some w ↦ λ there h. by_test w there (serves w) refl h
      ]) refl is
    where
      no_hit : (o : Option ℕ) → Hit v ≡ answer_by k None o → ⊥
      no_hit None h = cc
      no_hit (Some owner) h = cc

      by_test : (w : V) → lookup (eq k) c.kept.entries ≡ Some w → (b : Bool) → serves w ≡ b → Hit v ≡ answer_by k (cond b (Some w) None) (owner_of eq k c.pending)
          → (serves v ≡ true) × ((j : K) × (eq k j ≡ true) × Fits (j, v))
      by_test w there true good h =
          let same : w ≡ v = cc in
          (subst (λ x. serves x ≡ true) same good, value_there (eq k) c.kept.entries v all (there ∙ ap (λ x. Some x) same))
      by_test w there false bad h = absurd (no_hit (owner_of eq k c.pending) h)

module _ {K V N : Type 0} (r : Rules K V N) (fit : K → V → Type 0) (size : ℕ) (greatest : Option ℕ) (seats : ℕ) where
  abbrev pub pair_fits : K × V → Type 0
  pair_fits e = fit e.0 e.1

  -- of the same bounds
  module _ (t u : TracedCache K V N) (h : CellFits r fit size greatest seats t) (traced : IsTraced r u) where
    pub same_fits : u.cache ≡ t.cache → CellFits r fit size greatest seats u
    same_fits is = record {
      size_is = ap (λ (c : Cache K V). c.kept.size) is ∙ h.size_is;
      greatest_is = ap (λ (c : Cache K V). c.kept.greatest) is ∙ h.greatest_is;
      seats_are = ap (λ (c : Cache K V). length c.pending) is ∙ h.seats_are;
      entries = subst (λ (c : Cache K V). AllByRecursion pair_fits c.kept.entries) (sym is) h.entries;
      traced = traced;
    }

    sized_fits : (c : Cache K V) → u.cache ≡ c → IsSized t.cache c → AllByRecursion pair_fits c.kept.entries → CellFits r fit size greatest seats u
    sized_fits c is sized all = record {
      size_is = ap (λ (d : Cache K V). d.kept.size) is ∙ sized.size ∙ h.size_is;
      greatest_is = ap (λ (d : Cache K V). d.kept.greatest) is ∙ sized.greatest ∙ h.greatest_is;
      seats_are = ap (λ (d : Cache K V). length d.pending) is ∙ sized.seats ∙ h.seats_are;
      entries = subst (λ (d : Cache K V). AllByRecursion pair_fits d.kept.entries) (sym is) all;
      traced = traced;
    }

    pub look_fits : (k : K) (need seat : ℕ) → u.cache ≡ after_look r.eq (r.serves need) k seat t.cache → CellFits r fit size greatest seats u
    look_fits k need seat is = sized_fits (after_look r.eq (r.serves need) k seat t.cache) is (sized_look r.eq (r.serves need) k seat t.cache)
        (answered_fits pair_fits r.eq k seat t.cache (look_answer r.eq (r.serves need) k t.cache) h.entries)

    pub released_fits : (seat : ℕ) → u.cache ≡ released seat t.cache → CellFits r fit size greatest seats u
    released_fits seat is = sized_fits (released seat t.cache) is (sized_released r.eq seat t.cache) h.entries

    pub finish_fits : (seat : ℕ) (v : V) (keep : Bool) → u.cache ≡ finished r.eq r.weight seat v keep t.cache → ((k : K) → owned_by t.cache seat ≡ Some k → fit k v) → CellFits r fit size greatest seats u
    finish_fits seat v keep is new = sized_fits (finished r.eq r.weight seat v keep t.cache) is (sized_finished r.eq r.weight seat v t.cache keep)
        (finished_fits pair_fits r.eq r.weight seat v keep t.cache h.entries new)
