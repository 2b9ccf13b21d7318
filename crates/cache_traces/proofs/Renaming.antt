-- The machine does with numbers what it does with the keys that they stand for.
use Rattle.std.proofs.Common.{◌≡◌, ℕ, zero, suc, ◌+◌, ◌-◌, Bool, true, false, List, [], ◌∷◌, ◌++◌, cond, map, Option, Some, None, refl, sym, ap, subst, ◌∙◌, rules, if◌then◌else◌, slice_get}
use Rattle.std.specs.Prelude.{option_map, option_and_then, unwrap_or, slice_set, take, nat_eq, nat_le}
use Rattle.std.specs.Option.{option_map_or}
use Rattle.std.specs.List.{cons_option, AllByRecursion, IsDistinct, position_from}
use Rattle.std.specs.Cmp.{IsEquivalence}
use Rattle.std.specs.Map.{lookup, lookup_entry, remove_entry}
use Rattle.std.proofs.lemmas.Option.{none-some}
use Rattle.cache_machine.specs.declared.look.Look.{Look}
use Rattle.cache_machine.specs.declared.look.Look.TheVariants.{Hit, Join, Own}
use Rattle.cache_machine.specs.Machine.{Kept, Cache, with_entries, owned_by, owner_of, brought_first, served, stored, cut, light_front, is_light, answer_by, look_answer, after_answer, after_look, released, finished}
use Rattle.cache_traces.specs.Looking.{renamed}
use Rattle.cache_traces.specs.NamedCache.{IsIn, OwnsIn, named_owner, named_entries, named_kept, named_cache, AllIn, AreIn}

some_is : {A : Type 0} {x y : A} → Some x ≡ Some y → x ≡ y
some_is {A} {x} h = ap (λ o. unwrap_or o x) h

zero_suc : (m : ℕ) → nat_eq zero (suc m) ≡ false
zero_suc m = search rules

suc_zero : (n : ℕ) → nat_eq (suc n) zero ≡ false
suc_zero n = search rules

suc_suc : (n m : ℕ) → nat_eq n m ≡ nat_eq (suc n) (suc m)
suc_suc n m = search rules

-- an element of a list of which all hold
all_at : {A : Type 0} (P : A → Type 0) (xs : List A) (n : ℕ) (x : A) → AllByRecursion P xs → slice_get xs n ≡ Some x → P x
all_at P [] n x all is = absurd (none-some x is)
all_at P (y ∷ xs) zero x all is = subst P (some_is is) all.0
all_at P (y ∷ xs) (suc n) x all is = all_at P xs n x all.1 is

-- ---- numbers stay those of keys

module _ {K V : Type 0} (ks : List K) where
  pub all_take : (count : ℕ) (es : List (ℕ × V)) → AllIn ks es → AllIn ks (take count es)
  all_take zero es all = tt
  all_take (suc count) [] all = tt
  all_take (suc count) (e ∷ es) all = (all.0, all_take count es all.1)

  pub all_removed : (n : ℕ) (es : List (ℕ × V)) → AllIn ks es → AllIn ks (remove_entry (nat_eq n) es)
  all_removed n [] all = tt
  all_removed n (e ∷ es) all = elim (nat_eq n e.0) as (λ b. AllIn ks (cond b es (e ∷ remove_entry (nat_eq n) es))) [
    | true ↦ all.1
    | false ↦ (all.0, all_removed n es all.1)
  ]

  pub all_first : (n : ℕ) (es rest : List (ℕ × V)) → AllIn ks es → AllIn ks rest → (from : List (ℕ × V)) → AllIn ks from → AllIn ks (option_map_or (λ e. e ∷ rest) (lookup_entry (nat_eq n) from) es)
  all_first n es rest all others [] ins = all
  all_first n es rest all others (e ∷ from) ins =
      let tail = all_first n es rest all others from ins.1 in
      (elim (nat_eq n e.0) as (λ b. AllIn ks (option_map_or (λ f. f ∷ rest) (cond b (Some e) (lookup_entry (nat_eq n) from)) es)) [
        | true ↦ (ins.0, others)
        | false ↦ tail
      ])

  pub all_brought : (n : ℕ) (es : List (ℕ × V)) → AllIn ks es → AllIn ks (brought_first nat_eq n es)
  all_brought n es all = all_first n es (remove_entry (nat_eq n) es) all (all_removed n es all) es all

  pub all_light : (weight : V → ℕ) (most : ℕ) (es : List (ℕ × V)) → AllIn ks es → AllIn ks (light_front weight most es)
  all_light weight most [] all = tt
  all_light weight most (e ∷ es) all =
      let tail = all_light weight (most - weight e.1) es all.1 in
      (elim (nat_le (weight e.1) most) as (λ b. AllIn ks (cond b (e ∷ light_front weight (most - weight e.1) es) [])) [
        | true ↦ (all.0, tail)
        | false ↦ tt
      ])

  all_cut : (weight : V → ℕ) (size : ℕ) (greatest : Option ℕ) (es : List (ℕ × V)) → AllIn ks es → AllIn ks (cut weight size greatest es)
  all_cut weight size None es all = all_take size es all
  all_cut weight size (Some most) es all = all_light weight most (take size es) (all_take size es all)

  pub all_stored : (weight : V → ℕ) (n : ℕ) (v : V) (c : Kept ℕ V) → IsIn ks n → AllIn ks c.entries → AllIn ks (stored nat_eq weight n v c).entries
  all_stored weight n v c one all = elim (is_light weight c.greatest v) as (λ b. AllIn ks (cond b (with_entries c (cut weight c.size c.greatest ((n, v) ∷ remove_entry (nat_eq n) c.entries))) c).entries) [
    | true ↦ all_cut weight c.size c.greatest ((n, v) ∷ remove_entry (nat_eq n) c.entries) (one, all_removed n c.entries all)
    | false ↦ all
  ]

module _ {K : Type 0} (ks : List K) where
  pub owned_set : (os : List (Option ℕ)) (seat : ℕ) (x : Option ℕ) → OwnsIn ks x → AllByRecursion (OwnsIn ks) os → AllByRecursion (OwnsIn ks) (slice_set os seat x)
  owned_set [] seat x one all = tt
  owned_set (o ∷ os) zero x one all = (one, all.1)
  owned_set (o ∷ os) (suc seat) x one all = (all.0, owned_set os seat x one all.1)

  pub named_set : (os : List (Option ℕ)) (seat : ℕ) (x : Option ℕ) → map (named_owner ks) (slice_set os seat x) ≡ slice_set (map (named_owner ks) os) seat (named_owner ks x)
  named_set [] seat x = refl
  named_set (o ∷ os) zero x = refl
  named_set (o ∷ os) (suc seat) x = ap (λ l. named_owner ks o ∷ l) (named_set os seat x)

  -- the key that a seat owns
  pub named_owned : (os : List (Option ℕ)) (seat : ℕ) → option_and_then (λ o. o) (slice_get (map (named_owner ks) os) seat) ≡ named_owner ks (option_and_then (λ o. o) (slice_get os seat))
  named_owned [] seat = refl
  named_owned (o ∷ os) zero = refl
  named_owned (o ∷ os) (suc seat) = named_owned os seat

  pub owned_at : (os : List (Option ℕ)) (seat : ℕ) → AllByRecursion (OwnsIn ks) os → OwnsIn ks (option_and_then (λ o. o) (slice_get os seat))
  owned_at [] seat all = tt
  owned_at (o ∷ os) zero all = all.0
  owned_at (o ∷ os) (suc seat) all = owned_at os seat all.1

module _ {K : Type 0} {eq : K → K → Bool} (laws : IsEquivalence eq) where
  -- distinct keys are equal where their numbers are
  tells : (ks : List K) → IsDistinct eq ks → (n m : ℕ) (k j : K) → slice_get ks n ≡ Some k → slice_get ks m ≡ Some j → eq k j ≡ nat_eq n m
  unfolding IsDistinct
  tells [] apart n m k j a b = absurd (none-some k a)
  tells (x ∷ xs) apart zero zero k j a b = (λ i. eq (sym (some_is a) i) (sym (some_is b) i)) ∙ laws.refl x
  tells (x ∷ xs) apart zero (suc m) k j a b = ap (λ y. eq y j) (sym (some_is a)) ∙ all_at (λ y. eq x y ≡ false) xs m j apart.0 b ∙ sym (zero_suc m)
  tells (x ∷ xs) apart (suc n) zero k j a b = ap (eq k) (sym (some_is b)) ∙ laws.symm k x ∙ all_at (λ y. eq x y ≡ false) xs n k apart.0 a ∙ sym (suc_zero n)
  tells (x ∷ xs) apart (suc n) (suc m) k j a b = tells xs apart.1 n m k j a b ∙ suc_suc n m

  module _ (ks : List K) (apart : IsDistinct eq ks) (n : ℕ) (k : K) (is : slice_get ks n ≡ Some k) where
    pub same_owner : (os : List (Option ℕ)) (i : ℕ) → AllByRecursion (OwnsIn ks) os →
        position_from (λ o. option_map_or (eq k) o false) i (map (named_owner ks) os) ≡ position_from (λ o. option_map_or (nat_eq n) o false) i os
    same_owner [] i all = refl
    same_owner (None ∷ os) i all = same_owner os (i + 1) all.1
    same_owner (Some m ∷ os) i all =
        ap (λ o. cond (option_map_or (eq k) o false) (Some i) (position_from (λ o. option_map_or (eq k) o false) (i + 1) (map (named_owner ks) os))) all.0.1
        ∙ (λ t. cond (tells ks apart n m k all.0.0 is all.0.1 t) (Some i) (same_owner os (i + 1) all.1 t))

  module _ {V : Type 0} (ks : List K) (apart : IsDistinct eq ks) (n : ℕ) (k : K) (is : slice_get ks n ≡ Some k) where
    cons_is : (m : ℕ) (j : K) (v : V) (es : List (ℕ × V)) → slice_get ks m ≡ Some j → named_entries ks ((m, v) ∷ es) ≡ (j, v) ∷ named_entries ks es
    cons_is m j v es h = ap (λ o. cons_option (option_map (λ l. (l, v)) o) (named_entries ks es)) h

    same_lookup : (es : List (ℕ × V)) → AllIn ks es → lookup (eq k) (named_entries ks es) ≡ lookup (nat_eq n) es
    same_lookup [] all = refl
    same_lookup (e ∷ es) all =
        ap (lookup (eq k)) (cons_is e.0 all.0.0 e.1 es all.0.1)
        ∙ (λ i. cond (tells ks apart n e.0 k all.0.0 is all.0.1 i) (Some e.1) (same_lookup es all.1 i))

    same_remove : (es : List (ℕ × V)) → AllIn ks es → remove_entry (eq k) (named_entries ks es) ≡ named_entries ks (remove_entry (nat_eq n) es)
    same_remove [] all = refl
    same_remove (e ∷ es) all =
        ap (remove_entry (eq k)) (cons_is e.0 all.0.0 e.1 es all.0.1)
        ∙ (λ i. cond (tells ks apart n e.0 k all.0.0 is all.0.1 i) (named_entries ks es) ((all.0.0, e.1) ∷ same_remove es all.1 i))
        ∙ (elim (nat_eq n e.0) as (λ b. cond b (named_entries ks es) ((all.0.0, e.1) ∷ named_entries ks (remove_entry (nat_eq n) es)) ≡ named_entries ks (cond b es (e ∷ remove_entry (nat_eq n) es))) [
          | true ↦ refl
          | false ↦ sym (cons_is e.0 all.0.0 e.1 (remove_entry (nat_eq n) es) all.0.1)
        ])

    -- the entry that stands first is the same
    same_first : (es rest : List (ℕ × V)) → AllIn ks es → (others : List (K × V)) → others ≡ named_entries ks rest → (old : List (K × V)) → old ≡ named_entries ks es →
        (from : List (ℕ × V)) → AllIn ks from →
        option_map_or (λ e. e ∷ others) (lookup_entry (eq k) (named_entries ks from)) old ≡ named_entries ks (option_map_or (λ e. e ∷ rest) (lookup_entry (nat_eq n) from) es)
    same_first es rest all others o old p [] ins = p
    same_first es rest all others o old p (e ∷ from) ins =
        ap (λ l. option_map_or (λ f. f ∷ others) (lookup_entry (eq k) l) old) (cons_is e.0 ins.0.0 e.1 from ins.0.1)
        ∙ ap (λ b. option_map_or (λ f. f ∷ others) (cond b (Some (ins.0.0, e.1)) (lookup_entry (eq k) (named_entries ks from))) old) (tells ks apart n e.0 k ins.0.0 is ins.0.1)
        ∙ by (nat_eq n e.0) (same_first es rest all others o old p from ins.1)
      where
        by : (b : Bool) → option_map_or (λ f. f ∷ others) (lookup_entry (eq k) (named_entries ks from)) old ≡ named_entries ks (option_map_or (λ f. f ∷ rest) (lookup_entry (nat_eq n) from) es) →
            option_map_or (λ f. f ∷ others) (cond b (Some (ins.0.0, e.1)) (lookup_entry (eq k) (named_entries ks from))) old ≡ named_entries ks (option_map_or (λ f. f ∷ rest) (cond b (Some e) (lookup_entry (nat_eq n) from)) es)
        by true tail = ap (λ l. (ins.0.0, e.1) ∷ l) o ∙ sym (cons_is e.0 ins.0.0 e.1 rest ins.0.1)
        by false tail = tail

    same_brought : (es : List (ℕ × V)) → AllIn ks es → brought_first eq k (named_entries ks es) ≡ named_entries ks (brought_first nat_eq n es)
    same_brought es all = same_first es (remove_entry (nat_eq n) es) all (remove_entry (eq k) (named_entries ks es)) (same_remove es all) (named_entries ks es) refl es all

    same_served : (serves : V → Bool) (es : List (ℕ × V)) → AllIn ks es → served eq serves k (named_entries ks es) ≡ served nat_eq serves n es
    same_served serves es all = ap (λ o. option_and_then (λ v. if serves v then Some v else None) o) (same_lookup es all)

    -- ---- what is kept

    module _ (weight : V → ℕ) where
      same_take : (count : ℕ) (es : List (ℕ × V)) → AllIn ks es → take count (named_entries ks es) ≡ named_entries ks (take count es)
      same_take zero es all = refl
      same_take (suc count) [] all = refl
      same_take (suc count) (e ∷ es) all =
          ap (take (suc count)) (cons_is e.0 all.0.0 e.1 es all.0.1) ∙ ap (λ l. (all.0.0, e.1) ∷ l) (same_take count es all.1) ∙ sym (cons_is e.0 all.0.0 e.1 (take count es) all.0.1)

      same_light : (most : ℕ) (es : List (ℕ × V)) → AllIn ks es → light_front weight most (named_entries ks es) ≡ named_entries ks (light_front weight most es)
      same_light most [] all = refl
      same_light most (e ∷ es) all =
          ap (light_front weight most) (cons_is e.0 all.0.0 e.1 es all.0.1)
          ∙ ap (λ l. cond (nat_le (weight e.1) most) ((all.0.0, e.1) ∷ l) []) (same_light (most - weight e.1) es all.1)
          ∙ (elim (nat_le (weight e.1) most) as (λ b. cond b ((all.0.0, e.1) ∷ named_entries ks (light_front weight (most - weight e.1) es)) [] ≡ named_entries ks (cond b (e ∷ light_front weight (most - weight e.1) es) [])) [
            | true ↦ sym (cons_is e.0 all.0.0 e.1 (light_front weight (most - weight e.1) es) all.0.1)
            | false ↦ refl
          ])

      same_cut : (size : ℕ) (greatest : Option ℕ) (es : List (ℕ × V)) → AllIn ks es → cut weight size greatest (named_entries ks es) ≡ named_entries ks (cut weight size greatest es)
      same_cut size None es all = same_take size es all
      same_cut size (Some most) es all = ap (light_front weight most) (same_take size es all) ∙ same_light most (take size es) (all_take ks size es all)

      same_stored : (v : V) (c : Kept ℕ V) → AllIn ks c.entries → stored eq weight k v (named_kept ks c) ≡ named_kept ks (stored nat_eq weight n v c)
      same_stored v c all =
          let put : List (ℕ × V) = (n, v) ∷ remove_entry (nat_eq n) c.entries in
          let first : (k, v) ∷ remove_entry (eq k) (named_entries ks c.entries) ≡ named_entries ks put = ap (λ l. (k, v) ∷ l) (same_remove c.entries all) ∙ sym (cons_is n k v (remove_entry (nat_eq n) c.entries) is) in
          let cut_is = ap (cut weight c.size c.greatest) first ∙ same_cut c.size c.greatest put ((k, is), all_removed ks n c.entries all) in
          (elim (is_light weight c.greatest v) as (λ b. cond b (with_entries (named_kept ks c) (cut weight c.size c.greatest ((k, v) ∷ remove_entry (eq k) (named_entries ks c.entries)))) (named_kept ks c) ≡ named_kept ks (cond b (with_entries c (cut weight c.size c.greatest put)) c)) [
            | true ↦ ap (with_entries (named_kept ks c)) cut_is
            | false ↦ refl
          ])

-- ---- whole states

module _ {K : Type 0} {eq : K → K → Bool} (laws : IsEquivalence eq) {V : Type 0} (ks : List K) (apart : IsDistinct eq ks) where
  module _ (n : ℕ) (k : K) (is : slice_get ks n ≡ Some k) where
    renamed_answer : (o : Option V) (owner : Option ℕ) → answer_by k o owner ≡ renamed k (answer_by n o owner)
    renamed_answer (Some v) owner = refl
    renamed_answer None (Some owner) = refl
    renamed_answer None None = refl

    -- the answer for the key is that for its number
    pub same_answer : (serves : V → Bool) (c : Cache ℕ V) → AreIn ks c → look_answer eq serves k (named_cache ks c) ≡ renamed k (look_answer nat_eq serves n c)
    same_answer serves c ins =
        (λ i. answer_by k (same_served laws ks apart n k is serves c.kept.entries ins.entries_in i) (same_owner laws ks apart n k is c.pending 0 ins.owned_in i))
        ∙ renamed_answer (served nat_eq serves n c.kept.entries) (owner_of nat_eq n c.pending)

    after_is : (seat : ℕ) (c : Cache ℕ V) (a : Look ℕ V) → AreIn ks c → after_answer eq k seat (named_cache ks c) (renamed k a) ≡ named_cache ks (after_answer nat_eq n seat c a)
    after_is seat c (Hit v) ins = ap (λ es. record (named_cache ks c) { kept = with_entries (named_kept ks c.kept) es }) (same_brought laws ks apart n k is c.kept.entries ins.entries_in)
    after_is seat c (Join m owner) ins = refl
    after_is seat c Own ins = ap (λ os. record (named_cache ks c) { pending = os }) (ap (slice_set (map (named_owner ks) c.pending) seat) (sym is) ∙ sym (named_set ks c.pending seat (Some n)))

    -- and so is what it leaves
    pub same_after : (serves : V → Bool) (seat : ℕ) (c : Cache ℕ V) → AreIn ks c → after_look eq serves k seat (named_cache ks c) ≡ named_cache ks (after_look nat_eq serves n seat c)
    same_after serves seat c ins = ap (after_answer eq k seat (named_cache ks c)) (same_answer serves c ins) ∙ after_is seat c (look_answer nat_eq serves n c) ins

    in_after : (seat : ℕ) (c : Cache ℕ V) (a : Look ℕ V) → AreIn ks c → AreIn ks (after_answer nat_eq n seat c a)
    in_after seat c (Hit v) ins = record { entries_in = all_brought ks n c.kept.entries ins.entries_in; owned_in = ins.owned_in }
    in_after seat c (Join m owner) ins = ins
    in_after seat c Own ins = record { entries_in = ins.entries_in; owned_in = owned_set ks c.pending seat (Some n) (k, is) ins.owned_in }

    pub in_look : (serves : V → Bool) (seat : ℕ) (c : Cache ℕ V) → AreIn ks c → AreIn ks (after_look nat_eq serves n seat c)
    in_look serves seat c ins = in_after seat c (look_answer nat_eq serves n c) ins

  -- ---- the end of a key

  pub same_released : (seat : ℕ) (c : Cache ℕ V) → released seat (named_cache ks c) ≡ named_cache ks (released seat c)
  same_released seat c = ap (λ os. record (named_cache ks c) { pending = os }) (sym (named_set ks c.pending seat None))

  pub in_released : (seat : ℕ) (c : Cache ℕ V) → AreIn ks c → AreIn ks (released seat c)
  in_released seat c ins = record { entries_in = ins.entries_in; owned_in = owned_set ks c.pending seat None tt ins.owned_in }

  pub same_owned : (seat : ℕ) (c : Cache ℕ V) → owned_by (named_cache ks c) seat ≡ named_owner ks (owned_by c seat)
  same_owned seat c = named_owned ks c.pending seat

  module _ (weight : V → ℕ) (seat : ℕ) (v : V) where
    given_up_or : {J : Type 0} → (J → J → Bool) → Bool → Cache J V → Option J → Cache J V
    given_up_or e keep c o = option_map_or (λ k. if keep then record (released seat c) { kept = stored e weight k v c.kept } else released seat c) o (released seat c)

    ends : (keep : Bool) (c : Cache ℕ V) → AreIn ks c → (o : Option ℕ) → OwnsIn ks o → given_up_or eq keep (named_cache ks c) (named_owner ks o) ≡ named_cache ks (given_up_or nat_eq keep c o)
    unfolding given_up_or
    ends keep c ins None one = same_released seat c
    ends false c ins (Some n) one = ap (λ (o : Option K). given_up_or eq false (named_cache ks c) o) one.1 ∙ same_released seat c
    ends true c ins (Some n) one =
        ap (λ (o : Option K). given_up_or eq true (named_cache ks c) o) one.1
        ∙ (λ i. record (same_released seat c i) { kept = same_stored laws ks apart n one.0 one.1 weight v c.kept ins.entries_in i })

    pub same_finished : (keep : Bool) (c : Cache ℕ V) → AreIn ks c → finished eq weight seat v keep (named_cache ks c) ≡ named_cache ks (finished nat_eq weight seat v keep c)
    unfolding given_up_or
    same_finished keep c ins = ap (given_up_or eq keep (named_cache ks c)) (same_owned seat c) ∙ ends keep c ins (owned_by c seat) (owned_at ks c.pending seat ins.owned_in)

    in_ends : (keep : Bool) (c : Cache ℕ V) → AreIn ks c → (o : Option ℕ) → OwnsIn ks o → AreIn ks (given_up_or nat_eq keep c o)
    unfolding given_up_or
    in_ends keep c ins None one = in_released seat c ins
    in_ends false c ins (Some n) one = in_released seat c ins
    in_ends true c ins (Some n) one = record { entries_in = all_stored ks weight n v c.kept one ins.entries_in; owned_in = owned_set ks c.pending seat None tt ins.owned_in }

    pub in_finished : (keep : Bool) (c : Cache ℕ V) → AreIn ks c → AreIn ks (finished nat_eq weight seat v keep c)
    unfolding given_up_or
    in_finished keep c ins = in_ends keep c ins (owned_by c seat) (owned_at ks c.pending seat ins.owned_in)

-- ---- keys behind the others

module _ {K : Type 0} (ks more : List K) where
  same_get : (ls : List K) (n : ℕ) (k : K) → slice_get ls n ≡ Some k → slice_get (ls ++ more) n ≡ Some k
  same_get [] n k is = absurd (none-some k is)
  same_get (l ∷ ls) zero k is = is
  same_get (l ∷ ls) (suc n) k is = same_get ls n k is

  owners_grown : (os : List (Option ℕ)) → AllByRecursion (OwnsIn ks) os → map (named_owner (ks ++ more)) os ≡ map (named_owner ks) os
  owners_grown [] all = refl
  owners_grown (None ∷ os) all = ap (λ l. None ∷ l) (owners_grown os all.1)
  owners_grown (Some n ∷ os) all = λ i. (same_get ks n all.0.0 all.0.1 ∙ sym all.0.1) i ∷ owners_grown os all.1 i

  owned_grown : (os : List (Option ℕ)) → AllByRecursion (OwnsIn ks) os → AllByRecursion (OwnsIn (ks ++ more)) os
  owned_grown [] all = tt
  owned_grown (None ∷ os) all = (tt, owned_grown os all.1)
  owned_grown (Some n ∷ os) all = ((all.0.0, same_get ks n all.0.0 all.0.1), owned_grown os all.1)

  module _ {V : Type 0} where
    entries_grown : (es : List (ℕ × V)) → AllIn ks es → named_entries (ks ++ more) es ≡ named_entries ks es
    entries_grown [] all = refl
    entries_grown (e ∷ es) all = λ i. cons_option (option_map (λ k. (k, e.1)) ((same_get ks e.0 all.0.0 all.0.1 ∙ sym all.0.1) i)) (entries_grown es all.1 i)

    all_grown : (es : List (ℕ × V)) → AllIn ks es → AllIn (ks ++ more) es
    all_grown [] all = tt
    all_grown (e ∷ es) all = ((all.0.0, same_get ks e.0 all.0.0 all.0.1), all_grown es all.1)

    pub cache_grown : (c : Cache ℕ V) → AreIn ks c → named_cache (ks ++ more) c ≡ named_cache ks c
    cache_grown c ins = λ i. record { kept = record { size = c.kept.size; greatest = c.kept.greatest; entries = entries_grown c.kept.entries ins.entries_in i }; pending = owners_grown c.pending ins.owned_in i }

    pub in_grown : (c : Cache ℕ V) → AreIn ks c → AreIn (ks ++ more) c
    in_grown c ins = record { entries_in = all_grown c.kept.entries ins.entries_in; owned_in = owned_grown c.pending ins.owned_in }
