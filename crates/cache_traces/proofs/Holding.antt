-- What each call leaves of a cache with its trace.
use Rattle.std.proofs.Common.{◌≡◌, ℕ, zero, suc, ◌+◌, ◌<◌, ◌≤◌, Bool, true, false, List, [], ◌∷◌, ◌++◌, cond, map, length, length-set, Option, Some, None, refl, sym, ap, subst, ◌∙◌, arith, slice_get}
use Rattle.std.specs.Prelude.{Result, Ok, Err, OnOk, OnErr, IsSome, is_some, option_map, option_and_then, take, slice_set, replicate, nat_eq}
use Rattle.std.specs.Option.{option_map_or}
use Rattle.std.specs.List.{AllByRecursion, IsDistinct, cons_option}
use Rattle.std.specs.Result.{is_ok}
use Rattle.std.specs.Cmp.{IsEquivalence}
use Rattle.std.specs.Map.{keys_of, remove_entry}
use Rattle.std.proofs.lemmas.Option.{none-some}
use Rattle.cache_machine.specs.declared.look.Look.{Look}
use Rattle.cache_machine.specs.declared.look.Look.TheVariants.{Hit, Join, Own}
use Rattle.cache_machine.specs.Machine.{Cache, empty_cache, with_entries, owned_by, stored, cut, is_light, look_answer, after_answer, after_look, released, finished as after_finish, recent_keys}
use Rattle.cache_traces.specs.declared.act.Act.{Act}
use Rattle.cache_traces.specs.declared.act.Step.{Step}
use Rattle.cache_traces.specs.declared.act.Act.TheVariants.{Looked, Finished, GaveUp, Listed}
use Rattle.cache_traces.specs.Looking.{renamed, keyless, answer_of, told_of, with_look}
use Rattle.cache_traces.specs.Named.{all_named}
use Rattle.cache_traces.specs.NamedCache.{IsIn, AllIn, OwnsIn, named_owner, named_entries, named_cache, AreIn}
use Rattle.cache_traces.specs.Traced.{and_then}
use Rattle.cache_traces.specs.TracedCache.{IsTraced, owner_count, Holds}
use Rattle.cache_traces.specs.Traces.{Rules, told, Follows, LeadsTo, begun, gone_on}
use Rattle.cache_traces.proofs.Owners.{pending-finish}
use Rattle.cache_traces.proofs.Renaming.{same_answer, same_after, in_look, same_released, in_released, same_owned, same_finished, in_finished, cache_grown, in_grown, owned_at}

distinct_nil : {K : Type 0} (eq : K → K → Bool) → IsDistinct eq []
unfolding IsDistinct
distinct_nil eq = tt

-- ---- counts of owners

module _ {K : Type 0} where
  pub count_few : (os : List (Option K)) → owner_count os ≤ length os
  count_few [] = omega arith
  count_few (None ∷ os) = let rest = count_few os in omega arith
  count_few (Some k ∷ os) = let rest = count_few os in omega arith

  pub count_ended : (os : List (Option K)) (seat : ℕ) (k : K) → option_and_then (λ o. o) (slice_get os seat) ≡ Some k → owner_count (slice_set os seat None) + 1 ≡ owner_count os
  count_ended [] seat k is = absurd (none-some k is)
  count_ended (None ∷ os) zero k is = absurd (none-some k is)
  count_ended (Some j ∷ os) zero k is = omega arith
  count_ended (None ∷ os) (suc seat) k is = count_ended os seat k is
  count_ended (Some j ∷ os) (suc seat) k is = let rest = count_ended os seat k is in omega arith

abbrev pub nobody : (K : Type 0) → ℕ → List (Option K)
nobody K seats = replicate seats None

pub count_none : (K : Type 0) (seats : ℕ) → owner_count (nobody K seats) ≡ 0
count_none K zero = refl
count_none K (suc seats) = count_none K seats

few_after : (os before : List (Option ℕ)) {more : ℕ} → length os ≡ length before → length before ≤ more → owner_count os ≤ more
few_after os before same few = let most = count_few os in omega arith

-- a number below the length is a key's
pub within : {K : Type 0} (ks : List K) (n : ℕ) → n < length ks → IsIn ks n
within [] n h = absurd (omega arith)
within (k ∷ ks) zero h = (k, refl)
within (k ∷ ks) (suc n) h = within ks n (omega arith)

told_renamed : {J K V : Type 0} (k : K) (a : Look J V) → told (renamed k a) ≡ told a
told_renamed k (Hit v) = refl
told_renamed k (Join n owner) = refl
told_renamed k Own = refl

-- ---- sizes stay

-- the size, the greatest weight and the seats are the same
pub record IsSized {K V : Type 0} (c next : Cache K V) : Type 0 where
  pub size : next.kept.size ≡ c.kept.size
  pub greatest : next.kept.greatest ≡ c.kept.greatest
  pub seats : length next.pending ≡ length c.pending

module _ {K V : Type 0} (eq : K → K → Bool) where
  sized_answer : (k : K) (seat : ℕ) (c : Cache K V) (a : Look K V) → IsSized c (after_answer eq k seat c a)
  sized_answer k seat c (Hit v) = record { size = refl; greatest = refl; seats = refl }
  sized_answer k seat c (Join j owner) = record { size = refl; greatest = refl; seats = refl }
  sized_answer k seat c Own = record { size = refl; greatest = refl; seats = length-set c.pending seat (Some k) }

  pub sized_look : (serves : V → Bool) (k : K) (seat : ℕ) (c : Cache K V) → IsSized c (after_look eq serves k seat c)
  sized_look serves k seat c = sized_answer k seat c (look_answer eq serves k c)

  pub sized_released : (seat : ℕ) (c : Cache K V) → IsSized c (released seat c)
  sized_released seat c = record { size = refl; greatest = refl; seats = length-set c.pending seat None }

  module _ (weight : V → ℕ) (seat : ℕ) (v : V) (c : Cache K V) where
    sized_stored : (k : K) → IsSized c (record (released seat c) { kept = stored eq weight k v c.kept })
    sized_stored k = elim (is_light weight c.kept.greatest v) as (λ b. IsSized c (record (released seat c) { kept = cond b (with_entries c.kept (cut weight c.kept.size c.kept.greatest ((k, v) ∷ remove_entry (eq k) c.kept.entries))) c.kept })) [
      | true ↦ record { size = refl; greatest = refl; seats = length-set c.pending seat None }
      | false ↦ record { size = refl; greatest = refl; seats = length-set c.pending seat None }
    ]

    pub sized_finished : (keep : Bool) → IsSized c (after_finish eq weight seat v keep c)
    sized_finished keep = elim (owned_by c seat) as (λ o. IsSized c (option_map_or (λ k. cond keep (record (released seat c) { kept = stored eq weight k v c.kept }) (released seat c)) o (released seat c))) [
      | None ↦ sized_released seat c
      | Some k ↦ (elim keep as (λ b. IsSized c (cond b (record (released seat c) { kept = stored eq weight k v c.kept }) (released seat c))) [
        | true ↦ sized_stored k
        | false ↦ sized_released seat c
      ])
    ]

-- ---- calls

module _ {K V N : Type 0} (r : Rules K V N) (keys : List K) where
  pub many : (os : List (Option ℕ)) → length (map (named_owner keys) os) ≡ length os
  many [] = refl
  many (o ∷ os) = ap suc (many os)

  -- one more call
  step : (steps : List (Step K N)) (room more : ℕ) (c next : Cache ℕ V) (seat : ℕ) (act : Act K N) → Holds r keys steps room c → seat < length c.pending
      → IsSized (named_cache keys c) (named_cache keys next) → Follows r seat (named_cache keys c) act (named_cache keys next) → AreIn keys next → owner_count next.pending ≤ more
      → Holds r keys (and_then steps seat act) more next
  step steps room more c next seat act h in_seats sized follows ins few = record {
    distinct = h.distinct;
    in_keys = ins;
    ends = few;
    traced = subst (λ e. LeadsTo r e (and_then steps seat act) (named_cache keys next)) (λ i. empty_cache (sym sized.size i) (sym sized.greatest i) (sym sized.seats i))
        (gone_on steps (named_cache keys c) (named_cache keys next) (record { seat = seat; act = act }) h.traced (subst (λ n. seat < n) (sym (many c.pending)) in_seats) follows);
  }

  module _ (laws : IsEquivalence r.eq) (steps : List (Step K N)) (room more : ℕ) (c : Cache ℕ V) (seat : ℕ) (h : Holds r keys steps room c) (in_seats : seat < length c.pending) where
    pub looked_up : (n : ℕ) (k : K) (need : ℕ) (again : Bool) → slice_get keys n ≡ Some k → owned_by (named_cache keys c) seat ≡ None → length c.pending ≤ more →
        Holds r keys (and_then steps seat (Looked k need again (told (look_answer nat_eq (r.serves need) n c)))) more (after_look nat_eq (r.serves need) n seat c)
    looked_up n k need again is idle few =
        let next = after_look nat_eq (r.serves need) n seat c in
        let moved = same_after laws keys h.distinct n k is (r.serves need) seat c h.in_keys in
        let answer = told_renamed k (look_answer nat_eq (r.serves need) n c) in
        let same = same_answer laws keys h.distinct n k is (r.serves need) c h.in_keys in
        step steps room more c next seat (Looked k need again (told (look_answer nat_eq (r.serves need) n c))) h in_seats
        (subst (IsSized (named_cache keys c)) moved (sized_look r.eq (r.serves need) k seat (named_cache keys c)))
        (idle, sym answer ∙ ap told (sym same), sym moved)
        (in_look laws keys h.distinct n k is (r.serves need) seat c h.in_keys)
        (few_after next.pending c.pending (sized_look nat_eq (r.serves need) n seat c).seats few)

    -- a look-up that is not kept leaves all as it was
    pub unkept : length c.pending ≤ more → Holds r keys steps more c
    unkept few = record { distinct = h.distinct; in_keys = h.in_keys; ends = few_after c.pending c.pending refl few; traced = h.traced }

    module _ (k : K) (owns : owned_by (named_cache keys c) seat ≡ Some k) where
      owner_is : (o : Option ℕ) → named_owner keys o ≡ Some k → (n : ℕ) × (o ≡ Some n)
      owner_is None is = absurd (none-some k is)
      owner_is (Some n) is = (n, refl)

      -- one owner less
      fewer : room ≡ more + 1 → owner_count (slice_set c.pending seat None) ≤ more
      fewer less =
          let one = owner_is (owned_by c seat) (sym (same_owned laws keys h.distinct seat c) ∙ owns) in
          let count = count_ended c.pending seat one.0 one.1 in
          let ends = h.ends in omega arith

      pub gave : room ≡ more + 1 → Holds r keys (and_then steps seat (GaveUp k)) more (released seat c)
      gave less =
          let moved = same_released laws keys h.distinct seat c in
          step steps room more c (released seat c) seat (GaveUp k) h in_seats
          (subst (IsSized (named_cache keys c)) moved (sized_released r.eq seat (named_cache keys c))) (owns, sym moved) (in_released laws keys h.distinct seat c h.in_keys) (fewer less)

      pub ended_without : (v : V) (most : ℕ) → room ≡ more + 1 → Holds r keys (and_then steps seat (Finished k (r.numbers most v) false)) more (released seat c)
      ended_without v most less =
          let moved = same_released laws keys h.distinct seat c in
          step steps room more c (released seat c) seat (Finished k (r.numbers most v) false) h in_seats
          (subst (IsSized (named_cache keys c)) moved (sized_released r.eq seat (named_cache keys c))) (owns, (v, (most, refl), sym moved)) (in_released laws keys h.distinct seat c h.in_keys) (fewer less)

      pub ended_with : (v : V) (most : ℕ) → room ≡ more + 1 → Holds r keys (and_then steps seat (Finished k (r.numbers most v) true)) more (after_finish nat_eq r.weight seat v (r.keeps (r.numbers most v)) c)
      ended_with v most less =
          let keep = r.keeps (r.numbers most v) in
          let next = after_finish nat_eq r.weight seat v keep c in
          let moved = same_finished laws keys h.distinct r.weight seat v keep c h.in_keys in
          step steps room more c next seat (Finished k (r.numbers most v) true) h in_seats
          (subst (IsSized (named_cache keys c)) moved (sized_finished r.eq r.weight seat v (named_cache keys c) keep)) (owns, (v, (most, refl), sym moved)) (in_finished laws keys h.distinct r.weight seat v keep c h.in_keys)
          (subst (λ os. owner_count os ≤ more) (sym (pending-finish nat_eq r.weight seat v keep c)) (fewer less))

-- ---- the first state, and more keys

module _ {K V N : Type 0} (r : Rules K V N) where
  no_owner : (keys : List K) (seats : ℕ) → map (named_owner keys) (replicate seats None) ≡ replicate seats None
  no_owner keys zero = refl
  no_owner keys (suc seats) = ap (λ l. None ∷ l) (no_owner keys seats)

  none_owned : (keys : List K) (seats : ℕ) → AllByRecursion (OwnsIn keys) (replicate seats None)
  none_owned keys zero = tt
  none_owned keys (suc seats) = (tt, none_owned keys seats)

  abbrev pub at_first : ℕ → Option ℕ → ℕ → Cache K V
  at_first size greatest seats = empty_cache size greatest seats

  pub named_empty : (size : ℕ) (greatest : Option ℕ) (seats : ℕ) (c : Cache ℕ V) (keys : List K) → c ≡ empty_cache size greatest seats → named_cache keys c ≡ at_first size greatest seats
  named_empty size greatest seats c keys is = ap (named_cache keys) is ∙ ap (λ os. record (at_first size greatest seats) { pending = os }) (no_owner keys seats)

  -- nothing was called yet
  pub begins : (size : ℕ) (greatest : Option ℕ) (seats room : ℕ) (c : Cache ℕ V) → c ≡ empty_cache size greatest seats → Holds r [] [] room c
  begins size greatest seats room c is = subst (Holds r [] [] room) (sym is) (record {
    distinct = distinct_nil r.eq;
    in_keys = record { entries_in = tt; owned_in = none_owned [] seats };
    ends = subst (λ n. n ≤ room) (sym (count_none ℕ seats)) (omega arith);
    traced = subst (λ e. LeadsTo r e [] (named_cache [] (empty_cache size greatest seats))) (whole []) begun;
  })
    where
      many_none : (keys : List K) (n : ℕ) → length (map (named_owner keys) (replicate n None)) ≡ n
      many_none keys zero = refl
      many_none keys (suc n) = ap suc (many_none keys n)

      whole : (keys : List K) → named_cache keys (empty_cache size greatest seats) ≡ at_first size greatest (length (map (named_owner keys) (replicate seats None)))
      whole keys = named_empty size greatest seats (empty_cache size greatest seats) keys refl ∙ ap (at_first size greatest) (sym (many_none keys seats))

  -- more keys
  module _ (keys more : List K) (apart : IsDistinct r.eq (keys ++ more)) (steps : List (Step K N)) (room : ℕ) (c : Cache ℕ V) where
    pub grown : Holds r keys steps room c → Holds r (keys ++ more) steps room c
    grown h = record {
      distinct = apart;
      in_keys = in_grown keys more c h.in_keys;
      ends = h.ends;
      traced = subst (λ d. IsTraced r (record { keys = keys ++ more; cache = d; steps = steps })) (sym (cache_grown keys more c h.in_keys)) h.traced;
    }

-- ---- for the calls' answers

-- the sizes of what is kept
pub count_named : {K V : Type 0} (keys : List K) (es : List (ℕ × V)) → AllIn keys es → length (named_entries keys es) ≡ length es
count_named keys [] all = refl
count_named keys (e ∷ es) all = ap (λ o. length (cons_option (option_map (λ k. (k, e.1)) o) (named_entries keys es))) all.0.1 ∙ ap suc (count_named keys es all.1)

seat_within : {K : Type 0} (os : List (Option K)) (seat : ℕ) (k : K) → option_and_then (λ o. o) (slice_get os seat) ≡ Some k → seat < length os
seat_within [] seat k is = absurd (none-some k is)
seat_within (o ∷ os) zero k is = omega arith
seat_within (o ∷ os) (suc seat) k is = let rest = seat_within os seat k is in omega arith

-- a number that is a key's has a name
pub some_named : {K A : Type 0} (f : K → A) (keys : List K) (n : ℕ) → IsIn keys n → IsSome (option_map f (slice_get keys n))
some_named f keys n one = ap (λ o. is_some (option_map f o)) one.1

module _ {K V N : Type 0} (r : Rules K V N) (keys : List K) (laws : IsEquivalence r.eq) (steps : List (Step K N)) (room : ℕ) (c : Cache ℕ V) (seat : ℕ) (h : Holds r keys steps room c) (n : ℕ) (owned : owned_by c seat ≡ Some n) where
  -- the key that the seat owns
  pub owned_key : IsIn keys n
  owned_key = subst (OwnsIn keys) owned (owned_at keys c.pending seat h.in_keys.owned_in)

  -- and in the machine's state
  pub owned_named : owned_by (named_cache keys c) seat ≡ slice_get keys n
  owned_named = same_owned laws keys h.distinct seat c ∙ ap (named_owner keys) owned

  pub owns_key : owned_by (named_cache keys c) seat ≡ Some owned_key.0
  owns_key = owned_named ∙ owned_key.1

  pub room_for_end : 1 ≤ room
  room_for_end = let ends = h.ends in let count = count_ended c.pending seat n owned in omega arith

  pub gave_up_holds : (more : ℕ) → more + 1 ≡ room → Holds r keys (and_then steps seat (GaveUp owned_key.0)) more (released seat c)
  gave_up_holds more less = gave r keys laws steps room more c seat h (seat_within c.pending seat n owned) owned_key.0 owns_key (sym less)

  pub finished_holds : (v : V) (most more : ℕ) {T E : Type 0} (result : Result T E) (next : Cache ℕ V) → more + 1 ≡ room
      → OnOk result (next ≡ after_finish nat_eq r.weight seat v (r.keeps (r.numbers most v)) c) → OnErr result (next ≡ released seat c)
      → Holds r keys (and_then steps seat (Finished owned_key.0 (r.numbers most v) (is_ok result))) more next
  finished_holds v most more (Ok x) next less ok err = subst (Holds r keys (and_then steps seat (Finished owned_key.0 (r.numbers most v) true)) more) (sym ok) (ended_with r keys laws steps room more c seat h (seat_within c.pending seat n owned) owned_key.0 owns_key v most (sym less))
  finished_holds v most more (Err e) next less ok err = subst (Holds r keys (and_then steps seat (Finished owned_key.0 (r.numbers most v) false)) more) (sym err) (ended_without r keys laws steps room more c seat h (seat_within c.pending seat n owned) owned_key.0 owns_key v most (sym less))

module _ {K V N : Type 0} (r : Rules K V N) where
  -- the same, of equal parts
  pub moved : (keys ls : List K) (steps ss : List (Step K N)) (room more : ℕ) (c d : Cache ℕ V) → Holds r keys steps room c → ls ≡ keys → ss ≡ steps → more ≡ room → d ≡ c → Holds r ls ss more d
  moved keys ls steps ss room more c d h a b e f =
      subst (λ x. Holds r x ss more d) (sym a) (subst (λ x. Holds r keys x more d) (sym b) (subst (λ x. Holds r keys steps x d) (sym e) (subst (Holds r keys steps room) (sym f) h)))

  module _ (keys : List K) (laws : IsEquivalence r.eq) (steps : List (Step K N)) (room more : ℕ) (c : Cache ℕ V) (seat : ℕ) (h : Holds r keys steps room c) (in_seats : seat < length c.pending) where
    kept_or : (n : ℕ) (k : K) (need : ℕ) (again : Bool) (a : Look ℕ V) → Holds r keys (and_then steps seat (Looked k need again (told a))) more (after_answer nat_eq n seat c a) → Holds r keys steps more c
        → Holds r keys (with_look steps seat k need again (told a)) more (after_answer nat_eq n seat c a)
    kept_or n k need true (Hit v) kept same = kept
    kept_or n k need true (Join m owner) kept same = same
    kept_or n k need true Own kept same = kept
    kept_or n k need false (Hit v) kept same = kept
    kept_or n k need false (Join m owner) kept same = kept
    kept_or n k need false Own kept same = kept

    -- after a look-up, kept among the calls or not
    pub looked_holds : (n : ℕ) (k : K) (need : ℕ) (again : Bool) → slice_get keys n ≡ Some k → owned_by (named_cache keys c) seat ≡ None → length c.pending ≤ more
        → Holds r keys (with_look steps seat k need again (told (look_answer nat_eq (r.serves need) n c))) more (after_look nat_eq (r.serves need) n seat c)
    looked_holds n k need again is idle few =
        kept_or n k need again (look_answer nat_eq (r.serves need) n c)
        (looked_up r keys laws steps room more c seat h in_seats n k need again is idle few) (unkept r keys laws steps room more c seat h in_seats few)

pub on_ok : {T E P Q : Type 0} (result : Result T E) → (P → Q) → OnOk result P → OnOk result Q
on_ok (Ok x) f p = f p
on_ok (Err e) f p = tt

pub on_err : {T E P Q : Type 0} (result : Result T E) → (P → Q) → OnErr result P → OnErr result Q
on_err (Ok x) f p = tt
on_err (Err e) f p = f p

pub answer_keyless : {J K V : Type 0} (k : K) (a : Look J V) → answer_of k (keyless a) ≡ renamed k a
answer_keyless k (Hit v) = refl
answer_keyless k (Join n owner) = refl
answer_keyless k Own = refl

pub told_keyless : {J V : Type 0} (a : Look J V) → told_of (keyless a) ≡ told a
told_keyless (Hit v) = refl
told_keyless (Join n owner) = refl
told_keyless Own = refl

-- ---- the most recent keys

abbrev pub listing : {K : Type 0} (N : Type 0) → ℕ → List K → Act K N
listing N most ks = Listed most ks

module _ {K V : Type 0} (keys : List K) where
  -- the numbers of entries name their keys
  names_all : (es : List (ℕ × V)) → AllIn keys es → (count : ℕ) → all_named keys (take count (keys_of es)) ≡ Some (take count (keys_of (named_entries keys es)))
  names_all es all zero = refl
  names_all [] all (suc count) = refl
  names_all (e ∷ es) all (suc count) =
      ap (λ o. option_and_then (λ k. option_map (λ ks. k ∷ ks) (all_named keys (take count (keys_of es)))) o) all.0.1
      ∙ ap (option_map (λ ks. all.0.0 ∷ ks)) (names_all es all.1 count)
      ∙ ap (λ o. Some (take (suc count) (keys_of (cons_option (option_map (λ k. (k, e.1)) o) (named_entries keys es))))) (sym all.0.1)

  pub names_recent : (most : ℕ) (c : Cache ℕ V) → AreIn keys c → all_named keys (recent_keys most c.kept) ≡ Some (recent_keys most (named_cache keys c).kept)
  names_recent most c ins = names_all c.kept.entries ins.entries_in most

module _ {K V N : Type 0} (r : Rules K V N) (keys : List K) (steps : List (Step K N)) (room more : ℕ) (c : Cache ℕ V) (seat : ℕ) (h : Holds r keys steps room c) (in_seats : seat < length c.pending) where
  pub listed_holds : (most : ℕ) → length c.pending ≤ more → Holds r keys (and_then steps seat (Listed most (recent_keys most (named_cache keys c).kept))) more c
  listed_holds most few =
      step r keys steps room more c c seat (Listed most (recent_keys most (named_cache keys c).kept)) h in_seats
      (record { size = refl; greatest = refl; seats = refl }) (refl, refl) h.in_keys (few_after c.pending c.pending refl few)

pub some_listed : {K : Type 0} (N : Type 0) (most : ℕ) {o : Option (List K)} {ks : List K} → o ≡ Some ks → IsSome (option_map (λ l. listing N most l) o)
some_listed N most is = ap (λ o. is_some (option_map (λ l. listing N most l) o)) is
