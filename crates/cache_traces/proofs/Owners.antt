-- The key that a seat owns is told by its own calls.
use Rattle.std.proofs.Common.{◌≡◌, ◌≢◌, ℕ, zero, suc, ◌<◌, ◌==◌, Bool, true, false, List, [], ◌∷◌, ◌++◌, length, cond, Option, Some, None, refl, sym, ap, subst, ◌∙◌, arith, rules, true≢false, if◌then◌else◌}
use Rattle.std.specs.Prelude.{slice_get, slice_set, replicate}
use Rattle.std.specs.Option.{option_and_then, option_map_or}
use Rattle.cache_machine.specs.declared.look.Look.{Look}
use Rattle.cache_machine.specs.declared.look.Look.TheVariants as look
use Rattle.cache_machine.specs.Machine.{Cache, owned_by, look_answer, after_answer, finished as after_finish, released, stored as stored_in}
use Rattle.cache_traces.specs.declared.told.Told.{Told}
use Rattle.cache_traces.specs.declared.act.Act.{Act}
use Rattle.cache_traces.specs.declared.act.Step.{Step}
use Rattle.cache_traces.specs.declared.act.Act.TheVariants.{Looked, Finished, GaveUp, Listed}
use Rattle.cache_traces.specs.Acts.{calls_of, owned_then, owned_from, owned_after}
use Rattle.cache_traces.specs.Traces.{Rules, told, after_end, Follows, begun, gone_on, IsTrace}

-- ---- lists of owned keys

itself : (n : ℕ) → (n == n) ≡ true
itself n = search rules

-- nobody owns a key
abbrev pub nobody : (K : Type 0) → ℕ → List (Option K)
nobody K seats = replicate seats None

length-none : (K : Type 0) (seats : ℕ) → length (nobody K seats) ≡ seats
length-none K zero = refl
length-none K (suc seats) = ap suc (length-none K seats)

module _ {K : Type 0} where
  abbrev pub owner : List (Option K) → ℕ → Option K
  owner os n = option_and_then (λ o. o) (slice_get os n)

  owner_set : (os : List (Option K)) (n : ℕ) (x : Option K) → n < length os → owner (slice_set os n x) n ≡ x
  owner_set [] n x h = absurd (omega arith)
  owner_set (o ∷ os) zero x h = refl
  owner_set (o ∷ os) (suc n) x h = owner_set os n x (omega arith)

  owner_beside : (os : List (Option K)) (n m : ℕ) (x : Option K) → m ≢ n → owner (slice_set os n x) m ≡ owner os m
  owner_beside [] n m x h = refl
  owner_beside (o ∷ os) zero zero x h = absurd (h refl)
  owner_beside (o ∷ os) zero (suc m) x h = refl
  owner_beside (o ∷ os) (suc n) zero x h = refl
  owner_beside (o ∷ os) (suc n) (suc m) x h = owner_beside os n m x (λ e. h (ap suc e))

  owner_none : (seats n : ℕ) → owner (replicate seats None) n ≡ None
  owner_none zero n = refl
  owner_none (suc seats) zero = refl
  owner_none (suc seats) (suc n) = owner_none seats n

  length-set : (os : List (Option K)) (n : ℕ) (x : Option K) → length (slice_set os n x) ≡ length os
  length-set [] n x = refl
  length-set (o ∷ os) zero x = refl
  length-set (o ∷ os) (suc n) x = ap suc (length-set os n x)

-- ---- lists of calls

module _ {K N : Type 0} where
  -- its own call stands last
  pub calls_of-own : (n : ℕ) (ss : List (Step K N)) (s : Step K N) → (s.seat == n) ≡ true → calls_of n (ss ++ s ∷ []) ≡ calls_of n ss ++ s.act ∷ []
  calls_of-own n [] s e = ap (λ b. if b then s.act ∷ [] else []) e
  calls_of-own n (t ∷ ss) s e =
      let rest = calls_of-own n ss s e in
      (elim (t.seat == n) as (λ b. (if b then t.act ∷ calls_of n (ss ++ s ∷ []) else calls_of n (ss ++ s ∷ [])) ≡ (if b then t.act ∷ calls_of n ss else calls_of n ss) ++ s.act ∷ []) [
        | true ↦ ap (λ more. t.act ∷ more) rest
        | false ↦ rest
      ])

  -- another seat's changes nothing
  pub calls_of-other : (n : ℕ) (ss : List (Step K N)) (s : Step K N) → (s.seat == n) ≡ false → calls_of n (ss ++ s ∷ []) ≡ calls_of n ss
  calls_of-other n [] s e = ap (λ b. if b then s.act ∷ [] else []) e
  calls_of-other n (t ∷ ss) s e =
      let rest = calls_of-other n ss s e in
      (elim (t.seat == n) as (λ b. (if b then t.act ∷ calls_of n (ss ++ s ∷ []) else calls_of n (ss ++ s ∷ [])) ≡ (if b then t.act ∷ calls_of n ss else calls_of n ss)) [
        | true ↦ ap (λ more. t.act ∷ more) rest
        | false ↦ rest
      ])

  pub owned_from-then : (o : Option K) (acts : List (Act K N)) (a : Act K N) → owned_from o (acts ++ a ∷ []) ≡ owned_then (owned_from o acts) a
  owned_from-then o [] a = refl
  owned_from-then o (b ∷ acts) a = owned_from-then (owned_then o b) acts a

-- ---- one call

-- who ends a key owns nothing
pub pending-finish : {K V : Type 0} (eq : K → K → Bool) (weight : V → ℕ) (seat : ℕ) (v : V) (keep : Bool) (c : Cache K V) → (after_finish eq weight seat v keep c).pending ≡ slice_set c.pending seat None
pending-finish eq weight seat v keep c =
    (elim (owned_by c seat) as (λ o. (option_map_or (λ k. cond keep (record (released seat c) { kept = stored_in eq weight k v c.kept }) (released seat c)) o (released seat c)).pending ≡ slice_set c.pending seat None) [
      | None ↦ refl
      | Some k ↦ (elim keep as (λ b. (cond b (record (released seat c) { kept = stored_in eq weight k v c.kept }) (released seat c)).pending ≡ slice_set c.pending seat None) [
        | true ↦ refl
        | false ↦ refl
      ])
    ])

module _ {K V N : Type 0} (r : Rules K V N) where
  -- what a call leaves of the keys that seats own
  pub record Leaves (seat : ℕ) (c : Cache K V) (a : Act K N) (next : Cache K V) : Type 0 where
    pub many : length next.pending ≡ length c.pending
    pub own : owned_by next seat ≡ owned_then (owned_by c seat) a
    pub others : (m : ℕ) → m ≢ seat → owned_by next m ≡ owned_by c m

  -- where a call sets what its seat owns
  sets : (seat : ℕ) (c next : Cache K V) (a : Act K N) (x : Option K) → seat < length c.pending → next.pending ≡ slice_set c.pending seat x → x ≡ owned_then (owned_by c seat) a → Leaves seat c a next
  sets seat c next a x within is told = record {
    many = ap length is ∙ length-set c.pending seat x;
    own = ap (λ os. owner os seat) is ∙ owner_set c.pending seat x within ∙ told;
    others = λ m h. ap (λ os. owner os m) is ∙ owner_beside c.pending seat m x h;
  }

  -- where it leaves them
  keeps : (seat : ℕ) (c next : Cache K V) (a : Act K N) → next.pending ≡ c.pending → owned_by c seat ≡ owned_then (owned_by c seat) a → Leaves seat c a next
  keeps seat c next a is told = record {
    many = ap length is;
    own = ap (λ os. owner os seat) is ∙ told;
    others = λ m h. ap (λ os. owner os m) is;
  }

  answered : (seat : ℕ) (c next : Cache K V) (k : K) (need : ℕ) (again : Bool) (t : Told) (a : Look K V) → seat < length c.pending → t ≡ told a → next ≡ after_answer r.eq k seat c a → Leaves seat c (Looked k need again t) next
  answered seat c next k need again t (look.Hit v) within is moved = keeps seat c next (Looked k need again t) (ap (λ (d : Cache K V). d.pending) moved) (ap (λ u. owned_then {N = N} (owned_by c seat) (Looked k need again u)) (sym is))
  answered seat c next k need again t (look.Join j o) within is moved = keeps seat c next (Looked k need again t) (ap (λ (d : Cache K V). d.pending) moved) (ap (λ u. owned_then {N = N} (owned_by c seat) (Looked k need again u)) (sym is))
  answered seat c next k need again t look.Own within is moved = sets seat c next (Looked k need again t) (Some k) within (ap (λ (d : Cache K V). d.pending) moved) (ap (λ u. owned_then {N = N} (owned_by c seat) (Looked k need again u)) (sym is))

  pending-end : (seat : ℕ) (v : V) (n : N) (stored : Bool) (c : Cache K V) → (after_end r seat v n stored c).pending ≡ slice_set c.pending seat None
  pending-end seat v n true c = pending-finish r.eq r.weight seat v (r.keeps n) c
  pending-end seat v n false c = refl

  leaves : (seat : ℕ) (c next : Cache K V) (a : Act K N) → seat < length c.pending → Follows r seat c a next → Leaves seat c a next
  leaves seat c next (Looked k need again t) within f = answered seat c next k need again t (look_answer r.eq (r.serves need) k c) within f.1 f.2
  leaves seat c next (Finished k n stored) within f = sets seat c next (Finished k n stored) None within (ap (λ (d : Cache K V). d.pending) f.1.2 ∙ pending-end seat f.1.0 n stored c) refl
  leaves seat c next (GaveUp k) within f = sets seat c next (GaveUp k) None within (ap (λ (d : Cache K V). d.pending) f.1) refl
  leaves seat c next (Listed n ks) within f = keeps seat c next (Listed n ks) (ap (λ (d : Cache K V). d.pending) f.1) refl

  -- ---- traces

  module _ (size : ℕ) (greatest : Option ℕ) (seats : ℕ) where
    -- what a trace tells of the keys that seats own
    pub record Owns (steps : List (Step K N)) (c : Cache K V) : Type 0 where
      pub many : length c.pending ≡ seats
      pub owned : (seat : ℕ) → owned_by c seat ≡ owned_after (calls_of seat steps)

    goes_on : (steps : List (Step K N)) (c next : Cache K V) (s : Step K N) → Owns steps c → Leaves s.seat c s.act next → Owns (steps ++ s ∷ []) next
    goes_on steps c next s before left = record { many = left.many ∙ before.many; owned = each }
      where
        each : (seat : ℕ) → owned_by next seat ≡ owned_after (calls_of seat (steps ++ s ∷ []))
        each seat = by (s.seat == seat) refl
          where
            by : (b : Bool) → (s.seat == seat) ≡ b → owned_by next seat ≡ owned_after (calls_of seat (steps ++ s ∷ []))
            by true e =
                let same : s.seat ≡ seat = search rules in
                let own : owned_by next seat ≡ owned_then (owned_by c seat) s.act = subst (λ n. owned_by next n ≡ owned_then (owned_by c n) s.act) same left.own in
                own ∙ ap (λ o. owned_then o s.act) (before.owned seat)
                ∙ sym (owned_from-then None (calls_of seat steps) s.act) ∙ ap owned_after (sym (calls_of-own seat steps s e))
            by false e =
                let other : seat ≢ s.seat = λ h. true≢false (sym (itself s.seat) ∙ ap (λ n. s.seat == n) (sym h) ∙ e) in
                left.others seat other ∙ before.owned seat ∙ ap owned_after (sym (calls_of-other seat steps s e))

    pub owns : (steps : List (Step K N)) (c : Cache K V) → IsTrace r size greatest seats steps c → Owns steps c
    owns steps c begun = record { many = length-none K seats; owned = λ seat. owner_none seats seat }
    owns steps c (gone_on before d next s trace within f) = goes_on before d next s (owns before d trace) (leaves s.seat d next s.act within f)
