-- Lists of seats' calls.
use Rattle.std.proofs.Common.{◌≡◌, ◌≢◌, ℕ, ◌==◌, ◌++◌, Bool, true, false, List, [], ◌∷◌, length, Option, Some, None, refl, true≢false, sym, ap, subst, ◌∙◌, rules, if◌then◌else◌, ◌&&◌}
use Rattle.std.specs.Prelude.{Result, Ok, Err, IfOk, OnOk, OnErr, IsSome}
use Rattle.std.proofs.lemmas.List.{append-nil}
use Rattle.cache_machine.specs.Machine.{owned_by, look_answer, after_look, finished as after_finish, released}
use Rattle.cache_traces.specs.declared.act.Act.{Act}
use Rattle.cache_traces.specs.declared.act.Act.TheVariants.{Looked as Looks}
use Rattle.cache_traces.specs.declared.act.Step.{Step}
use Rattle.cache_traces.specs.declared.told.Told.{Told}
use Rattle.cache_traces.specs.Acts.{calls_of, owned_after}
use Rattle.cache_traces.specs.declared.told.Told.TheVariants.{Joined}
use Rattle.cache_traces.specs.declared.cells.Looked.{Looked}
use Rattle.cache_traces.specs.declared.cells.Looked.TheVariants as looked
use Rattle.cache_traces.specs.Looking.{answer_of, told_of, is_joined, with_look}
use Rattle.cache_traces.specs.Traced.{AreSame, and_then}
use Rattle.cache_traces.specs.TracedCache.{TracedCache, IsTraced}
use Rattle.cache_traces.specs.Traces.{Rules}
use Rattle.cache_traces.proofs.Owners.{owns, calls_of-own, calls_of-other, owned_from-then}
use Rattle.shared_cells.specs.Fitting.{CellFits}
use Rattle.shared_cells.specs.Lists.{look_told, AskedBefore, AsksFor}
use Rattle.shared_cells.specs.Seated.{HitFits}
use Rattle.shared_cells.proofs.Entries.{pair_fits, same_fits, look_fits, hit_fits, released_fits, finish_fits}

pub itself : (n : ℕ) → (n == n) ≡ true
itself n = search rules

pub apart : (n m : ℕ) → m ≢ n → (n == m) ≡ false
apart n m h = search rules

module _ {K N : Type 0} where
  -- one more call of the seat
  pub own_then : (steps : List (Step K N)) (n : ℕ) (act : Act K N) → calls_of n (and_then steps n act) ≡ calls_of n steps ++ act ∷ []
  own_then steps n act = calls_of-own n steps (record { seat = n; act = act }) (itself n)

  pub other_then : (steps : List (Step K N)) (n m : ℕ) (act : Act K N) → m ≢ n → calls_of m (and_then steps n act) ≡ calls_of m steps
  other_then steps n m act h = calls_of-other m steps (record { seat = n; act = act }) (apart n m h)

  -- one more look-up, told or not
  pub own_look : (steps : List (Step K N)) (n : ℕ) (k : K) (need : ℕ) (again : Bool) (t : Told) → calls_of n (with_look steps n k need again t) ≡ calls_of n steps ++ look_told k need again t
  own_look steps n k need again t =
      elim (again && is_joined t) as (λ b. calls_of n (if b then steps else and_then steps n (Looks k need again t)) ≡ calls_of n steps ++ (if b then [] else Looks k need again t ∷ [])) [
        | true ↦ sym (append-nil (calls_of n steps))
        | false ↦ own_then steps n (Looks k need again t)
      ]

  pub other_look : (steps : List (Step K N)) (n m : ℕ) (k : K) (need : ℕ) (again : Bool) (t : Told) → m ≢ n → calls_of m (with_look steps n k need again t) ≡ calls_of m steps
  other_look steps n m k need again t h =
      elim (again && is_joined t) as (λ b. calls_of m (if b then steps else and_then steps n (Looks k need again t)) ≡ calls_of m steps) [
        | true ↦ refl
        | false ↦ other_then steps n m (Looks k need again t) h
      ]

  -- one more call where it was Ok, and none else
  module _ {T E : Type 0} (old new : List (Step K N)) (n : ℕ) (act : T → Act K N) where
    pub own_told : (result : Result T E) → IfOk result (λ a. new ≡ and_then old n (act a)) → OnErr result (new ≡ old) → (more : List (Act K N)) × (calls_of n new ≡ calls_of n old ++ more)
    own_told (Ok a) ok err = (act a ∷ [], ap (calls_of n) ok ∙ own_then old n (act a))
    own_told (Err e) ok err = ([], ap (calls_of n) err ∙ sym (append-nil (calls_of n old)))

    pub others_told : (result : Result T E) → IfOk result (λ a. new ≡ and_then old n (act a)) → OnErr result (new ≡ old) → (m : ℕ) → m ≢ n → calls_of m new ≡ calls_of m old
    others_told (Ok a) ok err m h = ap (calls_of m) ok ∙ other_then old n m (act a) h
    others_told (Err e) ok err m h = ap (calls_of m) err

    pub list_told : (before after : List (Act K N)) → calls_of n old ≡ before → after ≡ calls_of n new → (result : Result T E) → IfOk result (λ a. new ≡ and_then old n (act a)) → IfOk result (λ a. after ≡ before ++ act a ∷ [])
    list_told before after had now (Ok a) ok = now ∙ ap (calls_of n) ok ∙ own_then old n (act a) ∙ ap (λ l. l ++ act a ∷ []) had
    list_told before after had now (Err e) ok = tt

-- the key that a seat owns is the one that its list tells
pub owner_told : {K V N : Type 0} (r : Rules K V N) (t : TracedCache K V N) → IsTraced r t → (seat : ℕ) → owned_by t.cache seat ≡ owned_after (calls_of seat t.steps)
owner_told r t traced seat = (owns r t.cache.kept.size t.cache.kept.greatest (length t.cache.pending) t.steps t.cache traced).owned seat

-- ---- a look-up

module _ {K V N E : Type 0} where
  pub fits_looked : (r : Rules K V N) (fit : K → V → Type 0) (size : ℕ) (greatest : Option ℕ) (seats : ℕ) (t u : TracedCache K V N) → CellFits r fit size greatest seats t → IsTraced r u
      → (k : K) (need seat : ℕ) (result : Result (Looked V) E) → OnOk result (u.cache ≡ after_look r.eq (r.serves need) k seat t.cache) → OnErr result (u.cache ≡ t.cache) → CellFits r fit size greatest seats u
  fits_looked r fit size greatest seats t u h traced k need seat (Ok a) ok err = look_fits r fit size greatest seats t u h traced k need seat ok
  fits_looked r fit size greatest seats t u h traced k need seat (Err e) ok err = same_fits r fit size greatest seats t u h traced err

  module _ (old new : List (Step K N)) (n : ℕ) (k : K) (need : ℕ) (again : Bool) where
    pub own_looked : (result : Result (Looked V) E) → IfOk result (λ a. new ≡ with_look old n k need again (told_of a)) → OnErr result (new ≡ old) → (more : List (Act K N)) × (calls_of n new ≡ calls_of n old ++ more)
    own_looked (Ok a) ok err = (look_told k need again (told_of a), ap (calls_of n) ok ∙ own_look old n k need again (told_of a))
    own_looked (Err e) ok err = ([], ap (calls_of n) err ∙ sym (append-nil (calls_of n old)))

    pub others_looked : (result : Result (Looked V) E) → IfOk result (λ a. new ≡ with_look old n k need again (told_of a)) → OnErr result (new ≡ old) → (m : ℕ) → m ≢ n → calls_of m new ≡ calls_of m old
    others_looked (Ok a) ok err m h = ap (calls_of m) ok ∙ other_look old n m k need again (told_of a) h
    others_looked (Err e) ok err m h = ap (calls_of m) err

    pub list_looked : (before after : List (Act K N)) → calls_of n old ≡ before → after ≡ calls_of n new → (result : Result (Looked V) E) → IfOk result (λ a. new ≡ with_look old n k need again (told_of a))
        → IfOk result (λ a. after ≡ before ++ look_told k need again (told_of a))
    list_looked before after had now (Ok a) ok = now ∙ ap (calls_of n) ok ∙ own_look old n k need again (told_of a) ∙ ap (λ l. l ++ look_told k need again (told_of a)) had
    list_looked before after had now (Err e) ok = tt

  pub hit_looked : (r : Rules K V N) → AreSame K r.eq → (fit : K → V → Type 0) (size : ℕ) (greatest : Option ℕ) (seats : ℕ) (t : TracedCache K V N) → CellFits r fit size greatest seats t
      → (k : K) (need : ℕ) (result : Result (Looked V) E) → IfOk result (λ a. answer_of k a ≡ look_answer r.eq (r.serves need) k t.cache) → IfOk result (HitFits fit (r.serves need) k)
  hit_looked r same fit size greatest seats t h k need (Ok (looked.Hit v)) ok =
      let found = hit_fits (pair_fits r fit size greatest seats) r.eq (r.serves need) k v t.cache h.entries ok in
      (subst (λ j. fit j v) (sym (same k found.1.0 found.1.1)) found.1.2, found.0)
  hit_looked r same fit size greatest seats t h k need (Ok (looked.Join owner)) ok = tt
  hit_looked r same fit size greatest seats t h k need (Ok looked.Own) ok = tt
  hit_looked r same fit size greatest seats t h k need (Err e) ok = tt

-- ---- the end of a key

module _ {K V N E : Type 0} where
  pub fits_ended : (r : Rules K V N) (fit : K → V → Type 0) (size : ℕ) (greatest : Option ℕ) (seats : ℕ) (t u : TracedCache K V N) → CellFits r fit size greatest seats t → IsTraced r u
      → (seat : ℕ) (v : V) (keep : Bool) → ((k : K) → owned_by t.cache seat ≡ Some k → fit k v) → {T : Type 0} (result : Result T E)
      → OnOk result (u.cache ≡ after_finish r.eq r.weight seat v keep t.cache) → OnErr result (u.cache ≡ released seat t.cache) → CellFits r fit size greatest seats u
  fits_ended r fit size greatest seats t u h traced seat v keep new (Ok x) ok err = finish_fits r fit size greatest seats t u h traced seat v keep ok new
  fits_ended r fit size greatest seats t u h traced seat v keep new (Err e) ok err = released_fits r fit size greatest seats t u h traced seat err

-- something is there
pub some_there : {A : Type 0} (o : Option A) → IsSome o → (x : A) × (o ≡ Some x)
some_there None h = absurd (true≢false (sym h))
some_there (Some x) h = (x, refl)

-- ---- looks in turn

module _ {K N : Type 0} (k : K) (need : ℕ) where
  told_once : (again : Bool) (t : Told) → is_joined t ≡ false → look_told {N = N} k need again t ≡ Looks k need again t ∷ []
  told_once true t h = ap (λ b. if b then [] else Looks k need true t ∷ []) h
  told_once false t h = refl

  -- the look that ends it
  pub asks_for : (again : Bool) (t : Told) (old mid new acts : List (Act K N)) → is_joined t ≡ false → AskedBefore k need again acts → mid ≡ old ++ acts → new ≡ mid ++ look_told k need again t → AsksFor k need again t old new
  asks_for again t old mid new acts h before is now = (acts, before, now ∙ (λ i. is i ++ told_once again t h i))

  -- one that was answered Join
  pub asked_on : (again : Bool) (owner : ℕ) (old mid new acts : List (Act K N)) → AskedBefore k need again acts → mid ≡ old ++ acts → new ≡ mid ++ look_told k need again (Joined owner) → (more : List (Act K N)) × AskedBefore k need true more × (new ≡ old ++ more)
  asked_on true owner old mid new acts before is now = (acts, before, now ∙ append-nil mid ∙ is)
  asked_on false owner old mid new acts before is now =
      let none : mid ≡ old = is ∙ ap (λ l. old ++ l) before ∙ append-nil old in
      (Looks k need false (Joined owner) ∷ [], (owner, refl), now ∙ ap (λ l. l ++ Looks k need false (Joined owner) ∷ []) none)

  -- the seat owns nothing between them
  pub owns_none : (again : Bool) (old mid acts : List (Act K N)) → AskedBefore k need again acts → mid ≡ old ++ acts → owned_after old ≡ None → owned_after mid ≡ None
  owns_none false old mid acts before is none = ap owned_after (is ∙ ap (λ l. old ++ l) before ∙ append-nil old) ∙ none
  owns_none true old mid acts before is none = ap owned_after (is ∙ ap (λ l. old ++ l) before.1) ∙ owned_from-then None old (Looks k need false (Joined before.0)) ∙ none
