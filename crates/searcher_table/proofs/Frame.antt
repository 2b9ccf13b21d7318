-- What every kind of step's proof uses: facts about the views of all seats, and what a step leaves true of the other seats.
use Rattle.std.proofs.Common.{◌≡◌, ◌≢◌, ◌⊎◌, ℕ, zero, suc, ◌+◌, ◌≤◌, ◌<◌, true, cond, eq-eqb, ne_eqb, List, [], ◌∷◌, ◌++◌, length, get_or, set, sym, refl, ap, ◌∙◌, subst, inl, inr, ⊎_elim, arith, append-nil, append_assoc, Option, Some, None}
use mathlib.Core.Logic.{dite}
use native.Mathlib.Decide.{ℕ_discrete}
use mathlib.Core.Option.{some, some-injective, some-ne-none}
use lib.ListN.{get_elem?}
use Rattle.std.specs.Prelude.{◌==◌, slice_index}
use Rattle.std.specs.List.{AllByRecursion}
use Rattle.std.proofs.lemmas.List.Elements.{filter-append}
use Rattle.std.proofs.lemmas.Option.{none-some}
use Rattle.atomic_table.proofs.Lists.{at_set}
use Rattle.registry_machine.specs.declared.entry.Entry.{Entry}
use Rattle.registry_machine.specs.Callers.{mine}
use Rattle.registry_machine.specs.Entries.{caller_of}
use Rattle.registry_machine.specs.Machine.{Limits, is_some_of}
use Rattle.registry_machine.specs.Legal.{Legal}
use Rattle.searcher_table.specs.declared.board.Asked.{Asked}
use Rattle.searcher_table.specs.declared.board.Plan.{Plan}
use Rattle.searcher_table.specs.declared.board.Hand.{Hand}
use Rattle.searcher_table.specs.declared.board.Own.{Own}
use Rattle.searcher_table.specs.declared.board.Known.{Known}
use Rattle.searcher_table.specs.Words.{call_word, code, limits}
use Rattle.searcher_table.specs.Views.{StartsWith}
use Rattle.searcher_table.specs.declared.board.Task.{Task}
use Rattle.searcher_table.specs.declared.board.Task.TheVariants.{Idle, Back}
use Rattle.searcher_table.specs.declared.board.Fresh.{Fresh}
use Rattle.searcher_table.specs.Tasks.{emptied}
use Rattle.searcher_table.specs.Rule.{World, IsPass, IsHand, IsFresh, IsRegistrar, IsDone, IsBack, Fits, One}
use Rattle.searcher_table.specs.Steps.{looked, Covers}

module _ {A : Type 0} where
  -- F holds of each element, with its place
  abbrev pub Each : (ℕ → A → Type 0) → List A → Type 0
  Each F xs = (j : ℕ) (x : A) → get_elem? xs j ≡ some x → F j x

  pub each_set : (F : ℕ → A → Type 0) (xs : List A) (i : ℕ) (a : A) → F i a → ((j : ℕ) (x : A) → j ≢ i → get_elem? xs j ≡ some x → F j x) → Each F (set xs i a)
  each_set F xs i a own others j x e = ⊎_elim (λ (c : (j ≡ i) × (a ≡ x)). subst (λ (y : ℕ × A). F y.0 y.1) (λ t. (sym c.0 t, c.1 t)) own)
      (λ (c : (j ≢ i) × (get_elem? xs j ≡ some x)). others j x c.0 c.1) (at_set xs i j a x e)

  at_end : (xs : List A) (a : A) (j : ℕ) (x : A) → get_elem? (xs ++ a ∷ []) j ≡ some x → (get_elem? xs j ≡ some x) ⊎ ((j ≡ length xs) × (a ≡ x))
  at_end [] a zero x e = inr (refl, some-injective a x e)
  at_end [] a (suc j) x e = absurd (some-ne-none x (sym e))
  at_end (y ∷ ys) a zero x e = inl e
  at_end (y ∷ ys) a (suc j) x e = ⊎_elim (λ s. inl s) (λ s. inr (ap suc s.0, s.1)) (at_end ys a j x e)

  pub each_snoc : (F : ℕ → A → Type 0) (xs : List A) (a : A) → Each F xs → F (length xs) a → Each F (xs ++ a ∷ [])
  each_snoc F xs a all last j x e = ⊎_elim (λ c. all j x c) (λ (c : (j ≡ length xs) × (a ≡ x)). subst (λ (y : ℕ × A). F y.0 y.1) (λ t. (sym c.0 t, c.1 t)) last) (at_end xs a j x e)

  -- a seat that stands in a list has a place below its length
  pub place_below : (xs : List A) (j : ℕ) (x : A) → get_elem? xs j ≡ some x → j ≢ length xs
  place_below [] j x e = absurd (some-ne-none x (sym e))
  place_below (y ∷ ys) zero x e = λ n. absurd (omega arith)
  place_below (y ∷ ys) (suc j) x e = λ n. place_below ys j x e (omega arith)

  -- what holds of each of a list, in place of something that implies it
  pub all_map : (F G : A → Type 0) → ((a : A) → F a → G a) → (xs : List A) → AllByRecursion F xs → AllByRecursion G xs
  all_map F G f [] all = tt
  all_map F G f (x ∷ xs) all = (f x all.0, all_map F G f xs all.1)

  -- and of two lists joined
  pub all_joined : (F : A → Type 0) (xs ys : List A) → AllByRecursion F xs → AllByRecursion F ys → AllByRecursion F (xs ++ ys)
  all_joined F [] ys a b = b
  all_joined F (x ∷ xs) ys a b = (a.0, all_joined F xs ys a.1 b)

  -- and so of the last
  pub all_last : (F : A → Type 0) (xs : List A) (a : A) → AllByRecursion F (xs ++ a ∷ []) → F a
  all_last F [] a all = all.0
  all_last F (x ∷ xs) a all = all_last F xs a all.1

  -- a history begins with itself, and with what a beginning of it begins with
  pub starts_here : (log : List A) → StartsWith log log
  starts_here log = ([], sym (append-nil log))

  pub starts_later : (log seen es : List A) → StartsWith log seen → StartsWith (log ++ es) seen
  starts_later log seen es s = (s.0 ++ es, ap (λ l. l ++ es) s.1 ∙ append_assoc seen s.0 es)

-- a word that is written with what it was stays
pub set_same : (ws : List ℕ) (i : ℕ) → set ws i (get_or ws i 0) ≡ ws
set_same [] i = refl
set_same (w ∷ ws) zero = refl
set_same (w ∷ ws) (suc i) = ap (λ l. w ∷ l) (set_same ws i)

-- ---- functions that are changed at one number

module _ {A : Type 0} where
  abbrev pub put : ℕ → A → (ℕ → A) → ℕ → A
  put c a f d = cond (d == c) a (f d)

  pub put_here : (c : ℕ) (a : A) (f : ℕ → A) → put c a f c ≡ a
  put_here c a f = ap (λ b. cond b a (f c)) (eq-eqb c c refl)

  pub put_else : (c : ℕ) (a : A) (f : ℕ → A) (d : ℕ) → d ≢ c → put c a f d ≡ f d
  put_else c a f d n = ap (λ b. cond b a (f d)) (ne_eqb d c n)

  pub put_same : (c : ℕ) (a : A) (f : ℕ → A) → a ≡ f c → (d : ℕ) → put c a f d ≡ f d
  put_same c a f is d = dite (ℕ_discrete d c) (λ same. ap (put c a f) same ∙ put_here c a f ∙ is ∙ ap f (sym same)) (λ other. put_else c a f d other)

-- ---- a caller's own entries

module _ {U X L : Type 0} where
  pub own_joined : (c : ℕ) (xs ys : List (Entry U X L)) → mine c (xs ++ ys) ≡ mine c xs ++ mine c ys
  own_joined c xs ys = filter-append (λ e. is_some_of c (caller_of e)) xs ys

-- ---- passes that were taken back

module _ {U X L : Type 0} where
  -- their callers have begun nothing else
  pub done_still : (tasks news : ℕ → Task) (o : Own U X L) → news o.caller ≡ tasks o.caller → IsDone tasks o → IsDone news o
  done_still tasks news o same d = record { low = d.low; task = same ∙ d.task; unpinned = d.unpinned }

-- what is none is no number
pub not_some : {F : Type 0} (o : Option ℕ) (n : ℕ) → o ≡ None → o ≡ Some n → F
not_some o n none is = absurd (none-some n (sym none ∙ is))

-- nothing is taken out for good while a pass is out
pub nothing_out : {W U X L : Type 0} (p : Plan W) (w : World U X L) (words : List ℕ) (views : List (Known W U X L)) → One p w words views → (c : ℕ) → 1 ≤ c → c < w.next → w.tasks c ≢ Back → emptied (w.tasks 0) ≡ None
nothing_out p w words views one c low dealt out = by_count (emptied (w.tasks 0)) refl
  where
    by_count : (o : Option ℕ) → emptied (w.tasks 0) ≡ o → o ≡ None
    by_count None is = refl
    by_count (Some n) is = absurd (out (one.over n c is low (let f = one.few in omega arith)))

-- ---- a step

module _ {U X L : Type 0} where
  -- a step changes the history, what is pending and whose the pending calls are, what is begun, and whose the warming generations are
  abbrev pub moved : World U X L → List (Entry U X L) → (ℕ → Option (Asked U)) → (ℕ → ℕ) → (ℕ → Task) → (ℕ → ℕ) → World U X L
  moved w log pending hand_at tasks fresh_at = record w { log = log; pending = pending; hand_at = hand_at; tasks = tasks; fresh_at = fresh_at }

-- what the step leaves true of the other seats
pub record Leaves {U X L : Type 0} (W : Type 0) (l : Limits) (w v : World U X L) (id : ℕ) : Type 0 where
  pub log : (seen : List (Entry U X L)) → StartsWith w.log seen → StartsWith v.log seen
  pub passes : (j : ℕ) (k : Known W U X L) → j ≢ id → 1 ≤ k.caller → IsPass w j k → IsPass v j k
  pub hands : (j : ℕ) (h : Hand U) → j ≢ id → IsHand w j h → IsHand v j h
  pub freshes : (j : ℕ) (f : Fresh) → j ≢ id → IsFresh w j l f → IsFresh v j l f
  pub registrars : (j : ℕ) (k : Known W U X L) → j ≢ id → IsRegistrar w j k → IsRegistrar v j k
  pub backs : (j : ℕ) (o : Own U X L) → j ≢ id → IsBack w j o → IsBack v j o

module _ {W U X L : Type 0} where
  pub fits_still : (p : Plan W) (w v : World U X L) (id : ℕ) → Leaves W (limits p) w v id → (j : ℕ) (k : Known W U X L) → j ≢ id → Fits p w j k → Fits p v j k
  fits_still p w v id keeps j k other f = record {
    plan = f.plan;
    seen = keeps.log k.seen f.seen;
    told = keeps.log k.told f.told;
    pass = λ c. keeps.passes j k other c (f.pass c);
    hand = λ h e. keeps.hands j h other (f.hand h e);
    fresh = λ h e. keeps.freshes j h other (f.fresh h e);
    registrar = λ r. keeps.registrars j k other (f.registrar r);
    back = all_map (IsBack w j) (IsBack v j) (λ o b. keeps.backs j o other b) k.back f.back;
  }

  -- a pass or the registrar, and what it has begun
  abbrev pub Acts : Known W U X L → Type 0
  Acts k = (1 ≤ k.caller) ⊎ (k.registrar ≡ true)

  pub own_task : (p : Plan W) (w : World U X L) (id : ℕ) (k : Known W U X L) → Fits p w id k → Acts k → k.task ≡ w.tasks k.caller
  own_task p w id k f acts = ⊎_elim (λ c. (f.pass c).task) (λ r. (f.registrar r).task ∙ ap w.tasks (sym (f.registrar r).nobody)) acts

  module _ (p : Plan W) (w : World U X L) (log : List (Entry U X L)) (pending : ℕ → Option (Asked U)) (hand_at : ℕ → ℕ) (tasks : ℕ → Task) (fresh_at : ℕ → ℕ) (id : ℕ) (k : Known W U X L) (hand : Option (Hand U)) (task : Task) (fresh : Option Fresh) where
    -- the table after the step, what the seat that makes it knows then, and that it is true
    abbrev pub now : World U X L
    now = moved w log pending hand_at tasks fresh_at

    abbrev pub knowing : Known W U X L
    knowing = record (looked k log pending) { hand = hand; task = task; fresh = fresh }

    pub record Owns : Type 0 where
      pub hands : (h : Hand U) → hand ≡ Some h → IsHand now id h
      pub freshes : (f : Fresh) → fresh ≡ Some f → IsFresh now id (limits p) f
      pub begun : Acts k → task ≡ tasks k.caller
      pub backs : AllByRecursion (IsBack now id) k.back

    pub fits_now : Fits p w id k → Owns → Fits p now id knowing
    fits_now f own = record {
      plan = f.plan;
      seen = starts_here log;
      told = (log, refl);
      pass = λ c. record { here = (f.pass c).here; dealt = (f.pass c).dealt; calls = inl record { mine = refl; announced = refl }; task = own.begun (inl c) };
      hand = own.hands;
      fresh = own.freshes;
      registrar = λ r. record { here = (f.registrar r).here; seen = record { rest = []; grown = sym (append-nil log); quiet = tt }; next = (f.registrar r).next; nobody = (f.registrar r).nobody; task = own.begun (inr r) ∙ ap tasks (f.registrar r).nobody; filling = (f.registrar r).filling; final = λ _ _. refl };
      back = own.backs;
    }

    -- part one after the step
    pub one_after : (words news : List ℕ) (views : List (Known W U X L)) → One p w words views → get_elem? views id ≡ some k → Leaves W (limits p) w now id
        → ((c : ℕ) → 1 ≤ c → c ≤ 64 → slice_index news (call_word c) ≡ code (pending c))
        → ((c : ℕ) → w.next ≤ c → (pending c ≡ None) × (mine c log ≡ []) × (tasks c ≡ Idle))
        → ((n c : ℕ) → emptied (tasks 0) ≡ Some n → 1 ≤ c → c ≤ p.callers → tasks c ≡ Back)
        → Owns → One p now news (set views id knowing)
    one_after words news views one at keeps calls undealt over own = record {
      calls = calls;
      fits = each_set (Fits p now) views id knowing
          (fits_now (one.fits id k at) own)
          (λ j u other e. fits_still p w now id keeps j u other (one.fits j u e));
      undealt = undealt;
      first = one.first;
      few = one.few;
      over = over;
    }

  -- the history of the table covers what a seat knows of it
  pub covers : (p : Plan W) (w : World U X L) (id : ℕ) (k : Known W U X L) → Fits p w id k → Legal (limits p) w.log → Covers k w.log
  covers p w id k f legal = record {
    seen = f.seen;
    told = f.told;
    legal = λ q is. subst (λ (r : Plan W). Legal (limits r) w.log) (sym (f.plan q is)) legal;
    places = λ r. (f.registrar r).seen;
  }
