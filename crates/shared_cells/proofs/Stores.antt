-- Entries of a store that fit, and lists of seats' calls, through the calls of a store.
use Rattle.std.proofs.Common.{◌≡◌, ◌≢◌, ℕ, ◌==◌, ◌++◌, Bool, true, false, cond, List, [], ◌∷◌, Option, Some, None, refl, sym, ap, subst, ◌∙◌, if◌then◌else◌}
use Rattle.std.specs.Prelude.{Result, Ok, Err, IfOk, OnOk, OnErr, IfSome, is_some}
use Rattle.std.specs.List.{AllByRecursion}
use Rattle.std.specs.Map.{lookup, remove_entry}
use Rattle.std.specs.Option.{option_and_then}
use Rattle.std.proofs.lemmas.List.{append-nil}
use Rattle.cache_machine.specs.Machine.{Kept, with_entries, cut, is_light, served, stored as stored_in}
use Rattle.cache_traces.specs.declared.store_act.StoreAct.{StoreAct}
use Rattle.cache_traces.specs.declared.store_act.StoreStep.{StoreStep}
use Rattle.cache_traces.specs.StoreTraces.{store_calls_of, after_found}
use Rattle.cache_traces.specs.Traced.{AreSame}
use Rattle.cache_traces.specs.TracedStore.{TracedKept, IsTracedStore, one_more}
use Rattle.cache_traces.specs.Traces.{Rules}
use Rattle.shared_cells.specs.Fitting.{StoreFits}
use Rattle.shared_cells.specs.Lists.{GoesOnBy}
use Rattle.shared_cells.proofs.Entries.{brought, stored_fits, value_there}
use Rattle.shared_cells.proofs.Seats.{itself, apart}

-- ---- lists of calls

module _ {N : Type 0} where
  -- its own call stands last
  own-then : (n : ℕ) (ss : List (StoreStep N)) (s : StoreStep N) → (s.seat == n) ≡ true → store_calls_of n (ss ++ s ∷ []) ≡ store_calls_of n ss ++ s.act ∷ []
  own-then n [] s e = ap (λ b. if b then s.act ∷ [] else []) e
  own-then n (t ∷ ss) s e =
      let rest = own-then n ss s e in
      (elim (t.seat == n) as (λ b. (if b then t.act ∷ store_calls_of n (ss ++ s ∷ []) else store_calls_of n (ss ++ s ∷ [])) ≡ (if b then t.act ∷ store_calls_of n ss else store_calls_of n ss) ++ s.act ∷ []) [
        | true ↦ ap (λ more. t.act ∷ more) rest
        | false ↦ rest
      ])

  -- another seat's changes nothing
  other-then : (n : ℕ) (ss : List (StoreStep N)) (s : StoreStep N) → (s.seat == n) ≡ false → store_calls_of n (ss ++ s ∷ []) ≡ store_calls_of n ss
  other-then n [] s e = ap (λ b. if b then s.act ∷ [] else []) e
  other-then n (t ∷ ss) s e =
      let rest = other-then n ss s e in
      (elim (t.seat == n) as (λ b. (if b then t.act ∷ store_calls_of n (ss ++ s ∷ []) else store_calls_of n (ss ++ s ∷ [])) ≡ (if b then t.act ∷ store_calls_of n ss else store_calls_of n ss)) [
        | true ↦ ap (λ more. t.act ∷ more) rest
        | false ↦ rest
      ])

  -- one more call of the seat
  own_more : (steps : List (StoreStep N)) (n : ℕ) (act : StoreAct N) → store_calls_of n (one_more steps n act) ≡ store_calls_of n steps ++ act ∷ []
  own_more steps n act = own-then n steps (record { seat = n; act = act }) (itself n)

  other_more : (steps : List (StoreStep N)) (n m : ℕ) (act : StoreAct N) → m ≢ n → store_calls_of m (one_more steps n act) ≡ store_calls_of m steps
  other_more steps n m act h = other-then m steps (record { seat = n; act = act }) (apart n m h)

  -- by what was answered
  module _ {T E : Type 0} (old new : List (StoreStep N)) (n : ℕ) (act : T → StoreAct N) where
    pub own_called : (result : Result T E) → IfOk result (λ a. new ≡ one_more old n (act a)) → OnErr result (new ≡ old) → (more : List (StoreAct N)) × (store_calls_of n new ≡ store_calls_of n old ++ more)
    own_called (Ok a) ok err = (act a ∷ [], ap (store_calls_of n) ok ∙ own_more old n (act a))
    own_called (Err e) ok err = ([], ap (store_calls_of n) err ∙ sym (append-nil (store_calls_of n old)))

    pub others_called : (result : Result T E) → IfOk result (λ a. new ≡ one_more old n (act a)) → OnErr result (new ≡ old) → (m : ℕ) → m ≢ n → store_calls_of m new ≡ store_calls_of m old
    others_called (Ok a) ok err m h = ap (store_calls_of m) ok ∙ other_more old n m (act a) h
    others_called (Err e) ok err m h = ap (store_calls_of m) err

    pub list_called : (before after : List (StoreAct N)) → store_calls_of n old ≡ before → after ≡ store_calls_of n new → (result : Result T E) → IfOk result (λ a. new ≡ one_more old n (act a)) → IfOk result (λ a. GoesOnBy (act a) before after)
    list_called before after had now (Ok a) ok = now ∙ ap (store_calls_of n) ok ∙ own_more old n (act a) ∙ ap (λ l. l ++ act a ∷ []) had
    list_called before after had now (Err e) ok = tt

-- ---- what is kept

module _ {V N : Type 0} (r : Rules ℕ V N) (fit : ℕ → V → Type 0) (size : ℕ) (greatest : Option ℕ) where
  abbrev pub number_fits : ℕ × V → Type 0
  number_fits e = fit e.0 e.1

  -- a store of these bounds, whose entries fit
  record AreBounded (c : Kept ℕ V) : Type 0 where
    size_is : c.size ≡ size
    greatest_is : c.greatest ≡ greatest
    entries : AllByRecursion number_fits c.entries

  bounded_found : (n : ℕ) (hit : Bool) (c : Kept ℕ V) → AreBounded c → AreBounded (after_found r.eq n hit c)
  bounded_found n true c b = record { size_is = b.size_is; greatest_is = b.greatest_is; entries = brought number_fits r.eq n c.entries b.entries }
  bounded_found n false c b = b

  bounded_stored : (n : ℕ) (v : V) (c : Kept ℕ V) → fit n v → AreBounded c → AreBounded (stored_in r.eq r.weight n v c)
  bounded_stored n v c new b = record {
    size_is = elim (is_light r.weight c.greatest v) as (λ l. (cond l (with_entries c (cut r.weight c.size c.greatest ((n, v) ∷ remove_entry (r.eq n) c.entries))) c).size ≡ size) [
      | true ↦ b.size_is
      | false ↦ b.size_is
    ];
    greatest_is = elim (is_light r.weight c.greatest v) as (λ l. (cond l (with_entries c (cut r.weight c.size c.greatest ((n, v) ∷ remove_entry (r.eq n) c.entries))) c).greatest ≡ greatest) [
      | true ↦ b.greatest_is
      | false ↦ b.greatest_is
    ];
    entries = stored_fits number_fits r.eq r.weight n v c b.entries new;
  }

  module _ (t u : TracedKept V N) (h : StoreFits r fit size greatest t) (traced : IsTracedStore r u) where
    had : AreBounded t.kept
    had = record { size_is = h.size_is; greatest_is = h.greatest_is; entries = h.entries }

    by_kept : (c : Kept ℕ V) → u.kept ≡ c → AreBounded c → StoreFits r fit size greatest u
    by_kept c is b =
        let now = subst AreBounded (sym is) b in
        record { size_is = now.size_is; greatest_is = now.greatest_is; entries = now.entries; traced = traced }

    pub fits_fetched : {E : Type 0} (n : ℕ) (result : Result (Option V) E) → IfOk result (λ o. u.kept ≡ after_found r.eq n (is_some o) t.kept) → OnErr result (u.kept ≡ t.kept) → StoreFits r fit size greatest u
    fits_fetched n (Ok o) ok err = by_kept (after_found r.eq n (is_some o) t.kept) ok (bounded_found n (is_some o) t.kept had)
    fits_fetched n (Err e) ok err = by_kept t.kept err had

    pub fits_put : {T E : Type 0} (n : ℕ) (v : V) → fit n v → (result : Result T E) → OnOk result (u.kept ≡ stored_in r.eq r.weight n v t.kept) → OnErr result (u.kept ≡ t.kept) → StoreFits r fit size greatest u
    fits_put n v new (Ok o) ok err = by_kept (stored_in r.eq r.weight n v t.kept) ok (bounded_stored n v t.kept new had)
    fits_put n v new (Err e) ok err = by_kept t.kept err had

  -- a value that was found fits its number, and serves
  module _ (same : AreSame ℕ r.eq) (n : ℕ) (es : List (ℕ × V)) (all : AllByRecursion number_fits es) where
    GoodAt : V → Type 0
    GoodAt v = fit n v × (r.serves 0 v ≡ true)

    by_test : (w : V) → lookup (r.eq n) es ≡ Some w → (b : Bool) → r.serves 0 w ≡ b → IfSome (if b then Some w else None) GoodAt
    unfolding GoodAt
    by_test w there true good =
        let e = value_there number_fits (r.eq n) es w all there in
        (subst (λ j. fit j w) (sym (same n e.0 e.1)) e.2, good)
    by_test w there false bad = tt

    by_found : (o : Option V) → lookup (r.eq n) es ≡ o → IfSome (option_and_then (λ v. if r.serves 0 v then Some v else None) o) GoodAt
    by_found None there = tt
    by_found (Some w) there = by_test w there (r.serves 0 w) refl

    good : (o : Option V) → o ≡ served r.eq (r.serves 0) n es → IfSome o GoodAt
    good o is = subst (λ p. IfSome p GoodAt) (sym is) (by_found (lookup (r.eq n) es) refl)

    fit_of : (o : Option V) → IfSome o GoodAt → IfSome o (λ v. fit n v)
    unfolding GoodAt
    fit_of None g = tt
    fit_of (Some v) g = g.0

    pub hit_fetched : {E : Type 0} (result : Result (Option V) E) → IfOk result (λ o. o ≡ served r.eq (r.serves 0) n es) → IfOk result (λ o. IfSome o (λ v. fit n v))
    hit_fetched (Ok o) ok = fit_of o (good o ok)
    hit_fetched (Err e) ok = tt
