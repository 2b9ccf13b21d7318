-- No request takes a place below the second.
use Rattle.std.proofs.Common.{◌≡◌, ℕ, ◌<◌, ◌≤◌, List, [], ◌∷◌, ◌++◌, map, drop, fold, max, Option, Some, None, IfSome, ap, arith, le_refl}
use Rattle.std.specs.List.{AllByRecursion, flat_map}
use Rattle.script_form.specs.declared.config.Config.{Config}
use Rattle.script_form.specs.declared.script.Line.{Line}
use Rattle.run_laws.specs.Rows.{RequestRow, Output}
use Rattle.run_laws.specs.Calls.{Call, Told, calls_of, tell, Each}
use Rattle.run_laws.specs.Bounds.{low, high, sets_below}
use Rattle.run_laws.specs.Places.{place_count}
use Rattle.run_laws.specs.Lawful.{Lawful, KeepsOrder, call_here, told_here}

fold_above : (n a : ℕ) (xs : List ℕ) → n ≤ a → n ≤ fold max a xs
fold_above n a [] h = h
fold_above n a (x ∷ xs) h = fold_above n (max a x) xs (omega arith)

some_above : (l h : ℕ) (place : Option ℕ) → 1 ≤ l → IfSome place (λ p. (l < p) × (p < h)) → IfSome place (λ p. 2 ≤ p)
some_above l h None one b = tt
some_above l h (Some p) one b = omega (arith, one, b.0)

nonempty : {A : Type 0} (x : A) (xs : List A) → x ∷ xs ≡ [] → ⊥
nonempty x xs e = grind arith

module _ (o : Output) where
  places_above : (qs : List Call) (rows : List RequestRow) (before : List Told) → map told_here rows ≡ map call_here qs → Each (KeepsOrder o) before (tell qs rows) → AllByRecursion (λ r. IfSome r.place (λ p. 2 ≤ p)) rows
  places_above [] [] before e h = tt
  places_above [] (r ∷ rows) before e h = absurd (nonempty _ _ e)
  places_above (q ∷ qs) [] before e h = tt
  places_above (q ∷ qs) (r ∷ rows) before e h =
      let t : Told = record { call = q; row = r } in (
        some_above (low o.searchers before t) (high (place_count o) t (tell qs rows)) r.place (fold_above 1 1 (flat_map (sets_below o.searchers t) before) (le_refl 1)) h.0,
        places_above qs rows (before ++ t ∷ []) (ap (drop 1) e) h.1,
      )

pub requests_above : (c : Config) (script : List Line) (o : Output) → Lawful c script o → AllByRecursion (λ r. IfSome r.place (λ p. 2 ≤ p)) o.requests
requests_above c script o h = places_above o (calls_of script) o.requests [] h.answers_each.rows h.keeps_order
