-- The key that a seat owns after the calls by which its list goes on.
use Rattle.std.proofs.Common.{◌≡◌, ◌++◌, ℕ, Bool, true, false, List, [], ◌∷◌, Option, Some, None, refl, sym, ap, subst, ◌∙◌}
use Rattle.std.specs.Prelude.{Result, Ok, Err, OnErr, unwrap_or}
use Rattle.cache_traces.specs.declared.act.Act.{Act}
use Rattle.cache_traces.specs.declared.act.Act.TheVariants.{Looked, Finished, GaveUp}
use Rattle.cache_traces.specs.declared.told.Told.{Told}
use Rattle.cache_traces.specs.declared.told.Told.TheVariants.{Hit, Owned}
use Rattle.cache_traces.specs.Acts.{owned_then, owned_from, owned_after}
use Rattle.cache_traces.proofs.Owners.{owned_from-then}
use Rattle.shared_cells.specs.Lists.{AsksFor, Asked, GoesOnBy}
use Rattle.shared_cells.proofs.Seats.{owns_none}

pub some_is : {A : Type 0} {x y : A} → Some x ≡ Some y → x ≡ y
some_is {A} {x} h = ap (λ o. unwrap_or o x) h

pub on_err : {T E P : Type 0} (result : Result T E) → P → OnErr result P
on_err (Ok x) p = tt
on_err (Err e) p = p

module _ {K N : Type 0} (k : K) (need : ℕ) (old new : List (Act K N)) where
  -- nothing, where the look-up was given up
  pub asked_none : Asked k need old new → owned_after old ≡ None → owned_after new ≡ None
  asked_none a none = owns_none k need a.0 old new a.1.0 a.1.1 a.1.2 none

  -- nothing, where it was a hit
  pub hit_none : (again : Bool) → AsksFor k need again Hit old new → owned_after old ≡ None → owned_after new ≡ None
  hit_none again a none =
      ap owned_after a.2 ∙ owned_from-then None (old ++ a.0) (Looked k need again Hit) ∙ owns_none k need again old (old ++ a.0) a.0 a.1 refl none

  -- the key, where nobody had it
  pub own_some : (again : Bool) → AsksFor k need again Owned old new → owned_after new ≡ Some k
  own_some again a = ap owned_after a.2 ∙ owned_from-then None (old ++ a.0) (Looked k need again Owned)

module _ {K N : Type 0} (k : K) (old new : List (Act K N)) where
  -- nothing, once the key was ended
  pub finished_none : (n : N) (stored : Bool) → GoesOnBy (Finished k n stored) old new → owned_after new ≡ None
  finished_none n stored is = ap owned_after is ∙ owned_from-then None old (Finished k n stored)

  pub gave_up_none : GoesOnBy (GaveUp k) old new → owned_after new ≡ None
  gave_up_none is = ap owned_after is ∙ owned_from-then None old (GaveUp k)
