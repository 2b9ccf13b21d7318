-- Requests that are served for what they leave in the caches.
use Rattle.std.specs.Prelude.{◌≡◌, ℕ, List, [], ◌∷◌, Bool, true, false, count_by, min}
use Rattle.request_form.specs.declared.request.Request.{Request}
use Rattle.searcher_core.specs.Serving.{HasRefused, HasServed}
use Rattle.searcher_core.specs.Shows.{Shows}
use Rattle.searcher_core.specs.declared.seats.Seats.{Seats}
use Rattle.searcher_core.specs.declared.served.Served.{Served}

-- the request was served, or memory was wanting for it
abbrev pub IsHeard : Shows → Request → Bool → Seats → Seats → Type 0
IsHeard w r true old new = (s : Served) × HasServed w r s old new
IsHeard w r false old new = HasRefused w r old new

-- each request in its turn, and whether it was served
abbrev pub HeardInTurn : Shows → List Request → List Bool → Seats → Seats → Type 0
HeardInTurn w [] [] old new = new ≡ old
HeardInTurn w (r ∷ rs) (b ∷ bs) old new =
    (mid : Seats) × IsHeard w r b old mid × HeardInTurn w rs bs mid new
HeardInTurn w _ _ old new = ⊥

-- the requests in their turn, of which so many were served, as far as a u32 counts them
pub record AreHeard (w : Shows) (rs : List Request) (served : ℕ) (old new : Seats) : Type 0 where
  pub heard : List Bool
  pub in_turn : HeardInTurn w rs heard old new
  pub served_is : served ≡ min (count_by (λ b. b) heard) 4294967295
