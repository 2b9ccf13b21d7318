-- The run in front of a list.
use Rattle.std.proofs.Common.{◌≡◌, List, Bool, length}
use Rattle.std.specs.List.{take_while, prefix_len}
use Rattle.std.proofs.lemmas.List.Folds.{length-prefix_len}

-- the run is as long as it is
pub taken : {X : Type 0} (p : X → Bool) (xs : List X) → length (take_while p xs) ≡ prefix_len p xs
taken p xs = length-prefix_len p xs
