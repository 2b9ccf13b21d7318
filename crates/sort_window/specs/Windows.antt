-- How many documents a result keeps.
use Rattle.std.specs.Prelude.{◌≡◌, ℕ, ◌+◌, ◌*◌, ◌≤◌}

-- the least multiple of `size` that is at least 1 and reaches to the end of the page
pub record IsWindow (start rows size window : ℕ) : Type 0 where
  pub multiple : (k : ℕ) × (window ≡ k * size)
  pub some : 1 ≤ window
  pub reaches : start + rows ≤ window
  pub least : (k : ℕ) → 1 ≤ k * size → start + rows ≤ k * size → window ≤ k * size
