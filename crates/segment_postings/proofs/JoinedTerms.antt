-- What a loop that joins keys keeps.
use Rattle.std.proofs.Common.{◌≡◌, ℕ, ◌≤◌, List, length, take, fold}
use Rattle.field_schema.specs.declared.key.Key.{Key}
use Rattle.segment_postings.specs.Terms.{Ascending, put_key}

-- the first of the keys that were there and those that were put among them
pub record Joined (init found keys : List Key) (most : ℕ) : Type 0 where
  pub is : found ≡ take most (fold put_key init keys)
  pub ascending : Ascending found
  pub few : length found ≤ most
