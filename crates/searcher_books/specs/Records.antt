-- For private clauses: what a call was, by its record.
use Rattle.std.specs.Prelude.{ℕ, length, Bool, true, false, not, ◌&&◌}
use Rattle.cache_traces.specs.declared.told.Told.TheVariants.{Hit}
use Rattle.cache_traces.specs.declared.record.Done.{Done}
use Rattle.cache_traces.specs.declared.record.Done.TheVariants.{Looked, Finished, Listed}

module _ {N : Type 0} where
  abbrev pub looked_first : Done N → Bool
  looked_first (Looked key need again told) = not again
  looked_first _ = false

  abbrev pub hit : Done N → Bool
  hit (Looked key need again Hit) = true
  hit _ = false

  abbrev pub kept : (N → Bool) → Done N → Bool
  kept keeps (Finished key numbers stored) = stored && keeps numbers
  kept keeps _ = false

  abbrev pub listed : Done N → Bool
  listed (Listed most keys) = true
  listed _ = false

  abbrev pub many_listed : Done N → ℕ
  many_listed (Listed most keys) = length keys.items
  many_listed _ = 0
