-- All doors of a searcher, and what its caches were called for.
use Rattle.std.specs.Prelude.{◌≡◌, ℕ, ◌≤◌, List, length, map, slice_get, Some, None}
use Rattle.view_cells.specs.Closing.{AllIdle}
use Rattle.cache_machine.specs.Machine.{Cache, Kept}
use Rattle.cache_traces.specs.declared.act.Step.{Step}
use Rattle.cache_traces.specs.declared.store_act.StoreStep.{StoreStep}
use Rattle.cache_traces.specs.Traces.{Rules, rules}
use Rattle.shared_cells.specs.Fitting.{CellFits, StoreFits}
use Rattle.query_tree.specs.declared.query.Query.{Query}
use Rattle.query_tree.specs.Order.{query_eq}
use Rattle.doc_sets.specs.Sets.{Numbers}
use Rattle.filter_cache.specs.Filters.{filter_weight, any_set}
use Rattle.result_cache.specs.declared.key.ResultKey.{ResultKey}
use Rattle.result_cache.specs.declared.entry.Entry.{Entry}
use Rattle.result_cache.specs.Keys.{result_key_eq}
use Rattle.result_cache.specs.Entries.{result_weight, serves}
use Rattle.searcher_cells.specs.declared.result_entry.ResultNumbers.{ResultNumbers}
use Rattle.searcher_cells.specs.Sights.{Sight, size_of, any_size, numbers_of, is_kept}
use Rattle.searcher_core.specs.declared.searcher.Door.{Door}

-- how the filter cache and the result cache know their keys and values
abbrev pub filter_rules : Rules Query Numbers ℕ
filter_rules = rules query_eq filter_weight (λ _. any_set) (λ _. size_of) any_size

abbrev pub result_rules : Rules ResultKey Entry ResultNumbers
result_rules = rules result_key_eq result_weight serves numbers_of is_kept

-- all doors of one searcher, in the order of their seats' numbers
pub record AreAllDoors (doors : List Door) : Type 0 where
  pub some : 1 ≤ length doors
  pub filters : AllIdle (map (λ d. d.seats.filters) doors)
  pub results : AllIdle (map (λ d. d.seats.results) doors)
  pub documents : AllIdle (map (λ d. d.seats.documents) doors)

-- what is said of each door by its number
abbrev pub OfEach : List Door → (ℕ → Door → Type 0) → Type 0
OfEach doors P = (i : ℕ) (d : Door) → slice_get doors i ≡ Some d → P i d

module _ {K V N : Type 0} where
  -- The calls are a run of the machine from the cache that keeps nothing, of the size and seats of what the cache is about, and each entry at
  -- its end is what an evaluation gives.
  abbrev pub AreRun : Rules K V N → (Sight → K → V → Type 0) → Sight → List K → List (Step K N) → Type 0
  AreRun r fit about keys steps =
      (c : Cache K V) × CellFits r (fit about) about.size None about.seats (record { keys = keys; cache = c; steps = steps })

module _ {V N : Type 0} where
  -- The calls lead from nothing kept, in the size of what the store is about, and each entry at the end is what the view has.
  abbrev pub AreStoreRun : Rules ℕ V N → (Sight → ℕ → V → Type 0) → Sight → List (StoreStep N) → Type 0
  AreStoreRun r fit about steps =
      (c : Kept ℕ V) × StoreFits r (fit about) about.size None (record { kept = c; steps = steps })
