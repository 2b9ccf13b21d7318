-- What contracts see of a searcher.
use Rattle.std.specs.Prelude.{ℕ, ◌≤◌}
use Rattle.segment_postings.specs.Numbered.{Numbered}
use Rattle.searcher_core.specs.declared.sizes.CacheSizes.{CacheSizes}

-- the numbered live documents, the sizes of the caches, and how many doors there are
pub record Shows : Type 0 where
  pub view : Numbered
  pub sizes : CacheSizes
  pub seats : ℕ

abbrev pub shows : Numbered → CacheSizes → ℕ → Shows
shows view sizes seats = record { view = view; sizes = sizes; seats = seats }

abbrev pub IsSize : ℕ → Type 0
IsSize n = (1 ≤ n) × (n ≤ 4096)

-- each size is in its limits
pub record AreSizes (s : CacheSizes) : Type 0 where
  pub filters : IsSize s.filters
  pub results : IsSize s.results
  pub documents : IsSize s.documents
  pub window : IsSize s.window
  pub most_docs : IsSize s.most_docs
