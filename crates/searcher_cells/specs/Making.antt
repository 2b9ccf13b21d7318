-- Caches that keep nothing yet, and their seats.
use Rattle.std.specs.Prelude.{◌≡◌, ℕ, ◌≤◌, nat_eq, [], Option, None}
use Rattle.doc_model.specs.Document.{Document}
use Rattle.document_cache.specs.Documents.{document_weight, any_document}
use Rattle.segment_postings.specs.Numbered.{Numbered}
use Rattle.cache_machine.specs.Machine.{empty_cache, nothing_kept}
use Rattle.cache_traces.specs.Traces.{Rules, rules}
use Rattle.cache_traces.specs.TracedCache.{TracedCache, IsTraced}
use Rattle.cache_traces.specs.TracedStore.{TracedKept, IsTracedStore}
use Rattle.searcher_cells.specs.Sights.{Sight, values_of, any_count}

abbrev pub IsCacheSize : ℕ → Type 0
IsCacheSize n = (1 ≤ n) × (n ≤ 4096)

abbrev pub IsSeatCount : ℕ → Type 0
IsSeatCount n = (1 ≤ n) × (n ≤ 65)

-- what a cache of this size with so many seats is about
abbrev pub sight : Numbered → ℕ → ℕ → Sight
sight v size seats = record { view = v; size = size; seats = seats }

-- a cache of such values has the size and the seats of what it is about, and no bound on its weight
abbrev pub GoesBySight : (Sight → ℕ) → (Sight → Option ℕ) → (Sight → ℕ) → Type 0
GoesBySight size greatest seats = (s : Sight) → (size s ≡ s.size) × (greatest s ≡ None) × (seats s ≡ s.seats)

-- nothing is kept, and nothing was called
pub record IsEmptyCell {K V N : Type 0} (r : Rules K V N) (size seats : ℕ) (t : TracedCache K V N) : Type 0 where
  pub cache_is : t.cache ≡ empty_cache size None seats
  pub steps_are : t.steps ≡ []
  pub traced : IsTraced r t

abbrev pub document_rules : Rules ℕ Document (Option ℕ)
document_rules = rules nat_eq document_weight (λ _. any_document) (λ _. values_of) any_count

pub record IsEmptyStore (r : Rules ℕ Document (Option ℕ)) (size : ℕ) (t : TracedKept Document (Option ℕ)) : Type 0 where
  pub kept_is : t.kept ≡ nothing_kept size None
  pub steps_are : t.steps ≡ []
  pub traced : IsTracedStore r t
