-- What notes tell of a request that was served.
use Rattle.std.specs.Prelude.{ℕ, ◌≤◌, List, length, map, Bool}
use Rattle.request_form.specs.declared.request.Request.{Request}
use Rattle.request_form.specs.declared.request.Filter.{Filter}
use Rattle.search_model.specs.Noting.{IsNote, AreNotesAfter}
use Rattle.searcher_core.specs.declared.served.Served.{Served}

-- whether each filter may use its cache
abbrev pub may_cache : List Filter → List Bool
may_cache fs = map (λ f. f.cached) fs

-- notes of the result and of the filters, and at most as many documents from the cache as the page has
pub record IsNoted (r : Request) (s : Served) : Type 0 where
  pub result : IsNote r.q_cached s.result
  pub filters : AreNotesAfter s.result (may_cache r.filters) s.filters
  pub few_hits : s.doc_hits ≤ length s.docs.items
