-- The documents that a request finds, as numbers, and the first of them.
use Rattle.std.specs.Prelude.{◌≡◌, ℕ, List}
use Rattle.doc_sets.specs.Sets.{Numbers}
use Rattle.query_eval.specs.Found.{found}
use Rattle.request_form.specs.declared.request.Request.{Request}
use Rattle.search_model.specs.Answer.{is_hit}
use Rattle.segment_postings.specs.Numbered.{Numbered}
use Rattle.sort_window.specs.First.{first_numbers}
use Rattle.sort_window.specs.Windows.{IsWindow}
use Rattle.searcher_core.specs.Searches.{queries_of}

-- the documents that a request finds
abbrev pub set_of : Numbered → Request → Numbers
set_of v r = found (is_hit r.q (queries_of r.filters)) v

-- the ids are the first of a set in order, as many as the window of the request's page
abbrev pub IsFirstWindow : Request → ℕ → Numbers → Numbered → List ℕ → Type 0
IsFirstWindow r size set v ids = (n : ℕ) × IsWindow r.start r.rows size n × (ids ≡ first_numbers n r.sort set v)
