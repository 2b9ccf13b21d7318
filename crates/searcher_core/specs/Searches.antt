-- What a request asks of the caches and of a view.
use Rattle.std.specs.Prelude.{ℕ, List, ◌∷◌, map, filter, not}
use Rattle.std.specs.List.Sorted.{IsPermutation, IsSortedByKey, IsStableByKey}
use Rattle.std.specs.Ordering.{int_cmp}
use Rattle.doc_model.specs.Document.{Document}
use Rattle.query_tree.specs.declared.query.Query.{Query}
use Rattle.request_form.specs.declared.request.Request.{Request}
use Rattle.request_form.specs.declared.request.Filter.{Filter}
use Rattle.segment_postings.specs.Numbered.{Numbered, docs}
use Rattle.search_model.specs.Answer.{hits}

abbrev pub queries_of : List Filter → List Query
queries_of fs = map (λ f. f.query) fs

-- the documents that the request finds, in the order of its sort
abbrev pub hits_of : Numbered → Request → List Document
hits_of v r = hits (docs v) r.q (queries_of r.filters) r.sort

-- the filters that may be cached, and those that may not, in the order of the request
abbrev pub cached : List Filter → List Filter
cached fs = filter (λ f. f.cached) fs

abbrev pub uncached : List Filter → List Filter
uncached fs = filter (λ f. not f.cached) fs

-- the filters by ascending cost, and where two cost the same in the order that they had
pub record IsByCost (fs turns : List Filter) : Type 0 where
  pub same : IsPermutation fs turns
  pub rising : IsSortedByKey (λ f. f.cost) int_cmp turns
  pub ties : IsStableByKey (λ f. f.cost) int_cmp fs turns
