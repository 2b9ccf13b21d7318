-- Which queries a service evaluates, by its notes, and what it reads of its view.
use Rattle.std.specs.Prelude.{◌≡◌, ℕ, ◌-◌, zero, suc, List, [], ◌∷◌, ◌++◌, length, map, Bool, ◌&&◌, if◌then◌else◌}
use Rattle.std.specs.List.{list_all, list_any}
use Rattle.doc_model.specs.Document.{Document}
use Rattle.query_tree.specs.declared.query.Query.{Query, out-Query}
use Rattle.query_tree.specs.Matches.{top}
use Rattle.query_eval.specs.Kept.{Asks}
use Rattle.request_form.specs.declared.request.Request.{Request}
use Rattle.request_form.specs.declared.request.Filter.{Filter}
use Rattle.search_model.specs.declared.notes.Note.{Note}
use Rattle.search_model.specs.declared.notes.Note.TheVariants.{Hit, Joined, Computed, Bypassed}
use Rattle.segment_postings.specs.declared.posting.Counts.{Counts}
use Rattle.segment_postings.specs.Numbered.{Numbered, docs}
use Rattle.segment_postings.specs.Terms.{raised}
use Rattle.searcher_core.specs.Searches.{queries_of, cached, uncached, IsByCost}
use Rattle.searcher_core.specs.declared.served.Served.{Served}

-- a query that was looked up and not there
abbrev pub computed_by : Note → Query → List Query
computed_by Computed q = q ∷ []
computed_by _ q = []

-- those of filters, by their notes
abbrev pub computed : List Filter → List Note → List Query
computed (f ∷ fs) (n ∷ ns) = computed_by n f.query ++ computed fs ns
computed _ _ = []

-- the document passes, and matches the queries
abbrev pub passes_too : (Document → Bool) → List Query → Document → Bool
passes_too p qs d = p d && list_all (top d.values) qs

-- the queries in turn, as long as some document passes and matches those before
abbrev pub while_some : List Document → (Document → Bool) → List Query → List Query
while_some ds p [] = []
while_some ds p (q ∷ qs) =
    if list_any p ds then q ∷ while_some ds (λ d. p d && top d.values q) qs else []

-- The filters that their cache lacked; then the main query and the filters that go past the caches, as long as something is left of the documents that the
-- cached filters match.
abbrev pub evaluated : List Document → Request → List Filter → List Note → List Query
evaluated ds r turns notes =
    computed r.filters notes
    ++ while_some ds (λ d. list_all (top d.values) (queries_of (cached r.filters))) (r.q ∷ queries_of turns)

-- how the queries, evaluated one after another, raise the count of postings
abbrev pub AskInTurn : List Query → ℕ → ℕ → Type 0
AskInTurn [] before after = after ≡ before
AskInTurn (q ∷ qs) before after = (between : ℕ) × Asks (out-Query q) before between × AskInTurn qs between after

-- a count after n more calls
abbrev pub raised_by : ℕ → ℕ → ℕ
raised_by zero count = count
raised_by (suc n) count = raised (raised_by n count)

-- where the result was there already, no sort value was read
abbrev pub ReadsValues : Note → ℕ → ℕ → Type 0
ReadsValues Hit before after = after ≡ before
ReadsValues Joined before after = after ≡ before
ReadsValues _ before after = Unit {0}

-- the filters that go past the caches are evaluated by cost
pub record EvaluatesAsNoted (v : Numbered) (r : Request) (notes : List Note) (before after : ℕ) : Type 0 where
  pub turns : List Filter
  pub by_cost : IsByCost (uncached r.filters) turns
  pub asked : AskInTurn (evaluated (docs v) r turns notes) before after

-- where the result was there already, nothing is evaluated
abbrev pub AsksAsNoted : Numbered → Request → Note → List Note → ℕ → ℕ → Type 0
AsksAsNoted v r Hit notes before after = after ≡ before
AsksAsNoted v r Joined notes before after = after ≡ before
AsksAsNoted v r _ notes before after = EvaluatesAsNoted v r notes before after

-- what a service with these notes reads of its view
pub record ReadsAsNoted (v : Numbered) (r : Request) (s : Served) (before after : Counts) : Type 0 where
  pub postings : AsksAsNoted v r s.result s.filters before.postings after.postings
  pub values : ReadsValues s.result before.values after.values
  pub stored : after.stored ≡ raised_by (length s.docs.items - s.doc_hits) before.stored
