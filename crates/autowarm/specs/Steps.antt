-- By which calls keys are regenerated, one after another.
use Rattle.std.specs.Prelude.{◌≡◌, ℕ, ◌⊎◌, List, [], ◌∷◌, Bool, true, false, Result, Ok, Err, count_by}
use Rattle.field_schema.specs.declared.memory.NoMemory.{NoMemory}
use Rattle.query_tree.specs.declared.query.Query.{Query}
use Rattle.query_eval.specs.Found.{answer}
use Rattle.cache_traces.specs.declared.act.Act.{Act}
use Rattle.result_cache.specs.declared.key.ResultKey.{ResultKey}
use Rattle.search_model.specs.declared.notes.Note.{Note}
use Rattle.search_model.specs.declared.notes.Note.TheVariants as note
use Rattle.search_model.specs.Noting.{IsNote}
use Rattle.segment_postings.specs.Numbered.{Numbered}
use Rattle.searcher_cells.specs.Calls.{FilterCalls, RefusedCalls}
use Rattle.searcher_core.specs.RequestCalls.{FilterActs, RefusedResult, ResultActs, ResultCall}
use Rattle.searcher_core.specs.Shows.{Shows}
use Rattle.autowarm.specs.WarmRequests.{request_of}

-- what became of a key: its note, or memory was wanting
abbrev pub Done : Type 0
Done = Result Note NoMemory

abbrev pub is_computed : Done → Bool
is_computed (Ok note.Computed) = true
is_computed _ = false

abbrev pub is_refused : Done → Bool
is_refused (Ok n) = false
is_refused (Err e) = true

-- a filter that was looked up, and evaluated where it was not there; or memory was wanting for it
abbrev pub FilterStep : Numbered → Query → Done → FilterActs → FilterActs → Type 0
FilterStep v q (Ok n) old new = FilterCalls q n (answer q v) old new
FilterStep v q (Err e) old new = RefusedCalls q 0 old new

-- a result, with no call of a filter; where memory was wanting, before there was a result or behind it
abbrev pub ResultStep : Shows → ResultKey → Done → ResultActs → ResultActs → Type 0
ResultStep w key (Ok n) old new =
    IsNote true n × ResultCall w.view w.sizes (request_of key) n old new
ResultStep w key (Err e) old new =
    RefusedResult w.view w.sizes (request_of key) old new [] []
    ⊎ ((n : Note) × IsNote true n × ResultCall w.view w.sizes (request_of key) n old new)

module _ {K N : Type 0} (Step : K → Done → List (Act K N) → List (Act K N) → Type 0) where
  -- each key in its turn, and what became of it
  abbrev pub InTurn : List K → List Done → List (Act K N) → List (Act K N) → Type 0
  InTurn [] [] old new = new ≡ old
  InTurn (k ∷ ks) (d ∷ ds) old new =
      (mid : List (Act K N)) × Step k d old mid × InTurn ks ds mid new
  InTurn _ _ old new = ⊥

  -- the keys in their turn, of which so many were computed and so many refused
  pub record AreDone (keys : List K) (old new : List (Act K N)) (computed refused : ℕ)
      : Type 0 where
    pub done : List Done
    pub in_turn : InTurn keys done old new
    pub computed_is : computed ≡ count_by is_computed done
    pub refused_is : refused ≡ count_by is_refused done
