-- By which calls a filter, or a document, is had from its cache.
use Rattle.std.specs.Prelude.{◌≡◌, ℕ, Option, ◌⊎◌, Bool, true, false, List}
use Rattle.query_tree.specs.declared.query.Query.{Query, out-Query}
use Rattle.query_eval.specs.Kept.{Asks}
use Rattle.doc_sets.specs.Sets.{Numbers}
use Rattle.search_model.specs.declared.notes.Note.{Note}
use Rattle.search_model.specs.declared.notes.Note.TheVariants as note
use Rattle.cache_traces.specs.declared.act.Act.{Act}
use Rattle.cache_traces.specs.declared.act.Act.TheVariants.{Finished, GaveUp}
use Rattle.cache_traces.specs.declared.told.Told.TheVariants.{Hit, Owned}
use Rattle.shared_cells.specs.Lists.{AsksFor, Asked, GoesOnBy}
use Rattle.doc_model.specs.Document.{Document}
use Rattle.cache_traces.specs.declared.store_act.StoreAct.{StoreAct}
use Rattle.cache_traces.specs.declared.store_act.StoreAct.TheVariants as store
use Rattle.searcher_cells.specs.Sights.{size_of, values_of}

-- A key that the seat owned was ended by this call.
abbrev pub Ends : {K N : Type 0} → K → ℕ → Act K N → List (Act K N) → List (Act K N) → Type 0
Ends {K} {N} k need end old new =
    (again : Bool) × ((mid : List (Act K N)) × AsksFor k need again Owned old mid × GoesOnBy end mid new)

-- by the note of a filter with this set
abbrev pub FilterCalls : Query → Note → Numbers → List (Act Query ℕ) → List (Act Query ℕ) → Type 0
FilterCalls q note.Hit s old new = AsksFor q 0 false Hit old new
FilterCalls q note.Joined s old new = AsksFor q 0 true Hit old new
FilterCalls q note.Computed s old new = Ends q 0 (Finished q (size_of s) true) old new
FilterCalls q note.Bypassed s old new = ⊥

-- how a filter raises the count of postings: one that was computed asks for them, and another reads none
abbrev pub AsksByNote : Note → Query → ℕ → ℕ → Type 0
AsksByNote note.Hit q before after = after ≡ before
AsksByNote note.Joined q before after = after ≡ before
AsksByNote note.Computed q before after = Asks (out-Query q) before after
AsksByNote note.Bypassed q before after = after ≡ before

-- Where memory was wanting: the look-up alone, or with the end of the key that was owned.
abbrev pub RefusedCalls : {K N : Type 0} → K → ℕ → List (Act K N) → List (Act K N) → Type 0
RefusedCalls {K} {N} k need old new =
    Asked k need old new
    ⊎ (Ends k need (GaveUp k) old new ⊎ ((n : N) × Ends k need (Finished k n false) old new))

-- ---- documents

-- by whether the document was there
abbrev pub DocumentCalls : ℕ → Bool → Document → List (StoreAct (Option ℕ)) → List (StoreAct (Option ℕ)) → Type 0
DocumentCalls n true d old new = GoesOnBy (store.Looked n true) old new
DocumentCalls n false d old new =
    (mid : List (StoreAct (Option ℕ))) × GoesOnBy (store.Looked n false) old mid × GoesOnBy (store.Put n (values_of d)) mid new

-- Where memory was wanting: no call, or a look-up that found nothing.
abbrev pub RefusedDocument : ℕ → List (StoreAct (Option ℕ)) → List (StoreAct (Option ℕ)) → Type 0
RefusedDocument n old new = (new ≡ old) ⊎ GoesOnBy (store.Looked n false) old new
