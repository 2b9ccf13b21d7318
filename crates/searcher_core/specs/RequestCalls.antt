-- By which calls of its caches a request is served, and by which where memory was wanting on the way.
use Rattle.std.specs.Prelude.{◌≡◌, ℕ, ◌+◌, ◌⊎◌, List, [], ◌∷◌, length, take, drop, map, Bool, true, false, Option, Some, count_by}
use Rattle.std.specs.Arc.{arc_value}
use Rattle.std.specs.FinSet.{len}
use Rattle.doc_model.specs.Document.{Document}
use Rattle.std.specs.List.Sorted.{IsStrictlySortedBy}
use Rattle.query_tree.specs.declared.query.Query.{Query}
use Rattle.query_tree.specs.Order.{query_cmp}
use Rattle.query_eval.specs.Found.{answer}
use Rattle.request_form.specs.declared.request.Request.{Request}
use Rattle.request_form.specs.declared.request.Filter.{Filter}
use Rattle.search_model.specs.declared.notes.Note.{Note}
use Rattle.search_model.specs.declared.notes.Note.TheVariants as note
use Rattle.search_model.specs.Noting.{AreNotes, IsNote}
use Rattle.segment_postings.specs.Numbered.{Numbered, doc_at}
use Rattle.result_cache.specs.declared.key.ResultKey.{ResultKey}
use Rattle.result_cache.specs.declared.entry.Entry.{Entry}
use Rattle.result_cache.specs.Keys.{HasFilters}
use Rattle.cache_traces.specs.declared.act.Act.{Act}
use Rattle.cache_traces.specs.declared.act.Act.TheVariants.{Finished, GaveUp}
use Rattle.cache_traces.specs.declared.told.Told.TheVariants.{Hit}
use Rattle.cache_traces.specs.declared.store_act.StoreAct.{StoreAct}
use Rattle.shared_cells.specs.Lists.{AsksFor, Asked}
use Rattle.searcher_cells.specs.declared.result_entry.ResultNumbers.{ResultNumbers}
use Rattle.searcher_cells.specs.Calls.{Ends, FilterCalls, RefusedCalls, DocumentCalls, RefusedDocument}
use Rattle.searcher_cells.specs.Sights.{numbers_of}
use Rattle.searcher_core.specs.declared.sizes.CacheSizes.{CacheSizes}
use Rattle.searcher_core.specs.Noting.{may_cache}
use Rattle.searcher_core.specs.Searches.{hits_of, queries_of}
use Rattle.searcher_core.specs.Windows.{IsFirstWindow, set_of}

-- the calls of a seat at the filter cache, at the result cache, and at the store of documents
abbrev pub FilterActs : Type 0
FilterActs = List (Act Query ℕ)

abbrev pub ResultActs : Type 0
ResultActs = List (Act ResultKey ResultNumbers)

abbrev pub DocumentActs : Type 0
DocumentActs = List (StoreAct (Option ℕ))

-- ---- filters

-- one filter by its note: one that goes past the cache is not looked up
abbrev pub FilterCall : Numbered → Filter → Note → FilterActs → FilterActs → Type 0
FilterCall v f note.Bypassed old new = new ≡ old
FilterCall v f n old new = FilterCalls f.query n (answer f.query v) old new

-- filters in their order, by their notes
abbrev pub FiltersCalls : Numbered → List Filter → List Note → FilterActs → FilterActs → Type 0
FiltersCalls v [] [] old new = new ≡ old
FiltersCalls v (f ∷ fs) (n ∷ ns) old new =
    (mid : FilterActs) × FilterCall v f n old mid × FiltersCalls v fs ns mid new
FiltersCalls v _ _ old new = ⊥

-- the first of filters, up to one that was refused or to the last
abbrev pub RefusedFilters : Numbered → List Filter → FilterActs → FilterActs → Type 0
RefusedFilters v [] old new = new ≡ old
RefusedFilters v (f ∷ fs) old new =
    (new ≡ old)
    ⊎ (((f.cached ≡ true) × RefusedCalls f.query 0 old new)
    ⊎ ((n : Note) × ((mid : FilterActs) × IsNote f.cached n × FilterCall v f n old mid × RefusedFilters v fs mid new)))

-- by the note of the result: where it was there already, no filter was looked up
abbrev pub FiltersAfter : Numbered → Request → Note → List Note → FilterActs → FilterActs → Type 0
FiltersAfter v r note.Hit ns old new = new ≡ old
FiltersAfter v r note.Joined ns old new = new ≡ old
FiltersAfter v r _ ns old new = FiltersCalls v r.filters ns old new

-- ---- the result

-- the key has the main query, the set of the filters as an ascending list, and the sort
pub record IsKeyOf (r : Request) (key : ResultKey) : Type 0 where
  pub query : key.q ≡ r.q
  pub filters : HasFilters key (queries_of r.filters)
  pub ascending : IsStrictlySortedBy query_cmp key.filters
  pub sort : key.sort ≡ r.sort

abbrev pub need_of : Request → ℕ
need_of r = r.start + r.rows

-- the entry counts what the request finds, and lists the first window of it
pub record IsCollected (v : Numbered) (sizes : CacheSizes) (r : Request) (e : Entry) : Type 0 where
  pub counts : e.found ≡ len (set_of v r)
  pub window : IsFirstWindow r sizes.window (set_of v r) v e.ids

-- the key was owned, and such an entry of it was stored, or memory was wanting for that
abbrev pub EndsCollected : Numbered → CacheSizes → Request → ResultKey → Bool → ResultActs → ResultActs → Type 0
EndsCollected v sizes r key stored old new =
    (e : Entry) × IsCollected v sizes r e × Ends key (need_of r) (Finished key (numbers_of sizes.most_docs e) stored) old new

-- by the note of the result
abbrev pub ResultCall : Numbered → CacheSizes → Request → Note → ResultActs → ResultActs → Type 0
ResultCall v sizes r note.Bypassed old new = new ≡ old
ResultCall v sizes r note.Hit old new = (key : ResultKey) × IsKeyOf r key × AsksFor key (need_of r) false Hit old new
ResultCall v sizes r note.Joined old new = (key : ResultKey) × IsKeyOf r key × AsksFor key (need_of r) true Hit old new
ResultCall v sizes r note.Computed old new = (key : ResultKey) × IsKeyOf r key × EndsCollected v sizes r key true old new

-- Where memory was wanting before there was a result: the look-up; or what came behind it, and the end of the key.
abbrev pub RefusedUnder : Numbered → CacheSizes → Request → ResultKey → ResultActs → ResultActs → FilterActs → FilterActs → Type 0
RefusedUnder v sizes r key ro rn fo fn =
    (Asked key (need_of r) ro rn × (fn ≡ fo))
    ⊎ ((Ends key (need_of r) (GaveUp key) ro rn × RefusedFilters v r.filters fo fn)
    ⊎ (EndsCollected v sizes r key false ro rn
    × ((ns : List Note) × AreNotes (may_cache r.filters) ns × FiltersCalls v r.filters ns fo fn)))

-- nothing was called; or the request goes past the result cache; or its key was looked up
abbrev pub RefusedResult : Numbered → CacheSizes → Request → ResultActs → ResultActs → FilterActs → FilterActs → Type 0
RefusedResult v sizes r ro rn fo fn =
    ((rn ≡ ro) × (fn ≡ fo))
    ⊎ (((r.q_cached ≡ false) × (rn ≡ ro) × RefusedFilters v r.filters fo fn)
    ⊎ ((key : ResultKey) × IsKeyOf r key × RefusedUnder v sizes r key ro rn fo fn))

-- ---- documents

-- documents one after another, by whether each was there
abbrev pub DocumentsCalls : Numbered → List Document → List Bool → DocumentActs → DocumentActs → Type 0
DocumentsCalls v [] [] old new = new ≡ old
DocumentsCalls v (d ∷ ds) (b ∷ bs) old new =
    (n : ℕ) × (doc_at v n ≡ Some d)
    × ((mid : DocumentActs) × DocumentCalls n b d old mid × DocumentsCalls v ds bs mid new)
DocumentsCalls v _ _ old new = ⊥

-- so many of them were there
abbrev pub PageCalls : Numbered → List Document → ℕ → DocumentActs → DocumentActs → Type 0
PageCalls v ds hits old new =
    (bs : List Bool) × (hits ≡ count_by (λ b. b) bs) × DocumentsCalls v ds bs old new

-- the first of documents, up to one that was refused or to the last
abbrev pub RefusedPage : Numbered → List Document → DocumentActs → DocumentActs → Type 0
RefusedPage v [] old new = new ≡ old
RefusedPage v (d ∷ ds) old new =
    (new ≡ old)
    ⊎ ((n : ℕ) × (doc_at v n ≡ Some d)
    × (RefusedDocument n old new
    ⊎ ((b : Bool) × ((mid : DocumentActs) × DocumentCalls n b d old mid × RefusedPage v ds mid new))))

-- the documents of the request's page
abbrev pub page_of : Numbered → Request → List Document
page_of v r = take r.rows (drop r.start (hits_of v r))
