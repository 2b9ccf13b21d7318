-- For private clauses alone: sets of what passes, as they are met one after another.
use Rattle.std.specs.Prelude.{◌≡◌, ℕ, ◌+◌, ◌<◌, List, [], length, Bool, true, Option, Some, None}
use Rattle.std.specs.Arc.{arc_value}
use Rattle.std.specs.FinSet.{from_list, len}
use Rattle.std.specs.List.{filter_map}
use Rattle.field_schema.specs.declared.key.Key.{Key}
use Rattle.doc_model.specs.Document.{Document}
use Rattle.doc_sets.specs.Sets.{Numbers}
use Rattle.query_eval.specs.Found.{found}
use Rattle.query_eval.specs.Many.{IsCommon}
use Rattle.query_tree.specs.declared.query.Query.{Query}
use Rattle.request_form.specs.declared.request.Request.{Request}
use Rattle.result_cache.specs.declared.entry.Entry.{Entry}
use Rattle.result_cache.specs.Entries.{serves}
use Rattle.search_model.specs.declared.notes.Note.{Note}
use Rattle.segment_postings.specs.declared.posting.Counts.{Counts}
use Rattle.segment_postings.specs.Numbered.{Numbered, docs, doc_at, numbers}
use Rattle.sort_window.specs.First.{first_numbers}
use Rattle.searcher_core.specs.declared.results.Given.{Given}
use Rattle.searcher_core.specs.Evaluated.{AskInTurn, AsksAsNoted, EvaluatesAsNoted, ReadsValues, passes_too, while_some}
use Rattle.search_model.specs.Noting.{AreNotes, AreNotesAfter, IsNote}
use Rattle.searcher_core.specs.Noting.{may_cache}
use Rattle.searcher_core.specs.Windows.{set_of}

-- what the sets have in common, if there are sets
abbrev pub IsCommonOf : List Numbers → Option Numbers → Type 0
IsCommonOf sets (Some s) = (0 < length sets) × IsCommon sets s
IsCommonOf sets None = sets ≡ []

-- what is left: where no set says so, all live documents
abbrev pub left_of : Numbered → Option Numbers → Numbers
left_of v (Some s) = s
left_of v None = from_list (numbers v)

-- What was left was met by what the queries match. Each was evaluated in its turn, as long as something was left.
pub record HasMet (v : Numbered) (qs : List Query) (left met : Numbers) (before after : ℕ) : Type 0 where
  pub found_is : (p : Document → Bool) → left ≡ found p v → met ≡ found (passes_too p qs) v
  pub asked : (p : Document → Bool) → left ≡ found p v → AskInTurn (while_some (docs v) p qs) before after

-- the entry counts them, and lists the first of them: enough for the page, or all
pub record IsEntryFor (v : Numbered) (r : Request) (e : Entry) : Type 0 where
  pub counts : e.found ≡ len (set_of v r)
  pub lists : e.ids ≡ first_numbers (length e.ids) r.sort (set_of v r) v
  pub enough : serves (r.start + r.rows) e ≡ true

-- the documents of numbers
abbrev pub docs_at : Numbered → List ℕ → List Document
docs_at v numbers = filter_map (doc_at v) numbers

-- the view and its terms stay, and no document was read
pub record Stays {S : Type 0} (seen : S → Numbered) (keys : S → ℕ → List Key) (counted : S → Counts) (old new : S) : Type 0 where
  pub view : seen new ≡ seen old
  pub terms : keys new ≡ keys old
  pub stored : (counted new).stored ≡ (counted old).stored

-- a result was made, with these notes of the filters
pub record IsMade (v : Numbered) (r : Request) (before after : Counts) (notes : List Note) : Type 0 where
  pub notes_are : AreNotes (may_cache r.filters) notes
  pub evaluates : EvaluatesAsNoted v r notes before.postings after.postings

-- a result was given, kept or made
pub record IsGiven (v : Numbered) (r : Request) (before after : Counts) (g : Given) : Type 0 where
  pub entry_is : IsEntryFor v r (arc_value g.entry)
  pub result_is : IsNote r.q_cached g.result
  pub notes_are : AreNotesAfter g.result (may_cache r.filters) g.filters.items
  pub asks : AsksAsNoted v r g.result g.filters.items before.postings after.postings
  pub values : ReadsValues g.result before.values after.values
