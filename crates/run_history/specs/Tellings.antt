-- Rows with the entries of a history that they tell.
use Rattle.std.specs.Prelude.{◌≡◌, ◌⊎◌, ℕ, List, Bool, false, ◌==◌, if◌then◌else◌, Option, Some, None, Result, Ok}
use Rattle.std.specs.Result.{result_map_both}
use Rattle.doc_model.specs.Document.{Document}
use Rattle.request_form.specs.declared.commit.CommitForm.{CommitForm}
use Rattle.search_model.specs.Live.{Change, nothing}
use Rattle.search_model.specs.Answer.{Asked}
use Rattle.script_form.specs.declared.config.Config.{Config}
use Rattle.registry_machine.specs.declared.entry.Entry.{Entry}
use Rattle.registry_machine.specs.declared.entry.Entry.TheVariants.{Open, TooMany, Update, Acquire}
use Rattle.run_laws.specs.Rows.{Verb, add, delete, query, commit, RequestRow, SearcherRow}
use Rattle.run_laws.specs.Calls.{Call, Told}
use Rattle.run_laws.specs.CallReadings.{update_of, commit_of, query_of}

-- what is read off a history's contents, which are a line and a change, and off the documents that an opening shows
pub record Reading (U D : Type 0) : Type 0 where
  pub line : U → ℕ
  pub change : U → Change
  pub docs : D → List Document

-- a request with its row, and the index of the entry that the row tells, where it tells one
pub record Telling : Type 0 where
  pub told : Told
  pub index : Option ℕ

-- a searcher's row, with the indices of its opening and of its end, and of the acquire for its warming, where there was one
pub record Life : Type 0 where
  pub row : SearcherRow
  pub opened : ℕ
  pub ended : ℕ
  pub warmed : Option ℕ

-- what a request that reads wants
pub data Wanted : Type 0 where
  an_update : Change → Wanted
  a_searcher : Wanted
  an_answer : Asked → Wanted

abbrev pub form_wants : CommitForm → Wanted
form_wants form = if form.opens then a_searcher else an_update nothing

-- what the request wants, or the message of its refusal
abbrev pub wants_as : Verb → Config → Call → Result Wanted (List ℕ)
wants_as add c call = result_map_both an_update (λ m. m) (update_of c call)
wants_as delete c call = result_map_both an_update (λ m. m) (update_of c call)
wants_as query c call = result_map_both an_answer (λ m. m) (query_of c call.body)
wants_as commit c call = result_map_both form_wants (λ m. m) (commit_of call.body)

abbrev pub wants : Config → Call → Result Wanted (List ℕ)
wants c call = wants_as call.verb c call

-- the row has these numbers and no others
pub record HasNumbers (row : RequestRow) (p g k : Option ℕ) : Type 0 where
  pub place : row.place ≡ p
  pub generation : row.generation ≡ g
  pub ticket : row.ticket ≡ k

-- the entry is the call's own: its caller and its line are the request's
pub record IsOf {U D : Type 0} (r : Reading U D) (call : Call) (caller : ℕ) (u : U) : Type 0 where
  pub client : caller ≡ call.client
  pub line : r.line u ≡ call.line

-- a request that wants an update tells it, at its place
pub record TellsUpdate {U D L : Type 0} (r : Reading U D) (c : Config) (t : Told) (p : ℕ) (e : Entry U D L) : Type 0 where
  pub caller : ℕ
  pub content : U
  pub entry : e ≡ Update caller content
  pub own : IsOf r t.call caller content
  pub wanted : wants c t.call ≡ Ok (an_update (r.change content))
  pub numbers : HasNumbers t.row (Some p) None None

-- one that wants a searcher tells its opening, at its place, with its generation
pub record TellsOpening {U D L : Type 0} (r : Reading U D) (c : Config) (t : Told) (p : ℕ) (e : Entry U D L) : Type 0 where
  pub caller : ℕ
  pub content : U
  pub generation : ℕ
  pub slot : ℕ
  pub docs : D
  pub entry : e ≡ Open caller content generation slot docs
  pub own : IsOf r t.call caller content
  pub wanted : wants c t.call ≡ Ok a_searcher
  pub numbers : HasNumbers t.row (Some p) (Some generation) None

-- or that there were too many warming, at its place
pub record TellsTooMany {U D L : Type 0} (r : Reading U D) (c : Config) (t : Told) (p : ℕ) (e : Entry U D L) : Type 0 where
  pub caller : ℕ
  pub content : U
  pub warming : List ℕ
  pub entry : e ≡ TooMany caller content warming
  pub own : IsOf r t.call caller content
  pub wanted : wants c t.call ≡ Ok a_searcher
  pub numbers : HasNumbers t.row (Some p) None None

-- one that wants an answer tells its acquire, by generation and ticket
pub record TellsAcquire {U D L : Type 0} (c : Config) (t : Told) (e : Entry U D L) : Type 0 where
  pub caller : ℕ
  pub generation : ℕ
  pub ticket : ℕ
  pub asked : Asked
  pub entry : e ≡ Acquire caller generation ticket
  pub client : caller ≡ t.call.client
  pub wanted : wants c t.call ≡ Ok (an_answer asked)
  pub numbers : HasNumbers t.row None (Some generation) (Some ticket)

-- the row tells the entry, whose place is p where it has one
abbrev pub Tells : {U D L : Type 0} → Reading U D → Config → Told → ℕ → Entry U D L → Type 0
Tells r c t p e = TellsUpdate r c t p e ⊎ (TellsOpening r c t p e ⊎ (TellsTooMany r c t p e ⊎ TellsAcquire c t e))

abbrev pub is_index : ℕ → Option ℕ → Bool
is_index n None = false
is_index n (Some m) = m == n

-- the row tells the entry at index n
abbrev pub tells_at : ℕ → Telling → Bool
tells_at n t = is_index n t.index

-- the searcher was warmed by the acquire at index n
abbrev pub warmed_at : ℕ → Life → Bool
warmed_at n s = is_index n s.warmed
