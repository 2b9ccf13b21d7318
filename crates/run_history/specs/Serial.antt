-- Histories of a serial run, between two requests, and what each kind of request adds.
use Rattle.std.specs.Prelude.{◌≡◌, ◌≢◌, ℕ, ◌+◌, ◌<◌, ◌≤◌, List, [], ◌∷◌, length, ◌⊎◌, Bool, true, false, ◌==◌, if◌then◌else◌, Option, Some, None, Ok, slice_get}
use Rattle.std.specs.List.{AllByRecursion}
use Rattle.doc_model.specs.Document.{Document}
use Rattle.search_model.specs.Live.{Change, live, after}
use Rattle.search_model.specs.Answer.{Asked, answer}
use Rattle.search_model.specs.Reply.{accepted, found, no_memory}
use Rattle.script_form.specs.declared.config.Config.{Config}
use Rattle.registry_machine.specs.declared.entry.Entry.{Entry}
use Rattle.registry_machine.specs.declared.entry.Entry.TheVariants.{Open, Update, Finish, Acquire, Release, Free}
use Rattle.registry_machine.specs.Machine.{Limits}
use Rattle.registry_machine.specs.Legal.{Legal, state_of}
use Rattle.registry_machine.specs.Places.{rank}
use Rattle.run_laws.specs.Rows.{SearcherRow}
use Rattle.run_laws.specs.Calls.{Call, Told}
use Rattle.run_laws.specs.Lawful.{Shows, IsIdle, first_told}
use Rattle.run_history.specs.Tellings.{Reading, Telling, Life, an_update, a_searcher, an_answer, wants, HasNumbers}
use Rattle.run_history.specs.Agreement.{Agrees, ComesBefore, RepliesIdly, changes}

-- what a serial run keeps of its history: the current generation, which is the last one opened, how often it was acquired, its slot, how many places there are, the documents that it sees, and those that the next one will see
pub record Stand : Type 0 where
  pub generation : ℕ
  pub acquired : ℕ
  pub slot : ℕ
  pub places : ℕ
  pub view : List Document
  pub docs : List Document

-- The history is legal, nothing is warming, nobody pins, and no other slot is open; and the stand is its own.
pub record Settled {U D L : Type 0} (r : Reading U D) (l : Limits) (h : List (Entry U D L)) (s : Stand) : Type 0 where
  pub legal : Legal l h
  pub current : (state_of l h).current ≡ Some s.generation
  pub last : (state_of l h).last_opened ≡ s.generation
  pub warming : (state_of l h).warming ≡ []
  pub acquired : (state_of l h).acquired s.generation ≡ s.acquired
  pub slot : (state_of l h).slots s.slot ≡ Some s.generation
  pub others : (slot : ℕ) → slot ≢ s.slot → (state_of l h).slots slot ≡ None
  pub pins : (caller : ℕ) → (state_of l h).pins caller ≡ None
  pub places : rank h (length h) ≡ s.places
  pub view : (n caller : ℕ) × (u : U) × (slot : ℕ) × (d : D) × (slice_get h n ≡ Some (Open caller u s.generation slot d)) × (r.docs d ≡ s.view)
  pub docs : live (changes r h) ≡ s.docs

-- the history is settled, and these rows and searchers agree with it
pub record Serves {U D L : Type 0} (r : Reading U D) (l : Limits) (c : Config) (h : List (Entry U D L)) (ts : List Telling) (lives : List Life) (s : Stand) : Type 0 where
  pub settled : Settled r l h s
  pub agrees : Agrees r l c h ts lives

-- the request comes before none of these
abbrev pub ComesLast : Call → List Telling → Type 0
ComesLast call ts = AllByRecursion (λ e. ComesBefore call e.told.call → ⊥) ts

-- ---- what is added

-- the row of a request that tells the next entry of the history
abbrev pub telling : {A : Type 0} → List A → Told → Telling
telling h t = record { told = t; index = Some (length h) }

-- the row of one that did nothing
abbrev pub idle : Told → Telling
idle t = record { told = t; index = None }

-- the row of a searcher whose generation was acquired once more
abbrev pub acquired_once_more : ℕ → SearcherRow → SearcherRow
acquired_once_more g row = record row { acquired = if row.generation == g then row.acquired + 1 else row.acquired }

abbrev pub once_more : ℕ → Life → Life
once_more g s = record s { row = acquired_once_more g s.row }

-- the acquires of the first searcher before all else: one, where its listeners have it acquired
abbrev pub first_acquires : Bool → ℕ
first_acquires true = 1
first_acquires false = 0

-- the first searcher, opened and registered before all else
abbrev pub first_row : Bool → SearcherRow
first_row listened = record {
  generation = 1;
  opened = 0;
  ended = 1;
  registered = true;
  acquired = first_acquires listened;
  from = first_told listened;
}

-- the index of the acquire by its listeners
abbrev pub first_warmed : Bool → Option ℕ
first_warmed true = Some 2
first_warmed false = None

abbrev pub first_life : Bool → Life
first_life listened = record { row = first_row listened; opened = 0; ended = 1; warmed = first_warmed listened }

-- one that was opened at a place, warmed from the current one and registered at once
abbrev pub next_row : Stand → SearcherRow
next_row s = record {
  generation = s.generation + 1;
  opened = s.places;
  ended = s.places + 1;
  registered = true;
  acquired = 0;
  from = Some (s.generation, s.acquired);
}

abbrev pub next_life : {A : Type 0} → List A → Stand → Life
next_life h s = record { row = next_row s; opened = length h; ended = length h + 3; warmed = Some (length h + 1) }

-- ---- entries

-- the listeners of the first searcher acquire it, where they have to, and release it
abbrev pub listening_entries : {U D L : Type 0} → Bool → ℕ → List (Entry U D L)
listening_entries true caller = Acquire caller 1 0 ∷ Release caller 1 [] ∷ []
listening_entries false caller = []

abbrev pub start_entries : {U D L : Type 0} → ℕ → U → ℕ → D → Bool → List (Entry U D L)
start_entries caller u slot d listened = Open caller u 1 slot d ∷ Finish 1 [] ∷ listening_entries listened caller

abbrev pub update_entries : {U D L : Type 0} → ℕ → U → List (Entry U D L)
update_entries caller u = Update caller u ∷ []

-- an acquire of the current generation, and its release
abbrev pub query_entries : {U D L : Type 0} → Stand → ℕ → List (Entry U D L)
query_entries s caller = Acquire caller s.generation s.acquired ∷ Release caller s.generation [] ∷ []

-- an opening, the acquire and the release for its warming, its registration, and the freeing of the generation before
abbrev pub opening_entries : {U D L : Type 0} → Stand → ℕ → U → ℕ → D → List (Entry U D L)
opening_entries s caller u slot d =
    Open caller u (s.generation + 1) slot d ∷ Acquire caller s.generation s.acquired ∷ Release caller s.generation [] ∷ Finish (s.generation + 1) [] ∷ Free s.generation ∷ []

-- ---- stands

abbrev pub stand_at_start : ℕ → Bool → Stand
stand_at_start slot listened = record {
  generation = 1;
  acquired = first_acquires listened;
  slot = slot;
  places = 2;
  view = [];
  docs = [];
}

abbrev pub stand_after_update : Stand → Change → Stand
stand_after_update s change = record s { places = s.places + 1; docs = after s.docs change }

abbrev pub stand_after_query : Stand → Stand
stand_after_query s = record s { acquired = s.acquired + 1 }

abbrev pub stand_after_opening : Stand → ℕ → Stand
stand_after_opening s slot = record { generation = s.generation + 1; acquired = 0; slot = slot; places = s.places + 2; view = s.docs; docs = s.docs }

-- ---- what a request's row must be

-- the first searcher can be opened in the slot, and shows no documents
pub record CanStart {U D : Type 0} (r : Reading U D) (l : Limits) (slot : ℕ) (d : D) : Type 0 where
  pub first : l.first_generation ≡ 1
  pub last : 1 ≤ l.last_generation
  pub room : 0 < l.max_warming
  pub slot_below : slot < l.slots
  pub none : r.docs d ≡ []

-- nothing was done: there was no memory, or the request does not read
pub record IsIdleRow (c : Config) (t : Told) : Type 0 where
  pub none : IsIdle t.row
  pub reply : RepliesIdly c t.row (wants c t.call)

-- an update, or a commit that opens nothing, was accepted at the next place
pub record IsUpdateRow {U D : Type 0} (r : Reading U D) (c : Config) (s : Stand) (ts : List Telling) (t : Told) (u : U) : Type 0 where
  pub line : r.line u ≡ t.call.line
  pub wanted : wants c t.call ≡ Ok (an_update (r.change u))
  pub numbers : HasNumbers t.row (Some s.places) None None
  pub shown : Shows c t.row accepted
  pub last : ComesLast t.call ts

-- a query acquired the current generation, and was answered on what that sees, or there was no memory
pub record IsQueryRow (c : Config) (s : Stand) (ts : List Telling) (t : Told) (asked : Asked) : Type 0 where
  pub wanted : wants c t.call ≡ Ok (an_answer asked)
  pub numbers : HasNumbers t.row None (Some s.generation) (Some s.acquired)
  pub shown : Shows c t.row (found asked (answer s.view asked)) ⊎ Shows c t.row no_memory
  pub last : ComesLast t.call ts

-- a commit opened the next generation in a slot that is open for none, at the next place, over the documents that there are
pub record IsOpeningRow {U D : Type 0} (r : Reading U D) (l : Limits) (c : Config) (s : Stand) (ts : List Telling) (t : Told) (u : U) (place : ℕ) (d : D) : Type 0 where
  pub line : r.line u ≡ t.call.line
  pub wanted : wants c t.call ≡ Ok a_searcher
  pub numbers : HasNumbers t.row (Some s.places) (Some (s.generation + 1)) None
  pub shown : Shows c t.row accepted
  pub last : ComesLast t.call ts
  pub carried : r.docs d ≡ s.docs
  pub other : place ≢ s.slot
  pub slot_below : place < l.slots
  pub room : 0 < l.max_warming
  pub within : s.generation + 1 ≤ l.last_generation
