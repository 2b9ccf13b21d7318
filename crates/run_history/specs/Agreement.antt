-- When rows agree with a history.
use Rattle.std.specs.Prelude.{◌≡◌, ◌≢◌, ◌⊎◌, ℕ, ◌+◌, ◌<◌, List, [], ◌∷◌, length, take, map, filter, count_by, true, Option, Some, None, IsSome, Result, Ok, Err, slice_get}
use Rattle.std.specs.List.{AllByRecursion, filter_map}
use Rattle.search_model.specs.Answer.{Asked, answer}
use Rattle.search_model.specs.Live.{Change, nothing, live}
use Rattle.search_model.specs.Reply.{accepted, refused, too_many, found, no_memory}
use Rattle.script_form.specs.declared.config.Config.{Config}
use Rattle.script_form.specs.declared.script.Line.{Line}
use Rattle.registry_machine.specs.declared.entry.Entry.{Entry}
use Rattle.registry_machine.specs.declared.entry.Entry.TheVariants.{Open, TooMany, Update, Acquire}
use Rattle.registry_machine.specs.Entries.{caller_of, has_place, opens, registers, ends, acquires, ticket_of}
use Rattle.registry_machine.specs.Machine.{Limits}
use Rattle.registry_machine.specs.Legal.{state_of}
use Rattle.registry_machine.specs.Places.{rank, Stands}
use Rattle.run_laws.specs.Rows.{RequestRow, Output}
use Rattle.run_laws.specs.Calls.{Call, Told, calls_of, tell}
use Rattle.run_laws.specs.Bounds.{opened_by, waits}
use Rattle.run_laws.specs.Lawful.{Shows, IsIdle, call_here, told_here, first_from}
use Rattle.run_history.specs.Tellings.{Reading, Telling, Life, Wanted, an_answer, wants, Tells, tells_at, warmed_at}

-- ---- rows: each is idle or tells an entry

abbrev pub IsTellingAt : {U D L : Type 0} → Reading U D → Config → List (Entry U D L) → Told → Option ℕ → Type 0
IsTellingAt r c h t None = IsIdle t.row
IsTellingAt {U} {D} {L} r c h t (Some n) = (e : Entry U D L) × (slice_get h n ≡ Some e) × Tells r c t (rank h n) e

abbrev pub IsTelling : {U D L : Type 0} → Reading U D → Config → List (Entry U D L) → Telling → Type 0
IsTelling r c h t = IsTellingAt r c h t.told t.index

-- ---- once: each entry that a request made is told by one row

-- the first searcher is opened and registered before all else
pub record BeginsOpened {U D L : Type 0} (h : List (Entry U D L)) : Type 0 where
  pub opened : Stands opens h 0 1
  pub registered : Stands registers h 1 1

-- the acquire that the searcher's row tells as that of its warming
abbrev pub IsFrom : {U D L : Type 0} → List (Entry U D L) → Option (ℕ × ℕ) → Option ℕ → Type 0
IsFrom h from None = from ≡ None
IsFrom h from (Some n) = (pin : ℕ × ℕ) × (from ≡ Some pin) × Stands acquires h n pin

-- Exactly one row tells each placed entry that names a caller, but for the first opening, which none tells; and each acquire is told by exactly one row or warming.
pub record TellsOnce {U D L : Type 0} (h : List (Entry U D L)) (ts : List Telling) (lives : List Life) : Type 0 where
  pub begins : BeginsOpened h
  pub first : AllByRecursion (λ t. t.index ≢ Some 0) ts
  pub placed : (n : ℕ) (e : Entry U D L) → slice_get h n ≡ Some e → has_place e ≡ true → IsSome (caller_of e) → 0 < n → count_by (tells_at n) ts ≡ 1
  pub froms : AllByRecursion (λ s. IsFrom h s.row.from s.warmed) lives
  pub acquired : (n g k : ℕ) → Stands acquires h n (g, k) → count_by (tells_at n) ts + count_by (warmed_at n) lives ≡ 1

-- ---- searchers: they are the openings in order

-- it has the places of its opening and of its end, was registered where that is a registration, and has the count of its acquires
pub record IsLife {U D L : Type 0} (h : List (Entry U D L)) (s : Life) : Type 0 where
  pub opening : Stands opens h s.opened s.row.generation
  pub opened : s.row.opened ≡ rank h s.opened
  pub end : Stands ends h s.ended s.row.generation
  pub ended : s.row.ended ≡ rank h s.ended
  pub registered : (s.row.registered ≡ true → registers end.entry ≡ Some s.row.generation) × (registers end.entry ≡ Some s.row.generation → s.row.registered ≡ true)
  pub acquired : s.row.acquired ≡ length (filter_map (ticket_of s.row.generation) h)

pub record AreSearchers {U D L : Type 0} (h : List (Entry U D L)) (lives : List Life) : Type 0 where
  pub generations : map (λ s. s.row.generation) lives ≡ filter_map opens h
  pub each : AllByRecursion (IsLife h) lives

-- ---- order: phases and clients' lines

-- e's request comes before t's: its phase is earlier, or its client is the same and its line lower
abbrev pub ComesBefore : Call → Call → Type 0
ComesBefore e t = (e.phase < t.phase) ⊎ ((e.client ≡ t.client) × (e.line < t.line))

-- the same, and where it is in an earlier line of the client, the client waited
abbrev pub EndsBefore : Told → Call → Type 0
EndsBefore e t = (e.call.phase < t.phase) ⊎ ((e.call.client ≡ t.client) × (e.call.line < t.line) × (waits e ≡ true))

-- What e tells stands before what t tells, where its request comes before; and so does the end of a searcher that it opened.
pub record StandsBefore (lives : List Life) (e t : Telling) : Type 0 where
  pub told : ComesBefore e.told.call t.told.call → (m n : ℕ) → e.index ≡ Some m → t.index ≡ Some n → m < n
  pub ended : EndsBefore e.told t.told.call → AllByRecursion (λ s. opened_by e.told ≡ Some s.row.generation → (n : ℕ) → t.index ≡ Some n → s.ended < n) lives

abbrev pub StandInOrder : List Telling → List Life → Type 0
StandInOrder ts lives = AllByRecursion (λ e. AllByRecursion (StandsBefore lives e) ts) ts

-- ---- warmings: between opening and end

-- the acquire for the warming stands between the opening and the end
abbrev pub IsWarmedWithin : Life → Type 0
IsWarmedWithin s = (n : ℕ) × (s.warmed ≡ Some n) × (s.opened < n) × (n < s.ended)

-- each searcher above the first was warmed so, and the first tells what the configuration wants
abbrev pub AreWarmed : Config → List Life → Type 0
AreWarmed c [] = Unit {0}
AreWarmed c (s ∷ lives) = (s.row.from ≡ first_from c) × AllByRecursion IsWarmedWithin lives

-- ---- views: what openings carry

-- what an entry with a place changed
abbrev pub change_told : {U D L : Type 0} → Reading U D → Entry U D L → Change
change_told r (Update caller u) = r.change u
change_told r _ = nothing

-- the changes of the entries with a place, in order
abbrev pub changes : {U D L : Type 0} → Reading U D → List (Entry U D L) → List Change
changes r h = map (change_told r) (filter has_place h)

-- an opening carries the documents that the entries with a place before it leave
abbrev pub CarryViews : {U D L : Type 0} → Reading U D → List (Entry U D L) → Type 0
CarryViews {U} {D} {L} r h =
    (n caller : ℕ) (u : U) (g slot : ℕ) (d : D) → slice_get h n ≡ Some (Open caller u g slot d) → r.docs d ≡ live (changes r (take n h))

-- ---- replies

-- the row's reply is the answer on what an opening of the generation carries, or there was no memory
abbrev pub IsReplied : {U D L : Type 0} → Reading U D → Config → List (Entry U D L) → RequestRow → ℕ → Asked → Type 0
IsReplied {U} {D} {L} r c h row g asked =
    ((n caller : ℕ) × (u : U) × (slot : ℕ) × (d : D) × (slice_get h n ≡ Some (Open caller u g slot d)) × Shows c row (found asked (answer (r.docs d) asked))) ⊎ Shows c row no_memory

-- the reply to a request whose row tells the entry
abbrev pub RepliesTo : {U D L : Type 0} → Reading U D → Config → List (Entry U D L) → Told → Entry U D L → Type 0
RepliesTo r c h t (Update caller u) = Shows c t.row accepted
RepliesTo r c h t (Open caller u g slot d) = Shows c t.row accepted
RepliesTo r c h t (TooMany caller u gs) = Shows c t.row (too_many gs)
RepliesTo r c h t (Acquire caller g k) = (asked : Asked) → wants c t.call ≡ Ok (an_answer asked) → IsReplied r c h t.row g asked
RepliesTo r c h t _ = Unit {0}

-- the reply to a request that did nothing: there was no memory, or it does not read
abbrev pub RepliesIdly : Config → RequestRow → Result Wanted (List ℕ) → Type 0
RepliesIdly c row (Ok wanted) = Shows c row no_memory
RepliesIdly c row (Err message) = Shows c row (refused message) ⊎ Shows c row no_memory

abbrev pub HasReplyAt : {U D L : Type 0} → Reading U D → Config → List (Entry U D L) → Told → Option ℕ → Type 0
HasReplyAt r c h t None = RepliesIdly c t.row (wants c t.call)
HasReplyAt {U} {D} {L} r c h t (Some n) = (e : Entry U D L) → slice_get h n ≡ Some e → RepliesTo r c h t e

abbrev pub HasReply : {U D L : Type 0} → Reading U D → Config → List (Entry U D L) → Telling → Type 0
HasReply r c h t = HasReplyAt r c h t.told t.index

-- ---- the whole

-- at the end of the history nobody has a pin
abbrev pub IsReleased : {U D L : Type 0} → Limits → List (Entry U D L) → Type 0
IsReleased l h = (caller : ℕ) → (state_of l h).pins caller ≡ None

-- Rows, in any order, and searchers agree with the history.
pub record Agrees {U D L : Type 0} (r : Reading U D) (l : Limits) (c : Config) (h : List (Entry U D L)) (ts : List Telling) (lives : List Life) : Type 0 where
  pub rows : AllByRecursion (IsTelling r c h) ts
  pub once : TellsOnce h ts lives
  pub searchers : AreSearchers h lives
  pub order : StandInOrder ts lives
  pub warmings : AreWarmed c lives
  pub views : CarryViews r h
  pub replies : AllByRecursion (HasReply r c h) ts
  pub released : IsReleased l h

-- The rows of an output, in the script's order, agree with the history.
pub record OutputAgrees {U D L : Type 0} (r : Reading U D) (l : Limits) (c : Config) (script : List Line) (h : List (Entry U D L)) (o : Output) : Type 0 where
  pub tellings : List Telling
  pub lives : List Life
  pub agrees : Agrees r l c h tellings lives
  pub rows : map told_here o.requests ≡ map call_here (calls_of script)
  pub told : map (λ t. t.told) tellings ≡ tell (calls_of script) o.requests
  pub searchers : map (λ s. s.row) lives ≡ o.searchers
