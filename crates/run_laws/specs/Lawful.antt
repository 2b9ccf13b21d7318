-- When the rows of an output are lawful for a configuration and a script.
use Rattle.std.specs.Prelude.{◌≡◌, ◌⊎◌, ℕ, ◌-◌, ◌<◌, ◌≤◌, List, [], ◌∷◌, ◌++◌, length, map, drop, count_by, Bool, true, false, ◌&&◌, ◌==◌, nat_le, not, if◌then◌else◌, Option, Some, None, IsSome, IfSome, Result, Ok, Err}
use Rattle.std.specs.List.{filter_map, AllByRecursion, range_with_len}
use Rattle.request_form.specs.declared.commit.CommitForm.{CommitForm}
use Rattle.search_model.specs.Answer.{Asked, answer}
use Rattle.search_model.specs.Reply.{Outcome, found, accepted, refused, too_many, no_memory, reply_text, code_of, found_of, docs_of}
use Rattle.script_form.specs.declared.config.Config.{Config}
use Rattle.script_form.specs.declared.script.Line.{Line}
use Rattle.run_laws.specs.Rows.{Verb, add, delete, query, commit, RequestRow, SearcherRow, Output}
use Rattle.run_laws.specs.Calls.{Call, Told, calls_of, tell, Each}
use Rattle.run_laws.specs.CallReadings.{update_of, commit_of, query_of}
use Rattle.run_laws.specs.Places.{is_some_of, places, place_count, opened_of, current_at, warming, view_of}
use Rattle.run_laws.specs.Bounds.{is_commit, low, high}
pub use Rattle.run_laws.specs.Acquires.{pin_of, pins, IsBehind}
use Rattle.run_laws.specs.Acquires.{KeepsTicketOrder}

-- the row shows this outcome: its reply, and the numbers in it
pub record Shows (c : Config) (row : RequestRow) (o : Outcome) : Type 0 where
  pub reply : row.reply ≡ reply_text c.schema o
  pub code : row.code ≡ code_of o
  pub found : row.found ≡ found_of o
  pub docs : row.docs ≡ docs_of o

-- each of the numbers below n stands once in the list
abbrev pub CountsOff : ℕ → List ℕ → Type 0
CountsOff n xs = (length xs ≡ n) × AllByRecursion (λ k. count_by (λ x. x == k) xs ≡ 1) (range_with_len 0 n)

-- ---- 1: one row a request

abbrev pub call_here : Call → ℕ × ℕ × Verb
call_here q = (q.client, q.line, q.verb)

abbrev pub told_here : RequestRow → ℕ × ℕ × Verb
told_here r = (r.client, r.line, r.verb)

-- The rows are the script's requests in its order, one each, and the numbers in a row are those of its reply. The searchers are the generations from 1 on.
pub record AnswersEach (c : Config) (script : List Line) (o : Output) : Type 0 where
  pub rows : map told_here o.requests ≡ map call_here (calls_of script)
  pub numbers : AllByRecursion (λ r. (outcome : Outcome) × Shows c r outcome) o.requests
  pub generations : map (λ g. g.generation) o.searchers ≡ range_with_len 1 (length o.searchers)

-- ---- 2: one history

-- a commit's row opened the generation
abbrev pub opens : ℕ → Told → Bool
opens g t = is_commit t.call.verb && is_some_of g t.row.generation

-- exactly one commit opened the searcher, at its place, before it ended
pub record IsOpenedOnce (told : List Told) (g : SearcherRow) : Type 0 where
  pub once : count_by (opens g.generation) told ≡ 1
  pub place : count_by (λ t. opens g.generation t && is_some_of g.opened t.row.place) told ≡ 1
  pub before : g.opened < g.ended

-- the first searcher was there before any request
abbrev pub BeginsWithFirst : List SearcherRow → Type 0
BeginsWithFirst [] = ⊥
BeginsWithFirst (g ∷ gs) = (g.generation ≡ 1) × (g.opened ≡ 0) × (g.ended ≡ 1)

-- each place is below the next
abbrev pub Ascends : List ℕ → Type 0
Ascends [] = Unit {0}
Ascends (p ∷ ps) = AllByRecursion (λ q. p < q) ps × Ascends ps

-- Each place of the journal is taken once. The first searcher is there from the start, and each later one is opened by one commit.
pub record IsOneHistory (told : List Told) (o : Output) : Type 0 where
  pub places : CountsOff (place_count o) (places o)
  pub first : BeginsWithFirst o.searchers
  pub opened : AllByRecursion (IsOpenedOnce told) (drop 1 o.searchers)
  pub ascending : Ascends (map (λ g. g.opened) o.searchers)

-- ---- 3: the clients' orders

-- A request's place lies between those that its client, and the phases, set around it.
abbrev pub KeepsOrder : Output → List Told → Told → List Told → Type 0
KeepsOrder o before t behind =
    IfSome t.row.place (λ p. (low o.searchers before t < p) × (p < high (place_count o) t behind))

-- ---- 4: updates

-- nothing was done: the row has no place, generation or ticket
pub record IsIdle (r : RequestRow) : Type 0 where
  pub place : r.place ≡ None
  pub generation : r.generation ≡ None
  pub ticket : r.ticket ≡ None

-- refused, or there was no memory to tell it
abbrev pub IsRefused : Config → RequestRow → List ℕ → Type 0
IsRefused c r message = IsIdle r × (Shows c r (refused message) ⊎ Shows c r no_memory)

pub record IsUpdated (c : Config) (r : RequestRow) : Type 0 where
  pub place : IsSome r.place
  pub generation : r.generation ≡ None
  pub ticket : r.ticket ≡ None
  pub shown : Shows c r accepted

-- An update that reads is accepted with a place, or there was no memory; one that does not is refused with its first fault.
abbrev pub UpdateIsAnswered : {A : Type 0} → Config → RequestRow → Result A (List ℕ) → Type 0
UpdateIsAnswered c r (Ok change) = IsUpdated c r ⊎ (IsIdle r × Shows c r no_memory)
UpdateIsAnswered c r (Err message) = IsRefused c r message

-- ---- 5: the greatest generation serves

-- A searcher is registered exactly where no greater generation is current at its end; else it is superseded.
abbrev pub ServesUnlessOlder : Output → SearcherRow → Type 0
ServesUnlessOlder o g = g.registered ≡ nat_le (current_at (g.ended - 1) o.searchers) g.generation

-- ---- 6: commits

-- it opened a searcher, where fewer than the greatest number were warming
pub record HasOpened (c : Config) (o : Output) (r : RequestRow) (p g : ℕ) : Type 0 where
  pub place : r.place ≡ Some p
  pub generation : r.generation ≡ Some g
  pub ticket : r.ticket ≡ None
  pub opened : opened_of g o.searchers ≡ Some p
  pub room : length (warming p o.searchers) < c.max_warming
  pub shown : Shows c r accepted

-- it was refused, where the greatest number were warming, and these are told
pub record HasTooMany (c : Config) (o : Output) (r : RequestRow) (p : ℕ) : Type 0 where
  pub place : r.place ≡ Some p
  pub generation : r.generation ≡ None
  pub ticket : r.ticket ≡ None
  pub full : length (warming p o.searchers) ≡ c.max_warming
  pub shown : Shows c r (too_many (warming p o.searchers))

-- what a commit that opens is answered, and one that does not
abbrev pub FormIsAnswered : Config → Output → RequestRow → Bool → Type 0
FormIsAnswered c o r true = ((p : ℕ) × (g : ℕ) × HasOpened c o r p g) ⊎ ((p : ℕ) × HasTooMany c o r p)
FormIsAnswered c o r false = IsUpdated c r

-- A commit that reads opens a searcher where there is room, or is told who is warming; without a searcher it only takes its place.
abbrev pub CommitIsAnswered : Config → Output → RequestRow → Result CommitForm (List ℕ) → Type 0
CommitIsAnswered c o r (Ok form) = FormIsAnswered c o r form.opens ⊎ (IsIdle r × Shows c r no_memory)
CommitIsAnswered c o r (Err message) = IsRefused c r message

-- ---- 7: queries

-- the generation was current at some place between the client's neighbouring calls
abbrev pub WasCurrent : Output → List Told → Told → List Told → ℕ → Type 0
WasCurrent o before t behind g =
    (p : ℕ) × (low o.searchers before t ≤ p) × (p < high (place_count o) t behind) × (current_at p o.searchers ≡ g)

-- it acquired a searcher, and its reply is the answer on what that searcher sees
pub record IsServed (c : Config) (told : List Told) (o : Output) (before : List Told) (t : Told) (behind : List Told) (asked : Asked) (g k : ℕ) : Type 0 where
  pub place : t.row.place ≡ None
  pub generation : t.row.generation ≡ Some g
  pub ticket : t.row.ticket ≡ Some k
  pub current : WasCurrent o before t behind g
  pub rising : AllByRecursion (IsBehind g k) (pins t before)
  pub shown : Shows c t.row (found asked (answer (view_of c told o g) asked)) ⊎ Shows c t.row no_memory

-- A query that reads is served from one registered searcher, or there was no memory; one that does not is refused.
abbrev pub QueryIsAnswered : Config → List Told → Output → List Told → Told → List Told → Result Asked (List ℕ) → Type 0
QueryIsAnswered c told o before t behind (Ok asked) =
    ((g : ℕ) × (k : ℕ) × IsServed c told o before t behind asked g k) ⊎ (IsIdle t.row × Shows c t.row no_memory)
QueryIsAnswered c told o before t behind (Err message) = IsRefused c t.row message

-- ---- each request

abbrev pub IsAnsweredAs : Verb → Config → List Told → Output → List Told → Told → List Told → Type 0
IsAnsweredAs add c told o before t behind = UpdateIsAnswered c t.row (update_of c t.call)
IsAnsweredAs delete c told o before t behind = UpdateIsAnswered c t.row (update_of c t.call)
IsAnsweredAs query c told o before t behind = QueryIsAnswered c told o before t behind (query_of c t.call.body)
IsAnsweredAs commit c told o before t behind = CommitIsAnswered c o t.row (commit_of t.call.body)

-- each request is answered as its verb wants: updates, commits and queries
abbrev pub IsAnswered : Config → List Told → Output → List Told → Told → List Told → Type 0
IsAnswered c told o before t behind = IsAnsweredAs t.call.verb c told o before t behind

-- ---- 8: tickets

-- the tickets of a generation: those of queries and of warmings
abbrev pub tickets_of : ℕ → List Told → List SearcherRow → List ℕ
tickets_of g told ss =
    filter_map (λ pin. if pin.0 == g then Some pin.1 else None) (filter_map pin_of told ++ filter_map (λ s. s.from) ss)

-- The tickets of a searcher count its acquires from 0, each once.
abbrev pub CountsTickets : List Told → Output → SearcherRow → Type 0
CountsTickets told o g = CountsOff g.acquired (tickets_of g.generation told o.searchers)

-- ---- 9: warmings

-- the searcher was warmed from the one that was current at some place while it was warming
abbrev pub IsWarmedFrom : List SearcherRow → SearcherRow → ℕ × ℕ → Type 0
IsWarmedFrom ss g pin = (p : ℕ) × (g.opened ≤ p) × (p < g.ended) × (current_at p ss ≡ pin.0)

-- A searcher above the first was warmed from one that was current then.
abbrev pub IsWarmed : Output → SearcherRow → Type 0
IsWarmed o g = IsSome g.from × IfSome g.from (IsWarmedFrom o.searchers g)

-- the first searcher serves before its listeners have run, and they have it acquired first
abbrev pub is_acquired_first : Config → Bool
is_acquired_first c = c.cold && not (length c.first == 0)

-- the generation and the ticket that the first searcher tells: its own, where its listeners have it acquired
abbrev pub first_told : Bool → Option (ℕ × ℕ)
first_told true = Some (1, 0)
first_told false = None

abbrev pub first_from : Config → Option (ℕ × ℕ)
first_from c = first_told (is_acquired_first c)

-- The first searcher tells what the configuration wants, and each later one was warmed as it must be.
abbrev pub TellsWarmings : Config → Output → List SearcherRow → Type 0
TellsWarmings c o [] = Unit {0}
TellsWarmings c o (g ∷ gs) = (g.from ≡ first_from c) × AllByRecursion (IsWarmed o) gs

-- ---- the whole

-- The output tells one history in which each request was answered as it must be.
pub record Lawful (c : Config) (script : List Line) (o : Output) : Type 0 where
  pub answers_each : AnswersEach c script o
  pub one_history : IsOneHistory (tell (calls_of script) o.requests) o
  pub keeps_order : Each (KeepsOrder o) [] (tell (calls_of script) o.requests)
  pub answered : Each (IsAnswered c (tell (calls_of script) o.requests) o) [] (tell (calls_of script) o.requests)
  pub greatest_serves : AllByRecursion (ServesUnlessOlder o) o.searchers
  pub tickets : AllByRecursion (CountsTickets (tell (calls_of script) o.requests) o) o.searchers
  pub ticket_order : KeepsTicketOrder o (tell (calls_of script) o.requests)
  pub warmings : TellsWarmings c o o.searchers

-- no request of a lawful output tells a place below p
abbrev pub NoLowerPlaceIsTold : ℕ → Type 0
NoLowerPlaceIsTold p =
    (c : Config) (script : List Line) (o : Output) → Lawful c script o →
    AllByRecursion (λ r. IfSome r.place (λ place. p ≤ place)) o.requests
