-- The acquires that an output tells: those of queries, and those of warmings.
use Rattle.std.specs.Prelude.{◌≡◌, ℕ, ◌<◌, ◌≤◌, List, [], ◌∷◌, ◌++◌, drop, ◌||◌, ◌==◌, nat_lt, if◌then◌else◌, Option, None}
use Rattle.std.specs.List.{filter_map, AllByRecursion}
use Rattle.std.specs.Option.{option_and_then, option_map, option_to_list}
use Rattle.run_laws.specs.Rows.{SearcherRow, Output}
use Rattle.run_laws.specs.Calls.{Told}
use Rattle.run_laws.specs.Places.{place_count}
use Rattle.run_laws.specs.Bounds.{is_query, low, high}

-- the generation and ticket of a query's row
abbrev pub pin_of : Told → Option (ℕ × ℕ)
pin_of t = if is_query t.call.verb then option_and_then (λ g. option_map (λ k. (g, k)) t.row.ticket) t.row.generation else None

-- those of the earlier rows of its client, and of all rows of earlier phases
abbrev pub pins : Told → List Told → List (ℕ × ℕ)
pins t earlier = filter_map (λ e. if nat_lt e.call.phase t.call.phase || e.call.client == t.call.client then pin_of e else None) earlier

-- generations never go back, and tickets of one generation rise
abbrev pub IsBehind : ℕ → ℕ → ℕ × ℕ → Type 0
IsBehind g k pin = (pin.0 ≤ g) × (pin.0 ≡ g → pin.1 < k)

-- an acquire: its generation and ticket, and the places between which it stood
pub record Acquire : Type 0 where
  pub generation : ℕ
  pub ticket : ℕ
  pub low : ℕ
  pub high : ℕ

abbrev pub acquire : ℕ → ℕ → ℕ × ℕ → Acquire
acquire low high pin = record { generation = pin.0; ticket = pin.1; low = low; high = high }

-- those of queries, in the order of the rows
abbrev pub queried : Output → List Told → List Told → List Acquire
queried o before [] = []
queried o before (t ∷ behind) =
    option_to_list (option_map (acquire (low o.searchers before t) (high (place_count o) t behind)) (pin_of t)) ++ queried o (before ++ t ∷ []) behind

-- that of a warming, between the opening and the end of the searcher that was warmed
abbrev pub warmed : SearcherRow → Option Acquire
warmed s = option_map (acquire s.opened s.ended) s.from

-- all of them; what the first searcher tells has the first ticket
abbrev pub acquires : Output → List Told → List Acquire
acquires o told = queried o [] told ++ filter_map warmed (drop 1 o.searchers)

-- of two acquires of one generation the one with the lower ticket began before the other had ended
abbrev pub BeginsBefore : Acquire → Acquire → Type 0
BeginsBefore a b = a.generation ≡ b.generation → a.ticket < b.ticket → a.low < b.high

-- Tickets are given in the order of the acquires.
abbrev pub KeepsTicketOrder : Output → List Told → Type 0
KeepsTicketOrder o told = AllByRecursion (λ a. AllByRecursion (BeginsBefore a) (acquires o told)) (acquires o told)
