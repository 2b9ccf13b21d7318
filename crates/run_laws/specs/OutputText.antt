-- The text of an output: a JSON object a line, its members in the order of their names' bytes.
use Rattle.std.specs.Prelude.{◌≡◌, ℕ, List, [], ◌∷◌, ◌++◌, Bool, true, false, if◌then◌else◌, Option, Some, None, codes, decimal}
use Rattle.std.specs.List.{flat_map}
use Rattle.json.specs.Print.{quoted}
use Rattle.serde_json.specs.Data.{Data, object, Members, no_members, member}
use Rattle.serde_json.specs.Written.{comma_if, compact_text}
use Rattle.run_laws.specs.Rows.{RequestRow, SearcherRow, Output}

-- a member's name and the text of its value
abbrev pub Member : Type 0
Member = List ℕ × List ℕ

-- the members and the closing brace
abbrev pub members_text : Bool → List Member → List ℕ
members_text later [] = 125 ∷ []
members_text later (m ∷ ms) = comma_if later ++ (quoted m.0 ++ 58 ∷ (m.1 ++ members_text true ms))

-- a line that is the object of these members
abbrev pub object_line : List Member → List ℕ
object_line ms = 123 ∷ (members_text false ms ++ 10 ∷ [])

abbrev pub number_member : List ℕ → ℕ → List Member
number_member name n = (name, decimal n) ∷ []

abbrev pub optional_member : List ℕ → Option ℕ → List Member
optional_member name None = []
optional_member name (Some n) = number_member name n

abbrev pub request_members : RequestRow → List Member
request_members r =
    number_member (codes "client") r.client ++
    (optional_member (codes "generation") r.generation ++
    (number_member (codes "line") r.line ++
    (optional_member (codes "place") r.place ++
    ((codes "reply", r.reply) ∷ optional_member (codes "ticket") r.ticket))))

-- the generation and ticket from which a searcher was warmed
abbrev pub from_members : Option (ℕ × ℕ) → List Member
from_members None = []
from_members (Some pin) = number_member (codes "from") pin.0 ++ number_member (codes "fromTicket") pin.1

-- a registered searcher's end is `finished`, a superseded one's `superseded`
abbrev pub searcher_members : SearcherRow → List Member
searcher_members s =
    number_member (codes "acquired") s.acquired ++
    ((if s.registered then number_member (codes "finished") s.ended else []) ++
    (from_members s.from ++
    (number_member (codes "generation") s.generation ++
    (number_member (codes "opened") s.opened ++
    (if s.registered then [] else number_member (codes "superseded") s.ended)))))

-- first a line a request, then a line a searcher
abbrev pub output_text : Output → List ℕ
output_text o =
    flat_map (λ r. object_line (request_members r)) o.requests ++ flat_map (λ s. object_line (searcher_members s)) o.searchers

-- JSON members, each with the text of its value
abbrev pub written_members : Members → List Member
written_members no_members = []
written_members (member name d ms) = (name, compact_text d) ∷ written_members ms

-- the text is that of a JSON object and a line feed
abbrev pub IsObjectLine : List ℕ → Type 0
IsObjectLine text = (ms : Members) × (text ≡ compact_text (object ms) ++ 10 ∷ [])

-- the line of some members is the compact text of their object, and a line feed
abbrev pub MembersLineIsObject : Type 0
MembersLineIsObject =
    (ms : Members) → object_line (written_members ms) ≡ compact_text (object ms) ++ 10 ∷ []

-- so is a request's line, where its reply is the text of some data
abbrev pub RequestLineIsObject : Type 0
RequestLineIsObject =
    (r : RequestRow) (reply : Data) →
    r.reply ≡ compact_text reply → IsObjectLine (object_line (request_members r))

-- and a searcher's
abbrev pub SearcherLineIsObject : Type 0
SearcherLineIsObject = (s : SearcherRow) → IsObjectLine (object_line (searcher_members s))
