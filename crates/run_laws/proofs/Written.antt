-- A line is the compact text of an object, and a line feed.
use Rattle.std.proofs.Common.{◌≡◌, ℕ, List, [], ◌∷◌, ◌++◌, Bool, true, false, if◌then◌else◌, Option, Some, None, refl, ap, ◌∙◌, codes, decimal}
use Rattle.json.specs.Print.{quoted}
use Rattle.serde_json.specs.Data.{Data, number, unsigned, object, Members, no_members, member}
use Rattle.serde_json.specs.Written.{comma_if, compact_text}
use Rattle.serde_json.specs.Written as json
use Rattle.run_laws.specs.Rows.{RequestRow, SearcherRow}
use Rattle.run_laws.specs.OutputText.{Member, members_text, object_line, number_member, optional_member, request_members, from_members, searcher_members, written_members, IsObjectLine}

members_written : (later : Bool) (ms : Members) → members_text later (written_members ms) ≡ json.members_text later ms
members_written later no_members = refl
members_written later (member name d ms) = ap (λ t. comma_if later ++ (quoted name ++ 58 ∷ (compact_text d ++ t))) (members_written true ms)

pub line_written : (ms : Members) → object_line (written_members ms) ≡ compact_text (object ms) ++ 10 ∷ []
line_written ms = ap (λ t. 123 ∷ (t ++ 10 ∷ [])) (members_written false ms)

-- ---- the members of rows are written members

abbrev AreWritten : List Member → Type 0
AreWritten ms = (members : Members) × (ms ≡ written_members members)

none_written : AreWritten []
none_written = (no_members, refl)

-- a number first
number_written : (name : List ℕ) (n : ℕ) (ms : List Member) → AreWritten ms → AreWritten (number_member name n ++ ms)
number_written name n ms w = (member name (number (unsigned n)) w.0, ap (λ xs. (name, decimal n) ∷ xs) w.1)

optional_written : (name : List ℕ) (o : Option ℕ) (ms : List Member) → AreWritten ms → AreWritten (optional_member name o ++ ms)
optional_written name None ms w = w
optional_written name (Some n) ms w = number_written name n ms w

-- a line of written members is an object's
line_of_written : (ms : List Member) → AreWritten ms → IsObjectLine (object_line ms)
line_of_written ms w = (w.0, ap object_line w.1 ∙ line_written w.0)

-- ---- the rows

optional_last : (name : List ℕ) (o : Option ℕ) → AreWritten (optional_member name o)
optional_last name None = none_written
optional_last name (Some n) = number_written name n [] none_written

reply_written : (reply : Data) (text : List ℕ) (ms : List Member) → text ≡ compact_text reply → AreWritten ms → AreWritten ((codes "reply", text) ∷ ms)
reply_written reply text ms e w = (member (codes "reply") reply w.0, ap (λ t. (codes "reply", t) ∷ ms) e ∙ ap (λ xs. (codes "reply", compact_text reply) ∷ xs) w.1)

pub request_line_is_object : (r : RequestRow) (reply : Data) → r.reply ≡ compact_text reply → IsObjectLine (object_line (request_members r))
request_line_is_object r reply e =
    line_of_written (request_members r)
    (number_written (codes "client") r.client _
    (optional_written (codes "generation") r.generation _
    (number_written (codes "line") r.line _
    (optional_written (codes "place") r.place _
    (reply_written reply r.reply _ e (optional_last (codes "ticket") r.ticket))))))

finish_written : (registered : Bool) (n : ℕ) (ms : List Member) → AreWritten ms → AreWritten ((if registered then number_member (codes "finished") n else []) ++ ms)
finish_written true n ms w = number_written (codes "finished") n ms w
finish_written false n ms w = w

superseding_written : (registered : Bool) (n : ℕ) → AreWritten (if registered then [] else number_member (codes "superseded") n)
superseding_written true n = none_written
superseding_written false n = number_written (codes "superseded") n [] none_written

from_written : (from : Option (ℕ × ℕ)) (ms : List Member) → AreWritten ms → AreWritten (from_members from ++ ms)
from_written None ms w = w
from_written (Some pin) ms w = number_written (codes "from") pin.0 _ (number_written (codes "fromTicket") pin.1 ms w)

pub searcher_line_is_object : (s : SearcherRow) → IsObjectLine (object_line (searcher_members s))
searcher_line_is_object s =
    line_of_written (searcher_members s)
    (number_written (codes "acquired") s.acquired _
    (finish_written s.registered s.ended _
    (from_written s.from _
    (number_written (codes "generation") s.generation _
    (number_written (codes "opened") s.opened _ (superseding_written s.registered s.ended))))))
