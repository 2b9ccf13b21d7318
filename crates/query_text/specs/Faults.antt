-- The faults of a lexeme behind what was read.
use Rattle.std.specs.Prelude.{ℕ, List, [], ◌∷◌, length, Bool, true, false, not, ◌&&◌, ◌||◌, ◌==◌, nat_lt, nat_le, if◌then◌else◌, Option, Some, None, is_some, is_none, option_map}
use Rattle.field_schema.specs.declared.field.Field.{Field}
use Rattle.field_schema.specs.declared.field.FieldType.{FieldType}
use Rattle.field_schema.specs.declared.field.FieldType.TheVariants as kind
use Rattle.field_schema.specs.ValueTexts.{long_text}
use Rattle.query_lexemes.specs.declared.fault.QueryFault.{QueryFault}
use Rattle.query_lexemes.specs.declared.fault.QueryFault.TheVariants as fault
use Rattle.query_lexemes.specs.declared.lexeme.Lexeme.{Lexeme}
use Rattle.query_lexemes.specs.declared.lexeme.What.{What}
use Rattle.query_lexemes.specs.declared.lexeme.What.TheVariants as what
use Rattle.query_lexemes.specs.declared.lexeme.Operator.{Operator}
use Rattle.query_lexemes.specs.declared.lexeme.Operator.TheVariants as operator
use Rattle.query_lexemes.specs.declared.lexeme.Bound.{Bound}
use Rattle.query_text.specs.declared.level.Level.{Level}
use Rattle.query_text.specs.Levels.{field_for, is_here, begins, is_between, joins}
use Rattle.query_text.specs.Readings.{indexed, kind_for, word_text, value_text, words_of}

-- ---- the order of faults

abbrev pub fault_place : QueryFault → ℕ
fault_place (fault.Syntax at) = at
fault_place (fault.UnknownField at) = at
fault_place (fault.BadNumber at) = at
fault_place (fault.Unsupported at) = at
fault_place (fault.BadLocal at) = at
fault_place (fault.TooDeep at) = at
fault_place (fault.TooManyClauses at) = at
fault_place fault.NoMemory = 0

abbrev pub fault_number : QueryFault → ℕ
fault_number (fault.Syntax at) = 1
fault_number (fault.UnknownField at) = 2
fault_number (fault.BadNumber at) = 3
fault_number (fault.Unsupported at) = 4
fault_number (fault.BadLocal at) = 5
fault_number (fault.TooDeep at) = 6
fault_number (fault.TooManyClauses at) = 7
fault_number fault.NoMemory = 8

-- the fault counts before another: by place, then by number
abbrev pub counts_before : QueryFault → QueryFault → Bool
counts_before f g = nat_lt (fault_place f) (fault_place g) || (fault_place f == fault_place g && nat_lt (fault_number f) (fault_number g))

-- the one that counts of two faults, each of which may be missing
abbrev pub earlier : Option QueryFault → Option QueryFault → Option QueryFault
earlier None g = g
earlier (Some f) None = Some f
earlier (Some f) (Some g) = if counts_before g f then Some g else Some f

-- the one that counts of several
unfoldable pub least : List (Option QueryFault) → Option QueryFault
least [] = None
least (f ∷ fs) = earlier f (least fs)

-- the fault, where it holds
abbrev pub fault_if : Bool → QueryFault → Option QueryFault
fault_if b f = if b then Some f else None

-- ---- syntax

-- an operator can stand here
abbrev pub operator_fits : Operator → Level → Bool
operator_fits operator.And l = joins l
operator_fits operator.Or l = joins l
operator_fits operator.Not l = begins l

-- a lexeme that can't stand here
unfoldable pub syntax : Level → List Level → ℕ → What → Option QueryFault
syntax l os at (what.Word text) = None
syntax l os at (what.Prefix text) = None
syntax l os at (what.Quoted text) = None
syntax l os at what.Star = None
syntax l os at (what.Range low from to high) = None
syntax l os at (what.Name text colon) = fault_if (not (is_here l)) (fault.Syntax colon)
syntax l os at (what.Any colon other) = fault_if (not (is_here l)) (fault.Syntax colon)
syntax l os at (what.Operator o behind) = if operator_fits o l then None else option_map fault.Syntax behind
syntax l os at (what.Sign prohibits) = fault_if (not (begins l)) (fault.Syntax at)
syntax l os at what.Opening = None
syntax l os at what.Closing = fault_if (length os == 0 || not (joins l)) (fault.Syntax at)
syntax l os at what.Finish = fault_if (not (length os == 0 && is_between l)) (fault.Syntax at)
syntax l os at (what.Begun from to) = None
syntax l os at what.Half = None
syntax l os at what.Flaw = None

-- ---- fields

-- a value that needs a field
abbrev pub needs_field : Level → What → Bool
needs_field l (what.Word text) = true
needs_field l (what.Prefix text) = true
needs_field l (what.Quoted text) = true
needs_field l what.Star = false
needs_field l (what.Range low from to high) = true
needs_field l (what.Name text colon) = not (is_here l)
needs_field l (what.Any colon other) = false
needs_field l (what.Operator o behind) = false
needs_field l (what.Sign prohibits) = false
needs_field l what.Opening = false
needs_field l what.Closing = false
needs_field l what.Finish = false
needs_field l (what.Begun from to) = true
needs_field l what.Half = false
needs_field l what.Flaw = false

-- a field that no indexed field is, `*` before a value other than `*` among them
abbrev pub is_unknown : List Field → Level → What → Bool
is_unknown fields l (what.Word text) = false
is_unknown fields l (what.Prefix text) = false
is_unknown fields l (what.Quoted text) = false
is_unknown fields l what.Star = false
is_unknown fields l (what.Range low from to high) = false
is_unknown fields l (what.Name text colon) = is_here l && is_none (indexed text fields)
is_unknown fields l (what.Any colon other) = is_here l && other
is_unknown fields l (what.Operator o behind) = false
is_unknown fields l (what.Sign prohibits) = false
is_unknown fields l what.Opening = false
is_unknown fields l what.Closing = false
is_unknown fields l what.Finish = false
is_unknown fields l (what.Begun from to) = false
is_unknown fields l what.Half = false
is_unknown fields l what.Flaw = false

unfoldable pub unknown_field : List Field → Level → ℕ → What → Option QueryFault
unknown_field fields l at w = fault_if (is_unknown fields l w || (needs_field l w && is_none (field_for l))) (fault.UnknownField at)

-- ---- values

abbrev pub is_long : Option FieldType → Bool
is_long None = false
is_long (Some kind.Str) = false
is_long (Some kind.Long) = true
is_long (Some kind.Bool) = false
is_long (Some kind.Text) = false

-- a text that is there and is no number
abbrev pub is_no_number : Option (List ℕ) → Bool
is_no_number None = false
is_no_number (Some text) = is_none (long_text text)

-- a word or a quoted text that should be a number
unfoldable pub bad_number : Option FieldType → Level → ℕ → What → Option QueryFault
bad_number k l at w = fault_if (is_long k && is_no_number (value_text l w)) (fault.BadNumber at)

-- the whole ends of a range
abbrev pub from_of : What → Option Bound
from_of (what.Word text) = None
from_of (what.Prefix text) = None
from_of (what.Quoted text) = None
from_of what.Star = None
from_of (what.Range low from to high) = Some from
from_of (what.Name text colon) = None
from_of (what.Any colon other) = None
from_of (what.Operator o behind) = None
from_of (what.Sign prohibits) = None
from_of what.Opening = None
from_of what.Closing = None
from_of what.Finish = None
from_of (what.Begun from to) = from
from_of what.Half = None
from_of what.Flaw = None

abbrev pub to_of : What → Option Bound
to_of (what.Word text) = None
to_of (what.Prefix text) = None
to_of (what.Quoted text) = None
to_of what.Star = None
to_of (what.Range low from to high) = Some to
to_of (what.Name text colon) = None
to_of (what.Any colon other) = None
to_of (what.Operator o behind) = None
to_of (what.Sign prohibits) = None
to_of what.Opening = None
to_of what.Closing = None
to_of what.Finish = None
to_of (what.Begun from to) = to
to_of what.Half = None
to_of what.Flaw = None

-- an end of a range that should be a number
unfoldable pub bad_bound : Option FieldType → Option Bound → Option QueryFault
bad_bound k None = None
bad_bound k (Some b) = fault_if (is_long k && is_no_number b.text) (fault.BadNumber b.at)

-- a type whose values have no prefixes
abbrev pub is_whole : Option FieldType → Bool
is_whole None = false
is_whole (Some kind.Str) = false
is_whole (Some kind.Long) = true
is_whole (Some kind.Bool) = true
is_whole (Some kind.Text) = false

abbrev pub is_prefix : What → Bool
is_prefix (what.Word text) = false
is_prefix (what.Prefix text) = true
is_prefix (what.Quoted text) = false
is_prefix what.Star = false
is_prefix (what.Range low from to high) = false
is_prefix (what.Name text colon) = false
is_prefix (what.Any colon other) = false
is_prefix (what.Operator o behind) = false
is_prefix (what.Sign prohibits) = false
is_prefix what.Opening = false
is_prefix what.Closing = false
is_prefix what.Finish = false
is_prefix (what.Begun from to) = false
is_prefix what.Half = false
is_prefix what.Flaw = false

unfoldable pub unsupported : Option FieldType → ℕ → What → Option QueryFault
unsupported k at w = fault_if (is_prefix w && is_whole k) (fault.Unsupported at)

-- ---- limits

-- the most pairs of parentheses round a query
abbrev pub most_deep : ℕ
most_deep = 64

abbrev pub is_opening : What → Bool
is_opening (what.Word text) = false
is_opening (what.Prefix text) = false
is_opening (what.Quoted text) = false
is_opening what.Star = false
is_opening (what.Range low from to high) = false
is_opening (what.Name text colon) = false
is_opening (what.Any colon other) = false
is_opening (what.Operator o behind) = false
is_opening (what.Sign prohibits) = false
is_opening what.Opening = true
is_opening what.Closing = false
is_opening what.Finish = false
is_opening (what.Begun from to) = false
is_opening what.Half = false
is_opening what.Flaw = false

-- a word of several tokens
abbrev pub is_several : Level → What → List (List ℕ) → Bool
is_several l w words = is_some (word_text l w) && nat_lt 1 (length words)

unfoldable pub too_deep : Level → List Level → ℕ → What → List (List ℕ) → Option QueryFault
too_deep l os at w words = fault_if (nat_le most_deep (length os) && (is_opening w || is_several l w words)) (fault.TooDeep at)

-- the first of a clause: a modifier, or a body, whole or not
abbrev pub begins_clause : What → Bool
begins_clause (what.Word text) = true
begins_clause (what.Prefix text) = true
begins_clause (what.Quoted text) = true
begins_clause what.Star = true
begins_clause (what.Range low from to high) = true
begins_clause (what.Name text colon) = true
begins_clause (what.Any colon other) = true
begins_clause (what.Operator operator.And behind) = false
begins_clause (what.Operator operator.Or behind) = false
begins_clause (what.Operator operator.Not behind) = true
begins_clause (what.Sign prohibits) = true
begins_clause what.Opening = true
begins_clause what.Closing = false
begins_clause what.Finish = false
begins_clause (what.Begun from to) = true
begins_clause what.Half = true
begins_clause what.Flaw = false

unfoldable pub too_many : ℕ → Level → ℕ → What → List (List ℕ) → Option QueryFault
too_many most l at w words =
    fault_if ((begins_clause w && (begins l && nat_le most (length l.clauses))) || (is_several l w words && nat_lt most (length words))) (fault.TooManyClauses at)

-- ---- the whole

-- the faults of a lexeme, given the tokens that it has
unfoldable pub told_with : List Field → ℕ → Level → List Level → Lexeme → List (List ℕ) → List (Option QueryFault)
told_with fields most l os x words =
    x.wrong ∷ syntax l os x.at x.what ∷ unknown_field fields l x.at x.what
    ∷ bad_number (kind_for fields l) l x.at x.what ∷ bad_bound (kind_for fields l) (from_of x.what) ∷ bad_bound (kind_for fields l) (to_of x.what)
    ∷ unsupported (kind_for fields l) x.at x.what ∷ too_deep l os x.at x.what words ∷ too_many most l x.at x.what words ∷ []

abbrev pub told : List Field → ℕ → Level → List Level → Lexeme → List (Option QueryFault)
told fields most l os x = told_with fields most l os x (words_of fields l x.what)
