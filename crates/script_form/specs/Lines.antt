-- The input as lines. A line ends at a line feed, before which one carriage return is dropped, or at the end.
use Rattle.std.specs.Prelude.{◌≡◌, ℕ, ◌-◌, ◌≤◌, List, [], length, drop, Bool, true, false, ◌||◌, nat_lt, codes}
use Rattle.std.specs.List.{list_any, before_first, after_first, join_with_byte}
use Rattle.std.specs.Str.Lines.{lines}
use Rattle.field_schema.specs.Bytes.{bytes_eq}

-- the line between the configuration and the script
abbrev pub is_marker : List ℕ → Bool
is_marker line = bytes_eq line (codes "%%")

abbrev pub has_marker : List ℕ → Bool
has_marker input = list_any is_marker (lines input)

-- the lines before it, joined by line feeds
abbrev pub config_text : List ℕ → List ℕ
config_text input = join_with_byte 10 (before_first is_marker (lines input))

-- the lines behind it
abbrev pub script_lines : List ℕ → List (List ℕ)
script_lines input = after_first is_marker (lines input)

-- the input has the line between them, or hasn't
abbrev pub HasMarker : List ℕ → Type 0
HasMarker input = has_marker input ≡ true

abbrev pub HasNoMarker : List ℕ → Type 0
HasNoMarker input = has_marker input ≡ false

-- the input's script has no lines
abbrev pub HasNoLines : List ℕ → Type 0
HasNoLines input = script_lines input ≡ []

-- the text has the lines of the input's script
abbrev pub IsScriptOf : List ℕ → List ℕ → Type 0
IsScriptOf input text = lines text ≡ script_lines input

-- the text is what is left of the input behind some of its bytes
abbrev pub IsRestOf : List ℕ → List ℕ → Type 0
IsRestOf input text =
    (text ≡ drop (length input - length text) input) × (length text ≤ length input)

-- the limits, in bytes and in lines
abbrev pub most_input : ℕ
most_input = 16777216

abbrev pub most_line : ℕ
most_line = 1048576

abbrev pub most_lines : ℕ
most_lines = 100000

-- the script passes a limit of its own
abbrev pub lines_too_large : List (List ℕ) → Bool
lines_too_large ls = nat_lt most_lines (length ls) || list_any (λ line. nat_lt most_line (length line)) ls

-- the input passes a limit
unfoldable pub too_large : List ℕ → Bool
too_large input = nat_lt most_input (length input) || lines_too_large (script_lines input)
