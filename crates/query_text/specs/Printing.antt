-- The text of a query, which reads to it.
use Rattle.std.specs.Prelude.{ℕ, List, [], ◌∷◌, ◌++◌, length, map, Bool, true, false, not, ◌&&◌, ◌||◌, ◌==◌, nat_le, nat_lt, if◌then◌else◌, codes, slice_get, encode_utf8}
use Rattle.std.specs.Option.{option_map_or}
use Rattle.std.specs.List.{flat_map}
use Rattle.std.specs.Char.{is_ascii_alphanumeric}
use Rattle.std.specs.Fmt.{signed_decimal}
use Rattle.std.specs.Str.{chars}
use Rattle.field_schema.specs.declared.field.Field.{Field}
use Rattle.field_schema.specs.declared.key.Key.{Key}
use Rattle.field_schema.specs.declared.key.Key.TheVariants as key
use Rattle.field_schema.specs.Bytes.{bytes_eq}
use Rattle.field_schema.specs.ValueTexts.{truth_text}
use Rattle.query_tree.specs.declared.query.End.{End}
use Rattle.query_tree.specs.declared.query.End.TheVariants as end
use Rattle.query_tree.specs.declared.query.Query.{Query, fold-Query, out-Query}
use Rattle.query_tree.specs.declared.query.Query.TheOpen.{Query-F}
use Rattle.query_tree.specs.declared.query.Query.TheOpen as node

-- texts with a sign before each, and a space before each that is not the first of all
unfoldable pub signed : Bool → List ℕ → List (List ℕ) → List ℕ
signed begun sign [] = []
signed begun sign (p ∷ ps) = (if begun then codes " " else []) ++ sign ++ p ++ signed true sign ps

-- words with one space between them
abbrev pub spaced : List (List ℕ) → List ℕ
spaced ws = signed false [] ws

-- a field's name and a colon
abbrev pub named : List Field → ℕ → List ℕ
named fields f = option_map_or (λ x. x.name) (slice_get fields f) [] ++ codes ":"

-- `\` before `"` and `\`
abbrev pub quoted_char : ℕ → List ℕ
quoted_char c = if c == 34 || c == 92 then 92 ∷ encode_utf8 c else encode_utf8 c

-- a text in quotes
unfoldable pub in_quotes : List ℕ → List ℕ
in_quotes text = codes "\"" ++ flat_map quoted_char (chars text) ++ codes "\""

-- an ASCII letter or digit, or a character past ASCII other than U+3000
abbrev pub is_plain : ℕ → Bool
is_plain c = is_ascii_alphanumeric c || (nat_le 128 c && not (c == 12288))

-- `\` before every other character
abbrev pub escaped_char : ℕ → List ℕ
escaped_char c = if is_plain c then encode_utf8 c else 92 ∷ encode_utf8 c

-- a word that is an operator
abbrev pub is_operator : List ℕ → Bool
is_operator text = bytes_eq text (codes "AND") || bytes_eq text (codes "OR") || bytes_eq text (codes "NOT")

-- the text of a prefix
unfoldable pub escaped : List ℕ → List ℕ
escaped text = (if is_operator text then codes "\\" else []) ++ flat_map escaped_char (chars text)

-- the text of a key
abbrev pub key_text : Key → List ℕ
key_text (key.Str text) = text
key_text (key.Long z) = signed_decimal z
key_text (key.Bool b) = truth_text b
key_text (key.Token text) = text

-- ---- ranges

abbrev pub end_text : End → List ℕ
end_text end.Open = codes "*"
end_text (end.At k inclusive) = in_quotes (key_text k)

abbrev pub opening : End → List ℕ
opening end.Open = codes "["
opening (end.At k inclusive) = if inclusive then codes "[" else codes "{"

abbrev pub closing : End → List ℕ
closing end.Open = codes "]"
closing (end.At k inclusive) = if inclusive then codes "]" else codes "}"

abbrev pub range_text : End → End → List ℕ
range_text a b = opening a ++ end_text a ++ codes " TO " ++ end_text b ++ closing b

-- ---- Boolean queries

-- some text is there
abbrev pub is_begun : List (List ℕ) → Bool
is_begun ps = nat_lt 0 (length ps)

-- the parts of a Boolean query, given the text of each
unfoldable pub parts_text : List (List ℕ) → List (List ℕ) → List (List ℕ) → List ℕ
parts_text must should not_ =
    signed false (codes "+") must ++ signed (is_begun must) [] should ++ signed (is_begun must || is_begun should) (codes "-") not_

-- ---- the whole

-- the text of a query that stands inside another, given those of its parts
abbrev pub layer_text : List Field → Query-F (List ℕ) → List ℕ
layer_text fields node.All = codes "*:*"
layer_text fields (node.Exists f) = named fields f ++ codes "*"
layer_text fields (node.Term f k) = named fields f ++ in_quotes (key_text k)
layer_text fields (node.Words f ws) = named fields f ++ in_quotes (spaced ws)
layer_text fields (node.Prefix f p) = named fields f ++ escaped p ++ codes "*"
layer_text fields (node.Range f a b) = named fields f ++ range_text a b
layer_text fields (node.Bool must should not_) = codes "(" ++ parts_text must should not_ ++ codes ")"

abbrev pub part_text : List Field → Query → List ℕ
part_text fields = fold-Query (List ℕ) (layer_text fields)

-- the text of a query by itself: a Boolean query's stands without parentheses
abbrev pub top_text : List Field → Query → Query-F Query → List ℕ
top_text fields q node.All = part_text fields q
top_text fields q (node.Exists f) = part_text fields q
top_text fields q (node.Term f k) = part_text fields q
top_text fields q (node.Words f ws) = part_text fields q
top_text fields q (node.Prefix f p) = part_text fields q
top_text fields q (node.Range f a b) = part_text fields q
top_text fields q (node.Bool must should not_) =
    parts_text (map (part_text fields) must) (map (part_text fields) should) (map (part_text fields) not_)

abbrev pub printed : List Field → Query → List ℕ
printed fields q = top_text fields q (out-Query q)
