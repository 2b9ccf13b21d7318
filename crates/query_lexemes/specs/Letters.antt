-- The letters of a query text: its characters, of which an escape and the character that it stands for are one.
use Rattle.std.specs.Prelude.{ℕ, ◌+◌, ◌-◌, List, [], ◌∷◌, Bool, true, false, not, ◌&&◌, ◌||◌, ◌==◌, nat_lt, nat_le, if◌then◌else◌, drop, encode_utf8}
use Rattle.std.specs.Char.{len_utf8}
use Rattle.std.specs.List.{flat_map, list_any, take_while, prefix_len}
use Rattle.std.specs.Str.{chars}
use Rattle.query_lexemes.specs.declared.letter.Letter.{Letter}
use Rattle.query_lexemes.specs.declared.letter.Class.{Class}
use Rattle.query_lexemes.specs.declared.letter.Class.TheVariants.{Blank, Word, Quote, Run, Space, Item, Name}

-- how many bytes U+3000 and the character have in common at their beginning, and U+3000 has one more
abbrev pub shared : ℕ → ℕ
shared c = if nat_le 12288 c && nat_lt c 16384 then (if nat_lt c 12352 then 2 else 1) else 0

-- a character that stands for itself
abbrev pub plain : ℕ → ℕ → Letter
plain at c = record { at = at; odd = at + shared c; code = c; escaped = false }

-- a character behind the `\` at a place
abbrev pub escape : ℕ → ℕ → Letter
escape at c = record { at = at; odd = at; code = c; escaped = true }

-- the letters of the characters from a place on, where a `\` stood before them or not; a `\` at the end is a letter
unfoldable pub letters_from : Bool → ℕ → List ℕ → List Letter
letters_from false at [] = []
letters_from true at [] = plain (at - 1) 92 ∷ []
letters_from false at (c ∷ cs) = if c == 92 then letters_from true (at + len_utf8 c) cs else plain at c ∷ letters_from false (at + len_utf8 c) cs
letters_from true at (c ∷ cs) = escape (at - 1) c ∷ letters_from false (at + len_utf8 c) cs

-- the letters of a text
unfoldable pub letters : List ℕ → List Letter
letters text = letters_from false 0 (chars text)

-- ---- what a letter is

-- space, tab, line feed, carriage return and U+3000
abbrev pub is_white : ℕ → Bool
is_white c = c == 32 || c == 9 || c == 10 || c == 13 || c == 12288

-- `+` and `-`, which go on a word but do not begin one
abbrev pub is_plus : ℕ → Bool
is_plus c = c == 43 || c == 45

-- the special characters that do not go on a word: `! ( ) : ^ [ ] " { } ~ * ? \ /`
abbrev pub is_special : ℕ → Bool
is_special c =
    c == 33 || c == 40 || c == 41 || c == 58 || c == 94 || c == 91 || c == 93 || c == 34 || c == 123 || c == 125
    || c == 126 || c == 42 || c == 63 || c == 92 || c == 47

-- the letter is this character, and no escape
abbrev pub stands : ℕ → Letter → Bool
stands c l = not l.escaped && l.code == c

abbrev pub is_blank : Letter → Bool
is_blank l = not l.escaped && is_white l.code

-- a word can go on with it
abbrev pub goes_on : Letter → Bool
goes_on l = l.escaped || not (is_white l.code || is_special l.code)

-- a word can begin with it
abbrev pub begins_word : Letter → Bool
begins_word l = goes_on l && (l.escaped || not (is_plus l.code))

-- `^`, `~`, `?` and `/`, which ask for what is not supported
abbrev pub is_unsupported : Letter → Bool
is_unsupported l = not l.escaped && (l.code == 94 || l.code == 126 || l.code == 63 || l.code == 47)

-- `\` at the end of the text
abbrev pub is_lone : Letter → Bool
is_lone l = stands 92 l

-- what may not follow a `*` directly: a letter of a word, `*`, `?` or `\`
abbrev pub spoils : Letter → Bool
spoils l = goes_on l || stands 42 l || stands 63 l || is_lone l

-- ---- runs of letters

-- the letters of a run: white space, a word, a quoted text, an end of a range, spaces, an item of local parameters, a name to sort by
abbrev pub belongs : Class → Letter → Bool
belongs Blank l = is_blank l
belongs Word l = goes_on l
belongs Quote l = not (stands 34 l || is_lone l)
belongs Run l = not (is_blank l || stands 93 l || stands 125 l || is_lone l)
belongs Space l = stands 32 l
belongs Name l = not (is_blank l || stands 44 l)
belongs Item l = not (stands 32 l || stands 125 l)

-- the run in front, as long as it can be
unfoldable pub run : Class → List Letter → List Letter
run k ls = take_while (belongs k) ls

-- what stands behind it
unfoldable pub past : Class → List Letter → List Letter
past k ls = drop (prefix_len (belongs k) ls) ls

-- the letters without the white space in front
abbrev pub skip : List Letter → List Letter
skip ls = past Blank ls

-- there is a first letter, of which p holds
abbrev pub at_front : (Letter → Bool) → List Letter → Bool
at_front p [] = false
at_front p (l ∷ ls) = p l

-- the text that the letters stand for
abbrev pub text_of : List Letter → List ℕ
text_of ls = flat_map (λ l. encode_utf8 l.code) ls

-- some letter is an escape
abbrev pub has_escape : List Letter → Bool
has_escape ls = list_any (λ l. l.escaped) ls
