-- What a value reads to in a field.
use Rattle.std.specs.Prelude.{ℕ, pos, List, [], ◌∷◌, length, map, Bool, true, false, nat_lt, if◌then◌else◌, Option, Some, None, option_map, option_and_then, unwrap_or, slice_get}
use Rattle.std.specs.Option.{option_map_or}
use Rattle.std.specs.Str.{str_to_ascii_lowercase}
use Rattle.field_schema.specs.declared.field.Field.{Field}
use Rattle.field_schema.specs.declared.field.FieldType.{FieldType}
use Rattle.field_schema.specs.declared.field.FieldType.TheVariants as kind
use Rattle.field_schema.specs.declared.key.Key.{Key}
use Rattle.field_schema.specs.declared.key.Key.TheVariants as key
use Rattle.field_schema.specs.Schema.{field_named}
use Rattle.field_schema.specs.Tokens.{tokens}
use Rattle.field_schema.specs.ValueTexts.{long_text, begins_true}
use Rattle.query_tree.specs.declared.query.End.{End}
use Rattle.query_tree.specs.declared.query.End.TheVariants as end
use Rattle.query_tree.specs.declared.query.Query.{Query}
use Rattle.query_tree.specs.declared.query.Query.TheVariants as query
use Rattle.query_tree.specs.declared.query.Query.TheViews as parts
use Rattle.query_lexemes.specs.declared.lexeme.What.{What}
use Rattle.query_lexemes.specs.declared.lexeme.What.TheVariants as what
use Rattle.query_text.specs.declared.op.Op.{Op}
use Rattle.query_text.specs.declared.op.Op.TheVariants as op
use Rattle.query_text.specs.declared.level.Level.{Level}
use Rattle.query_text.specs.declared.level.Target.{Target}
use Rattle.query_text.specs.declared.level.Target.TheVariants.{Here, Every, To}
use Rattle.query_text.specs.Levels.{field_for, is_here}

-- the field, where it is indexed
abbrev pub if_indexed : List Field → ℕ → Option ℕ
if_indexed fields n = option_and_then (λ f. if f.indexed then Some n else None) (slice_get fields n)

-- the indexed field of that name
abbrev pub indexed : List ℕ → List Field → Option ℕ
indexed name fields = option_and_then (if_indexed fields) (field_named name fields)

-- the type of a field
abbrev pub kind_at : List Field → ℕ → FieldType
kind_at fields n = option_map_or (λ f. f.kind) (slice_get fields n) kind.Str

-- the key of a text in a field of a type
abbrev pub key_of : FieldType → List ℕ → Key
key_of kind.Str text = key.Str text
key_of kind.Long text = key.Long (unwrap_or (long_text text) (pos 0))
key_of kind.Bool text = key.Bool (begins_true text)
key_of kind.Text text = key.Token (str_to_ascii_lowercase text)

abbrev pub is_text : FieldType → Bool
is_text kind.Str = false
is_text kind.Long = false
is_text kind.Bool = false
is_text kind.Text = true

-- a word or a quoted text, given its tokens
abbrev pub term : FieldType → ℕ → List ℕ → List (List ℕ) → Query
term k f text words = if is_text k then query.Words f words else query.Term f (key_of k text)

-- a query of each of the words, joined
abbrev pub each_word : Op → ℕ → List (List ℕ) → Query
each_word op.Or f words = parts.Bool [] (map (λ w. query.Words f (w ∷ [])) words) []
each_word op.And f words = parts.Bool (map (λ w. query.Words f (w ∷ [])) words) [] []

-- a word, given its tokens
abbrev pub word : Op → FieldType → ℕ → List ℕ → List (List ℕ) → Query
word o k f text words = if nat_lt 1 (length words) then each_word o f words else term k f text words

-- a word that `*` follows
abbrev pub prefix : FieldType → ℕ → List ℕ → Query
prefix k f text = query.Prefix f (if is_text k then str_to_ascii_lowercase text else text)

-- an end of a range
abbrev pub end_of : FieldType → Bool → Option (List ℕ) → End
end_of k inclusive None = end.Open
end_of k inclusive (Some text) = end.At (key_of k text) inclusive

abbrev pub range : FieldType → ℕ → Bool → Option (List ℕ) → Option (List ℕ) → Bool → Query
range k f low None None high = query.Exists f
range k f low (Some a) to high = query.Range f (end_of k low (Some a)) (end_of k high to)
range k f low None (Some b) high = query.Range f end.Open (end_of k high (Some b))

-- the field that stands before a `*`, or before a query that it is in
abbrev pub star_field : Option ℕ → Bool → Target → Option ℕ
star_field field true Here = field
star_field field false Here = None
star_field field named Every = None
star_field field named (To f) = f

abbrev pub star : Level → Query
star l = option_map_or query.Exists (star_field l.field l.named l.target) query.All

-- the text of a word that is a value; a name is one where a field stands before it
abbrev pub word_text : Level → What → Option (List ℕ)
word_text l (what.Word text) = Some text
word_text l (what.Prefix text) = None
word_text l (what.Quoted text) = None
word_text l what.Star = None
word_text l (what.Range low from to high) = None
word_text l (what.Name text colon) = if is_here l then None else Some text
word_text l (what.Any colon other) = None
word_text l (what.Operator o behind) = None
word_text l (what.Sign prohibits) = None
word_text l what.Opening = None
word_text l what.Closing = None
word_text l what.Finish = None
word_text l (what.Begun from to) = None
word_text l what.Half = None
word_text l what.Flaw = None

-- the text of a word or a quoted text
abbrev pub value_text : Level → What → Option (List ℕ)
value_text l (what.Word text) = Some text
value_text l (what.Prefix text) = None
value_text l (what.Quoted text) = Some text
value_text l what.Star = None
value_text l (what.Range low from to high) = None
value_text l (what.Name text colon) = if is_here l then None else Some text
value_text l (what.Any colon other) = None
value_text l (what.Operator o behind) = None
value_text l (what.Sign prohibits) = None
value_text l what.Opening = None
value_text l what.Closing = None
value_text l what.Finish = None
value_text l (what.Begun from to) = None
value_text l what.Half = None
value_text l what.Flaw = None

-- the tokens of a word or a quoted text in a field of tokens
abbrev pub words_in : Option FieldType → Option (List ℕ) → List (List ℕ)
words_in (Some kind.Text) (Some text) = tokens text
words_in k text = []

-- the type of the field of the next value
abbrev pub kind_for : List Field → Level → Option FieldType
kind_for fields l = option_map (kind_at fields) (field_for l)

abbrev pub words_of : List Field → Level → What → List (List ℕ)
words_of fields l w = words_in (kind_for fields l) (value_text l w)

-- a value in a field, given its tokens
unfoldable pub value_in : Op → FieldType → ℕ → What → List (List ℕ) → Query
value_in o k f (what.Word text) words = word o k f text words
value_in o k f (what.Prefix text) words = prefix k f text
value_in o k f (what.Quoted text) words = term k f text words
value_in o k f what.Star words = query.All
value_in o k f (what.Range low from to high) words = range k f low from.text to.text high
value_in o k f (what.Name text colon) words = query.All
value_in o k f (what.Any colon other) words = query.All
value_in o k f (what.Operator p behind) words = query.All
value_in o k f (what.Sign prohibits) words = query.All
value_in o k f what.Opening words = query.All
value_in o k f what.Closing words = query.All
value_in o k f what.Finish words = query.All
value_in o k f (what.Begun from to) words = query.All
value_in o k f what.Half words = query.All
value_in o k f what.Flaw words = query.All
