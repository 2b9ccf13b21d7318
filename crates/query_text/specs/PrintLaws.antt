-- When the printed text of a query reads to it.
use Rattle.std.specs.Prelude.{ℕ, pos, ◌≡◌, ◌≤◌, List, [], length, Bool, true, false, ◌&&◌, ◌==◌, nat_le, if◌then◌else◌, Option, Some, Ok, slice_get}
use Rattle.std.specs.Option.{option_map_or}
use Rattle.std.specs.Str.{IsUtf8, str_to_ascii_lowercase}
use Rattle.field_schema.specs.declared.field.Field.{Field}
use Rattle.field_schema.specs.declared.key.Key.{Key}
use Rattle.field_schema.specs.Names.{is_field_name}
use Rattle.field_schema.specs.Tokens.{is_filled, tokens}
use Rattle.query_tree.specs.declared.query.Query.{Query}
use Rattle.query_tree.specs.declared.query.Query.TheVariants as query
use Rattle.query_text.specs.declared.op.Op.TheVariants as op
use Rattle.query_text.specs.Readings.{indexed, kind_at, key_of, is_text}
use Rattle.query_text.specs.Faults.{is_long, is_no_number, is_whole}
use Rattle.query_text.specs.Printing.{key_text, spaced, printed}
use Rattle.query_text.specs.Reads.{reading}

-- the printed text reads to the query with Or, whatever the default field
abbrev pub PrintsBack : List Field → ℕ → Query → Type 0
PrintsBack fields most q =
    (df : Option ℕ) → reading fields df op.Or most (printed fields q) ≡ Ok (record { query = q; cached = true; cost = pos 0 })

-- at most one optional part and no other
abbrev pub is_single : List Query → List Query → List Query → Bool
is_single must should not_ = nat_le (length should) 1 && (length must == 0 && length not_ == 0)

-- the field's name
abbrev pub name_at : List Field → ℕ → List ℕ
name_at fields f = option_map_or (λ x. x.name) (slice_get fields f) []

-- an indexed field that is found by its name
pub record IsNamed (fields : List Field) (f : ℕ) : Type 0 where
  pub name : is_field_name (name_at fields f) ≡ true
  pub found : indexed (name_at fields f) fields ≡ Some f

-- a text that a value of the field can have: a number where the field has numbers
pub record IsValue (fields : List Field) (f : ℕ) (text : List ℕ) : Type 0 where
  pub utf8 : IsUtf8 text
  pub number : (is_long (Some (kind_at fields f)) && is_no_number (Some text)) ≡ false

-- a key that the field gives to its text
pub record IsKey (fields : List Field) (f : ℕ) (k : Key) : Type 0 where
  pub value : IsValue fields f (key_text k)
  pub key : key_of (kind_at fields f) (key_text k) ≡ k

-- a text that a prefix in the field can have: some characters, in lower case where the field has tokens
pub record IsPrefix (fields : List Field) (f : ℕ) (text : List ℕ) : Type 0 where
  pub utf8 : IsUtf8 text
  pub some : is_filled text ≡ true
  pub kind : is_whole (Some (kind_at fields f)) ≡ false
  pub lower : (if is_text (kind_at fields f) then str_to_ascii_lowercase text else text) ≡ text

abbrev pub AllPrintsBack : List Field → Type 0
AllPrintsBack fields = (most : ℕ) → 1 ≤ most → PrintsBack fields most query.All

abbrev pub ExistsPrintsBack : List Field → Type 0
ExistsPrintsBack fields = (most f : ℕ) → 1 ≤ most → IsNamed fields f → PrintsBack fields most (query.Exists f)

abbrev pub TermPrintsBack : List Field → Type 0
TermPrintsBack fields = (most f : ℕ) (k : Key) → 1 ≤ most → IsNamed fields f
    → is_text (kind_at fields f) ≡ false → IsKey fields f k → PrintsBack fields most (query.Term f k)

-- words that are the tokens of their text
abbrev pub WordsPrintBack : List Field → Type 0
WordsPrintBack fields = (most f : ℕ) (ws : List (List ℕ)) → 1 ≤ most → IsNamed fields f
    → is_text (kind_at fields f) ≡ true → IsUtf8 (spaced ws) → tokens (spaced ws) ≡ ws → PrintsBack fields most (query.Words f ws)

abbrev pub PrefixPrintsBack : List Field → Type 0
PrefixPrintsBack fields = (most f : ℕ) (text : List ℕ) → 1 ≤ most → IsNamed fields f
    → IsPrefix fields f text → PrintsBack fields most (query.Prefix f text)
