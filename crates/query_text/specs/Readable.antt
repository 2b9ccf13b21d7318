-- The queries whose printed text reads to them.
use Rattle.std.specs.Prelude.{ℕ, suc, ◌≡◌, ◌≤◌, ◌+◌, List, [], ◌∷◌, length, Bool, true, false, ◌&&◌, Option, is_some, Ok}
use Rattle.std.specs.Option.{option_map_or}
use Rattle.std.specs.Str.{IsUtf8}
use Rattle.field_schema.specs.declared.field.Field.{Field}
use Rattle.field_schema.specs.declared.key.Key.{Key}
use Rattle.field_schema.specs.Schema.{Fields, IsSchema}
use Rattle.field_schema.specs.Tokens.{tokens}
use Rattle.query_tree.specs.declared.query.End.{End}
use Rattle.query_tree.specs.declared.query.End.TheVariants as end
use Rattle.query_tree.specs.declared.query.Query.{Query}
use Rattle.query_tree.specs.declared.query.Query.TheVariants as query
use Rattle.query_tree.specs.declared.query.Query.TheViews as parts
use Rattle.query_text.specs.declared.op.Op.{Op}
use Rattle.query_text.specs.declared.reader.Parsed.{Parsed}
use Rattle.query_text.specs.Readings.{if_indexed, kind_at, is_text}
use Rattle.query_text.specs.Printing.{spaced}
use Rattle.query_text.specs.PrintLaws.{PrintsBack, is_single, IsNamed, IsKey, IsPrefix}
use Rattle.query_text.specs.Reads.{reading}

abbrev pub is_open : End → Bool
is_open end.Open = true
is_open (end.At k inclusive) = false

-- an end that is open or has a key of the field
abbrev pub IsEnd : List Field → ℕ → End → Type 0
IsEnd fields f end.Open = Unit {0}
IsEnd fields f (end.At k inclusive) = IsKey fields f k

-- a query without parts, of an indexed field and with keys and tokens that its texts have
pub data IsLeaf (fields : List Field) : Query → Type 0 where
  every : IsLeaf fields query.All
  exists : (f : ℕ) → IsNamed fields f → IsLeaf fields (query.Exists f)
  term : (f : ℕ) (k : Key) → IsNamed fields f → is_text (kind_at fields f) ≡ false → IsKey fields f k → IsLeaf fields (query.Term f k)
  words : (f : ℕ) (ws : List (List ℕ)) → IsNamed fields f → is_text (kind_at fields f) ≡ true → IsUtf8 (spaced ws) → tokens (spaced ws) ≡ ws → IsLeaf fields (query.Words f ws)
  prefix : (f : ℕ) (text : List ℕ) → IsNamed fields f → IsPrefix fields f text → IsLeaf fields (query.Prefix f text)
  range : (f : ℕ) (a b : End) → IsNamed fields f → IsEnd fields f a → IsEnd fields f b → (is_open a && is_open b) ≡ false → IsLeaf fields (query.Range f a b)

-- queries with at most d levels of parentheses: a Boolean one is no optional part alone, and has at most so many parts
pub data AreReadable (fields : List Field) (most : ℕ) : ℕ → List Query → Type 0 where
  no_more : {d : ℕ} → AreReadable fields most d []
  one_more : {d : ℕ} (q : Query) (qs : List Query) → IsLeaf fields q → AreReadable fields most d qs → AreReadable fields most d (q ∷ qs)
  group : {d : ℕ} (must should not_ qs : List Query) → AreReadable fields most d must → AreReadable fields most d should → AreReadable fields most d not_
      → is_single must should not_ ≡ false → length must + length should + length not_ ≤ most
      → AreReadable fields most (suc d) qs → AreReadable fields most (suc d) (parts.Bool must should not_ ∷ qs)

-- a whole query
pub data IsReadable (fields : List Field) (most : ℕ) : Query → Type 0 where
  alone : (q : Query) → 1 ≤ most → IsLeaf fields q → IsReadable fields most q
  blank : IsReadable fields most (parts.Bool [] [] [])
  bool : (must should not_ : List Query) → AreReadable fields most 64 must → AreReadable fields most 64 should → AreReadable fields most 64 not_
      → is_single must should not_ ≡ false → length must + length should + length not_ ≤ most
      → IsReadable fields most (parts.Bool must should not_)

-- each of them is read back
abbrev pub ReadablePrintsBack : List Field → Type 0
ReadablePrintsBack fields = (most : ℕ) (q : Query) → IsReadable fields most q → PrintsBack fields most q

-- ---- what texts read to

-- no default field, or an indexed one
abbrev pub is_default : List Field → Option ℕ → Bool
is_default fields df = option_map_or (λ f. is_some (if_indexed fields f)) df true

-- a text that reads, in a schema, with some default field, operator and limit on clauses
pub record IsRead (s : Fields) (most : ℕ) (p : Parsed) : Type 0 where
  pub schema : IsSchema s
  pub df : Option ℕ
  pub default : is_default s.list df ≡ true
  pub op : Op
  pub text : List ℕ
  pub utf8 : IsUtf8 text
  pub reads : reading s.list df op most text ≡ Ok p

-- each query that a text reads to is readable
abbrev pub ReadIsReadable : Type 0
ReadIsReadable = (s : Fields) (most : ℕ) (p : Parsed) → IsRead s most p → IsReadable s.list most p.query

-- and its printed text reads to it with Or, whatever the default field
abbrev pub PrintedReadsBack : Type 0
PrintedReadsBack = (s : Fields) (most : ℕ) (p : Parsed) → IsRead s most p → PrintsBack s.list most p.query
