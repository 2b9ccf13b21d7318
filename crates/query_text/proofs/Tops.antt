-- Whole texts of queries without parts.
use Rattle.std.proofs.Common.{◌≡◌, ◌≤◌, ◌∷◌, [], ℕ, List, true, false, None, Ok, length, refl, sym, ◌∙◌, arith}
use Rattle.std.specs.Str.{IsUtf8}
use Rattle.std.proofs.lemmas.List.{append-nil}
use Rattle.std.proofs.lemmas.Bool.{lt-leb, false≢true}
use Rattle.std.proofs.lemmas.Str.{encode_ascii}
use Rattle.field_schema.specs.declared.field.Field.{Field}
use Rattle.field_schema.specs.declared.field.FieldType.{FieldType}
use Rattle.field_schema.specs.declared.field.FieldType.TheVariants as kind
use Rattle.field_schema.specs.declared.key.Key.{Key}
use Rattle.field_schema.specs.Tokens.{tokens}
use Rattle.query_tree.specs.declared.query.Query.{Query}
use Rattle.query_tree.specs.declared.query.Query.TheVariants as query
use Rattle.query_tree.specs.declared.query.Query.TheOpen as node
use Rattle.query_tree.specs.declared.query.Query.TheViews as views
use Rattle.query_lexemes.proofs.Pieces.{own, IsBehind, nothing_skipped}
use Rattle.query_text.specs.declared.level.Target.TheVariants.{Here, Every}
use Rattle.query_text.specs.declared.op.Op.TheVariants as op
use Rattle.query_text.specs.Clauses.{joined}
use Rattle.query_text.specs.Readings.{kind_at, is_text}
use Rattle.query_text.specs.Printing.{key_text, spaced, part_text, printed}
use Rattle.query_text.specs.PrintLaws.{PrintsBack, IsNamed, IsKey, AllPrintsBack, ExistsPrintsBack, TermPrintsBack, WordsPrintBack}
use Rattle.query_text.proofs.Steps.{step}
use Rattle.query_text.proofs.Leaves.{level, more, star_step, every_step}
use Rattle.query_text.proofs.Whole.{bytes_of, finished, whole_reads}
use Rattle.query_text.proofs.Parts.{IsFine, part_along, top_along}
use Rattle.query_text.proofs.Printed.{or_setting, Part, part_named, spelled_from, star_value, quoted_value}

-- `*:*`
pub part_all : (fields : List Field) (most d : ℕ) → Part fields most d query.All
part_all fields most d = record {
  shapes = λ rest. own 42 ∷ own 58 ∷ own 42 ∷ rest;
  text = λ rest. rw (part_along fields query.All node.All views.outs-All, encode_ascii 42 (omega arith), encode_ascii 58 (omega arith)) refl;
  fine = λ rest h. ((refl, (refl, (refl, h.0))), h.1);
  longer = λ rest. omega arith;
  blank = λ rest at. refl;
  colon = λ rest at. refl;
  mark = λ rest at. refl;
  reads = λ end df own_field cs sign os rest r deep behind room reads.
      step (or_setting fields) most end (level df own_field cs sign Here) os (own 42 ∷ own 58 ∷ own 42 ∷ rest) (own 42 ∷ rest) r (level df own_field cs sign Every) os
      (omega arith)
      (every_step (or_setting fields) most end df own_field cs sign os rest room)
      (step (or_setting fields) most end (level df own_field cs sign Every) os (own 42 ∷ rest) rest r (level df own_field (more cs sign query.All) None Here) os
      (omega arith) (star_step (or_setting fields) most end df own_field cs sign os Every rest query.All refl refl behind) reads);
}

pub nothing_behind : IsBehind []
nothing_behind = record { colon = λ at. rw (nothing_skipped [] at tt) refl; spoils = λ at. refl }

-- a text that is one part reads to its query
pub top_part : (fields : List Field) (most d : ℕ) (q : Query) → Part fields most d q → d ≤ 64 → 1 ≤ most → printed fields q ≡ part_text fields q → PrintsBack fields most q
unfolding joined
top_part fields most d q part deep room alone df =
    let text : printed fields q ≡ bytes_of (part.shapes []) = alone ∙ sym (part.text [] ∙ append-nil (part_text fields q)) in
    let fine : IsFine (part.shapes []) = part.fine [] (tt, refl) in
    rw text (whole_reads fields op.Or most df (part.shapes []) q fine.0 fine.1 (part.mark [])
    (part.reads (length (bytes_of (part.shapes []))) df false [] None [] [] (Ok q) (omega arith) nothing_behind (lt-leb most 0 room)
    (finished (or_setting fields) most (length (bytes_of (part.shapes []))) df false (more [] None q))))

pub all_prints : (fields : List Field) → AllPrintsBack fields
all_prints fields most room =
    top_part fields most 0 query.All (part_all fields most 0) (omega arith) room (top_along fields query.All node.All views.outs-All)

pub exists_prints : (fields : List Field) → ExistsPrintsBack fields
exists_prints fields most f room named =
    top_part fields most 0 (query.Exists f) (part_named fields most f (query.Exists f) (spelled_from fields f named) (star_value fields most f) 0)
    (omega arith) room (top_along fields (query.Exists f) (node.Exists f) (views.outs-Exists f))

pub part_term : (fields : List Field) (most d f : ℕ) (k : Key) → IsNamed fields f → is_text (kind_at fields f) ≡ false → IsKey fields f k → Part fields most d (query.Term f k)
part_term fields most d f k named whole key =
    part_named fields most f (query.Term f k) (spelled_from fields f named)
    (quoted_value fields most f (query.Term f k) (key_text k) (part_along fields (query.Term f k) (node.Term f k) (views.outs-Term f k)) key.value
    (rw (whole, key.key) refl)) d

pub term_prints : (fields : List Field) → TermPrintsBack fields
term_prints fields most f k room named whole key =
    top_part fields most 0 (query.Term f k) (part_term fields most 0 f k named whole key) (omega arith) room
    (top_along fields (query.Term f k) (node.Term f k) (views.outs-Term f k))

-- a field of tokens
pub text_kind : (k : FieldType) → is_text k ≡ true → k ≡ kind.Text
text_kind kind.Str h = absurd (false≢true h)
text_kind kind.Long h = absurd (false≢true h)
text_kind kind.Bool h = absurd (false≢true h)
text_kind kind.Text h = refl

pub part_words : (fields : List Field) (most d f : ℕ) (ws : List (List ℕ)) → IsNamed fields f → is_text (kind_at fields f) ≡ true
    → IsUtf8 (spaced ws) → tokens (spaced ws) ≡ ws → Part fields most d (query.Words f ws)
part_words fields most d f ws named text utf8 same =
    let k : kind_at fields f ≡ kind.Text = text_kind (kind_at fields f) text in
    part_named fields most f (query.Words f ws) (spelled_from fields f named)
    (quoted_value fields most f (query.Words f ws) (spaced ws) (part_along fields (query.Words f ws) (node.Words f ws) (views.outs-Words f ws))
    (record { utf8 = utf8; number = rw k refl })
    (rw (k, same) refl)) d

pub words_print : (fields : List Field) → WordsPrintBack fields
words_print fields most f ws room named text utf8 same =
    top_part fields most 0 (query.Words f ws) (part_words fields most 0 f ws named text utf8 same) (omega arith) room
    (top_along fields (query.Words f ws) (node.Words f ws) (views.outs-Words f ws))
