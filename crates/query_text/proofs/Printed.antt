-- A query whose part is read back is read back as a whole text; queries without parts are.
use Rattle.std.proofs.Common.{◌≡◌, ◌+◌, ◌<◌, ◌≤◌, ◌++◌, ◌∷◌, [], ℕ, List, Bool, true, false, Option, None, Some, Result, length, refl, ap, sym, subst, ◌∙◌, arith, codes, length-append}
use Rattle.std.specs.Prelude.{◌||◌, ◌&&◌, ◌==◌, encode_utf8}
use Rattle.std.specs.List.{list_all, flat_map}
use Rattle.std.specs.Str.{chars, IsUtf8}
use lib.Utf8.{encodes, scalars}
use Rattle.std.proofs.lemmas.List.{append_assoc}
use Rattle.std.proofs.lemmas.Bool.{and_parts, or_parts, agree_below_at, false≢true}
use Rattle.std.proofs.lemmas.Str.{encode_ascii, encodes-chars, scalars-chars}
use Rattle.field_schema.specs.declared.field.Field.{Field}
use Rattle.field_schema.specs.Names.{is_name_byte, is_field_name}
use Rattle.query_tree.specs.declared.query.Query.{Query}
use Rattle.query_tree.specs.declared.query.Query.TheVariants as query
use Rattle.query_tree.specs.declared.query.Query.TheViews as views
use Rattle.query_tree.specs.declared.query.Query.TheOpen as node
use Rattle.query_lexemes.specs.declared.fault.QueryFault.{QueryFault}
use Rattle.query_lexemes.specs.Letters.{is_blank, is_white, at_front, stands}
use Rattle.query_lexemes.proofs.Shapes.{Shape, lay, Stops}
use Rattle.query_lexemes.proofs.Pieces.{own, quoting, in_quotes, IsBehind}
use Rattle.query_text.specs.declared.level.Level.{Level}
use Rattle.query_text.specs.declared.level.Clause.{Clause}
use Rattle.query_text.specs.declared.level.Sign.{Sign}
use Rattle.query_text.specs.declared.level.Target.TheVariants.{Here, To}
use Rattle.query_text.specs.declared.op.Op.TheVariants as op
use Rattle.query_text.specs.Readings.{indexed, kind_at, term, words_in}
use Rattle.query_text.specs.Faults.{is_long, is_no_number}
use Rattle.query_text.specs.Printing.{named, part_text}
use Rattle.query_text.specs.Printing.{in_quotes as quoted_text}
use Rattle.query_text.specs.PrintLaws.{name_at, IsNamed, IsValue}
use Rattle.query_text.specs.Reads.{Setting}
use Rattle.query_text.proofs.Steps.{Reads, Step, step}
use Rattle.query_text.proofs.Leaves.{level, HasRoom, more, name_step, quoted_step, star_step}
use Rattle.query_text.proofs.Names.{bare, IsName, name_from, name_word, spelled_bare, below}
use Rattle.query_text.proofs.Whole.{bytes_of}
use Rattle.query_text.proofs.Parts.{IsFine, fine_name, fine_quotes, name_text, quotes_text, part_along}

abbrev pub or_setting : List Field → Setting
or_setting fields = record { fields = fields; op = op.Or }

-- the printed part of a query leads from any query that is being read to that one with one more clause
pub record Part (fields : List Field) (most d : ℕ) (q : Query) : Type 0 where
  pub shapes : List Shape → List Shape
  pub text : (rest : List Shape) → bytes_of (shapes rest) ≡ part_text fields q ++ bytes_of rest
  pub fine : (rest : List Shape) → IsFine rest → IsFine (shapes rest)
  pub longer : (rest : List Shape) → length rest < length (shapes rest)
  pub blank : (rest : List Shape) → Stops is_blank (shapes rest)
  pub colon : (rest : List Shape) (at : ℕ) → at_front (stands 58) (lay at (shapes rest)) ≡ false
  pub mark : (rest : List Shape) (at : ℕ) → at_front (stands 123) (lay at (shapes rest)) ≡ false
  pub reads : (end : ℕ) (df : Option ℕ) (own_field : Bool) (cs : List Clause) (sign : Option Sign) (os : List Level) (rest : List Shape) (r : Result Query QueryFault)
      → length os + d ≤ 64 → IsBehind rest → HasRoom most cs sign
      → Reads (or_setting fields) most end (level df own_field (more cs sign q) None Here) os rest r
      → Reads (or_setting fields) most end (level df own_field cs sign Here) os (shapes rest) r

-- ---- fields

-- the field's name, byte by byte
pub record IsSpelled (fields : List Field) (f : ℕ) : Type 0 where
  pub first : ℕ
  pub others : List ℕ
  pub spells : name_at fields f ≡ first ∷ others
  pub name : IsName first others
  pub found : indexed (first ∷ others) fields ≡ Some f

spell : (fields : List Field) (f : ℕ) (name : List ℕ) → name_at fields f ≡ name → is_field_name name ≡ true → indexed name fields ≡ Some f → IsSpelled fields f
spell fields f [] e h found = absurd (false≢true h)
spell fields f (c ∷ cs) e h found = record { first = c; others = cs; spells = e; name = name_from c cs h; found = found }

pub spelled_from : (fields : List Field) (f : ℕ) → IsNamed fields f → IsSpelled fields f
spelled_from fields f h = spell fields f (name_at fields f) refl h.name h.found

name_no_mark : (c : ℕ) → is_name_byte c ≡ true → (c == 58 || c == 123) ≡ false
name_no_mark c h =
    let e : (is_name_byte c && (c == 58 || c == 123)) ≡ false = agree_below_at (λ c. is_name_byte c && (c == 58 || c == 123)) (λ c. false) 128 c refl (below c h) in
    rw h at e

name_no_blank : (c : ℕ) → is_name_byte c ≡ true → is_white c ≡ false
name_no_blank c h =
    let e : (is_name_byte c && is_white c) ≡ false
    = agree_below_at (λ c. is_name_byte c && is_white c) (λ c. false) 128 c refl (below c h) in
    rw h at e

-- ---- values behind a field's name

pub record Value (fields : List Field) (most f : ℕ) (q : Query) : Type 0 where
  pub shapes : List Shape → List Shape
  pub text : List ℕ
  pub prints : part_text fields q ≡ named fields f ++ text
  pub writes : (rest : List Shape) → bytes_of (shapes rest) ≡ text ++ bytes_of rest
  pub fine : (rest : List Shape) → IsFine rest → IsFine (shapes rest)
  pub longer : (rest : List Shape) → length rest < length (shapes rest)
  pub reads : (end : ℕ) (df : Option ℕ) (own_field : Bool) (cs : List Clause) (sign : Option Sign) (os : List Level) (rest : List Shape) → IsBehind rest
      → (at : ℕ) → Step (or_setting fields) most end (level df own_field cs sign (To (Some f))) os (shapes rest) rest (level df own_field (more cs sign q) None Here) os at

module _ (fields : List Field) (most f : ℕ) (q : Query) (s : IsSpelled fields f) (v : Value fields most f q) where
  abbrev named_shapes : List Shape → List Shape
  named_shapes rest = bare (s.first ∷ s.others) ++ own 58 ∷ v.shapes rest

  named_text : (rest : List Shape) → bytes_of (named_shapes rest) ≡ part_text fields q ++ bytes_of rest
  named_text rest =
      name_text (s.first ∷ s.others) (v.shapes rest) s.name.bytes
      ∙ rw (v.prints, v.writes rest, s.spells) (sym (append_assoc ((s.first ∷ s.others) ++ codes ":") v.text (bytes_of rest)))

  pub part_named : (d : ℕ) → Part fields most d q
  part_named d =
      let p : (is_name_byte s.first ≡ true) × (list_all is_name_byte s.others ≡ true) = and_parts _ _ s.name.bytes in
      let n : ((s.first == 58) ≡ false) × ((s.first == 123) ≡ false) = or_parts _ _ (name_no_mark s.first p.0) in
      record {
        shapes = named_shapes;
        text = named_text;
        fine = λ rest h. fine_name (s.first ∷ s.others) (own 58 ∷ v.shapes rest) s.name.bytes ((refl, (v.fine rest h).0), (v.fine rest h).1);
        longer = λ rest. let e = v.longer rest in omega (arith, length-append (bare (s.first ∷ s.others)) (own 58 ∷ v.shapes rest));
        blank = λ rest at. name_no_blank s.first p.0;
        colon = λ rest at. n.0;
        mark = λ rest at. n.1;
        reads = λ end df own_field cs sign os rest r deep behind room reads.
            step (or_setting fields) most end (level df own_field cs sign Here) os (named_shapes rest) (v.shapes rest) r (level df own_field cs sign (To (Some f))) os
            (omega (arith, length-append (bare (s.first ∷ s.others)) (own 58 ∷ v.shapes rest)))
            (λ at. name_step (or_setting fields) most end df own_field cs sign os f (own s.first) (bare s.others) (v.shapes rest) (name_word s.first s.others s.name)
            (rw (spelled_bare (s.first ∷ s.others) s.name.bytes) s.found) room at)
            (step (or_setting fields) most end (level df own_field cs sign (To (Some f))) os (v.shapes rest) rest r (level df own_field (more cs sign q) None Here) os
            (v.longer rest) (v.reads end df own_field cs sign os rest behind) reads);
      }

-- ---- the values

flat_encodes : (cs : List ℕ) → flat_map encode_utf8 cs ≡ encodes cs
flat_encodes [] = refl
flat_encodes (c ∷ cs) = ap (λ (bs : List ℕ). encode_utf8 c ++ bs) (flat_encodes cs)

pub spelled_chars : (text : List ℕ) → IsUtf8 text → flat_map encode_utf8 (chars text) ≡ text
spelled_chars text h = flat_encodes (chars text) ∙ encodes-chars text h

module _ (fields : List Field) (most f : ℕ) where
  pub star_value : Value fields most f (query.Exists f)
  star_value = record {
    shapes = λ rest. own 42 ∷ rest;
    text = codes "*";
    prints = part_along fields (query.Exists f) (node.Exists f) (views.outs-Exists f);
    writes = λ rest. rw (encode_ascii 42 (omega arith)) refl;
    fine = λ rest h. ((refl, h.0), h.1);
    longer = λ rest. omega arith;
    reads = λ end df own_field cs sign os rest behind at.
        star_step (or_setting fields) most end df own_field cs sign os (To (Some f)) rest (query.Exists f) refl refl behind at;
  }

  pub quoted_value : (q : Query) (text : List ℕ) → part_text fields q ≡ named fields f ++ quoted_text text → IsValue fields f text
      → term (kind_at fields f) f text (words_in (Some (kind_at fields f)) (Some text)) ≡ q → Value fields most f q
  quoted_value q text prints value e =
      let back : encodes (chars text) ≡ text = encodes-chars text value.utf8 in
      let real : scalars (chars text) ≡ true = scalars-chars text value.utf8 in
      record {
        shapes = in_quotes (chars text);
        text = quoted_text text;
        prints = prints;
        writes = λ rest. quotes_text (chars text) rest real ∙ ap (λ (t : List ℕ). quoted_text t ++ bytes_of rest) back;
        fine = λ rest h. fine_quotes (chars text) rest real h;
        longer = λ rest. omega (arith, length-append (quoting (chars text)) (own 34 ∷ rest));
        reads = λ end df own_field cs sign os rest behind at.
            quoted_step (or_setting fields) most end df own_field cs sign os f (chars text) rest q
            (subst (λ (t : List ℕ). (is_long (Some (kind_at fields f)) && is_no_number (Some t)) ≡ false) (sym (spelled_chars text value.utf8)) value.number)
            (subst (λ (t : List ℕ). term (kind_at fields f) f t (words_in (Some (kind_at fields f)) (Some t)) ≡ q) (sym (spelled_chars text value.utf8)) e) at;
      }
