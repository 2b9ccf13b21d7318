-- A printed range.
use Rattle.std.proofs.Common.{◌≡◌, ◌<◌, ◌++◌, ◌∷◌, ℕ, List, Bool, true, false, Option, None, Some, length, refl, ap, sym, subst, ◌∙◌, arith, codes, length-append}
use Rattle.std.specs.Prelude.{◌&&◌}
use Rattle.std.specs.Str.{chars}
use Rattle.std.proofs.lemmas.List.{append_assoc}
use Rattle.std.proofs.lemmas.Bool.{true≢false}
use Rattle.std.proofs.lemmas.Str.{encode_ascii, encodes-chars, scalars-chars}
use Rattle.field_schema.specs.declared.field.Field.{Field}
use Rattle.query_tree.specs.declared.query.End.{End}
use Rattle.query_tree.specs.declared.query.End.TheVariants as end
use Rattle.query_tree.specs.declared.query.Query.TheVariants as query
use Rattle.query_tree.specs.declared.query.Query.TheOpen as node
use Rattle.query_tree.specs.declared.query.Query.TheViews as views
use Rattle.query_lexemes.proofs.Shapes.{Shape}
use Rattle.query_lexemes.proofs.Pieces.{own, quoting}
use Rattle.query_lexemes.proofs.Ranges.{bracket, stop, to, end_shapes, ends}
use Rattle.query_lexemes.proofs.Ranges.{end_text as bound_text}
use Rattle.query_text.specs.Readings.{kind_at, range, end_of}
use Rattle.query_text.specs.Faults.{is_long, is_no_number}
use Rattle.query_text.specs.Printing.{named, key_text, end_text, opening, closing, range_text}
use Rattle.query_text.specs.Printing.{in_quotes as quoted_text}
use Rattle.query_text.specs.PrintLaws.{IsNamed}
use Rattle.query_text.specs.Readable.{is_open, IsEnd}
use Rattle.query_text.proofs.Leaves.{never}
use Rattle.query_text.proofs.Values.{range_step}
use Rattle.query_text.proofs.Whole.{bytes_of}
use Rattle.query_text.proofs.Parts.{IsFine, fine_quotes, quotes_text, part_along}
use Rattle.query_text.proofs.Printed.{or_setting, Part, Value, part_named, spelled_from, spelled_chars}

-- the characters of an end's text
abbrev chars_at : End → Option (List ℕ)
chars_at end.Open = None
chars_at (end.At k inclusive) = Some (chars (key_text k))

-- whether a bracket at an end is a square one
abbrev square : End → Bool
square end.Open = true
square (end.At k inclusive) = inclusive

opening_bytes : (a : End) (ss : List Shape) → bytes_of (bracket (square a) ∷ ss) ≡ opening a ++ bytes_of ss
opening_bytes end.Open ss = rw (encode_ascii 91 (omega arith)) refl
opening_bytes (end.At k true) ss = rw (encode_ascii 91 (omega arith)) refl
opening_bytes (end.At k false) ss = rw (encode_ascii 123 (omega arith)) refl

closing_bytes : (b : End) (ss : List Shape) → bytes_of (stop (Some (square b)) ∷ ss) ≡ closing b ++ bytes_of ss
closing_bytes end.Open ss = rw (encode_ascii 93 (omega arith)) refl
closing_bytes (end.At k true) ss = rw (encode_ascii 93 (omega arith)) refl
closing_bytes (end.At k false) ss = rw (encode_ascii 125 (omega arith)) refl

to_bytes : (ss : List Shape) → bytes_of (to ss) ≡ codes " TO " ++ bytes_of ss
to_bytes ss = rw (encode_ascii 32 (omega arith), encode_ascii 84 (omega arith), encode_ascii 79 (omega arith)) refl

bracket_fine : (low : Bool) (ss : List Shape) → IsFine ss → IsFine (bracket low ∷ ss)
bracket_fine true ss h = ((refl, h.0), h.1)
bracket_fine false ss h = ((refl, h.0), h.1)

stop_fine : (high : Bool) (ss : List Shape) → IsFine ss → IsFine (stop (Some high) ∷ ss)
stop_fine true ss h = ((refl, h.0), h.1)
stop_fine false ss h = ((refl, h.0), h.1)

to_fine : (ss : List Shape) → IsFine ss → IsFine (to ss)
to_fine ss h = ((refl, (refl, (refl, (refl, h.0)))), h.1)

six : (a b c d e rest : List ℕ) → a ++ (b ++ (c ++ (d ++ (e ++ rest)))) ≡ (a ++ b ++ c ++ d ++ e) ++ rest
six a b c d e rest = simp append_assoc

module _ (fields : List Field) (most f : ℕ) where
  end_bytes : (e : End) (ss : List Shape) → IsEnd fields f e → bytes_of (end_shapes (chars_at e) ss) ≡ end_text e ++ bytes_of ss
  end_bytes end.Open ss h = rw (encode_ascii 42 (omega arith)) refl
  end_bytes (end.At k inclusive) ss h =
      quotes_text (chars (key_text k)) ss (scalars-chars (key_text k) h.value.utf8)
      ∙ ap (λ (t : List ℕ). quoted_text t ++ bytes_of ss) (encodes-chars (key_text k) h.value.utf8)

  end_fine : (e : End) (ss : List Shape) → IsEnd fields f e → IsFine ss → IsFine (end_shapes (chars_at e) ss)
  end_fine end.Open ss h fine = ((refl, fine.0), fine.1)
  end_fine (end.At k inclusive) ss h fine = fine_quotes (chars (key_text k)) ss (scalars-chars (key_text k) h.value.utf8) fine

  end_longer : (e : End) (ss : List Shape) → length ss < length (end_shapes (chars_at e) ss)
  end_longer end.Open ss = omega arith
  end_longer (end.At k inclusive) ss = omega (arith, length-append (quoting (chars (key_text k))) (own 34 ∷ ss))

  end_number : (e : End) → IsEnd fields f e → (is_long (Some (kind_at fields f)) && is_no_number (bound_text (chars_at e))) ≡ false
  end_number end.Open h = never (is_long (Some (kind_at fields f)))
  end_number (end.At k inclusive) h =
      subst (λ (t : List ℕ). (is_long (Some (kind_at fields f)) && is_no_number (Some t)) ≡ false) (sym (spelled_chars (key_text k) h.value.utf8)) h.value.number

  end_same : (e : End) → IsEnd fields f e → end_of (kind_at fields f) (square e) (bound_text (chars_at e)) ≡ e
  end_same end.Open h = refl
  end_same (end.At k inclusive) h = rw (spelled_chars (key_text k) h.value.utf8, h.key) refl

  range_same : (a b : End) → IsEnd fields f a → IsEnd fields f b → (is_open a && is_open b) ≡ false
      → range (kind_at fields f) f (square a) (bound_text (chars_at a)) (bound_text (chars_at b)) (square b) ≡ query.Range f a b
  range_same end.Open end.Open h k some = absurd (true≢false some)
  range_same end.Open (end.At l inclusive) h k some = ap (λ (e : End). query.Range f end.Open e) (end_same (end.At l inclusive) k)
  range_same (end.At l inclusive) b h k some = λ i. query.Range f (end_same (end.At l inclusive) h i) (end_same b k i)

  range_value : (a b : End) → IsEnd fields f a → IsEnd fields f b → (is_open a && is_open b) ≡ false → Value fields most f (query.Range f a b)
  range_value a b h k some = record {
    shapes = λ rest. bracket (square a) ∷ ends (chars_at a) (chars_at b) (square b) rest;
    text = range_text a b;
    prints = part_along fields (query.Range f a b) (node.Range f a b) (views.outs-Range f a b);
    writes = λ rest.
        opening_bytes a (ends (chars_at a) (chars_at b) (square b) rest)
        ∙ ap (λ (bs : List ℕ). opening a ++ bs)
        (end_bytes a (to (end_shapes (chars_at b) (stop (Some (square b)) ∷ rest))) h
        ∙ ap (λ (bs : List ℕ). end_text a ++ bs)
        (to_bytes (end_shapes (chars_at b) (stop (Some (square b)) ∷ rest))
        ∙ ap (λ (bs : List ℕ). codes " TO " ++ bs)
        (end_bytes b (stop (Some (square b)) ∷ rest) k ∙ ap (λ (bs : List ℕ). end_text b ++ bs) (closing_bytes b rest))))
        ∙ six (opening a) (end_text a) (codes " TO ") (end_text b) (closing b) (bytes_of rest);
    fine = λ rest fine.
        bracket_fine (square a) (ends (chars_at a) (chars_at b) (square b) rest)
        (end_fine a (to (end_shapes (chars_at b) (stop (Some (square b)) ∷ rest))) h
        (to_fine (end_shapes (chars_at b) (stop (Some (square b)) ∷ rest))
        (end_fine b (stop (Some (square b)) ∷ rest) k (stop_fine (square b) rest fine))));
    longer = λ rest.
        let x : length (stop (Some (square b)) ∷ rest) < length (end_shapes (chars_at b) (stop (Some (square b)) ∷ rest)) = end_longer b (stop (Some (square b)) ∷ rest) in
        let y : length (to (end_shapes (chars_at b) (stop (Some (square b)) ∷ rest))) < length (ends (chars_at a) (chars_at b) (square b) rest)
        = end_longer a (to (end_shapes (chars_at b) (stop (Some (square b)) ∷ rest))) in
        omega arith;
    reads = λ end df own_field cs sign os rest behind at.
        range_step (or_setting fields) most end df own_field cs sign os f (square a) (square b) (chars_at a) (chars_at b) rest (query.Range f a b)
        (end_number a h) (end_number b k) (range_same a b h k some) at;
  }

  pub part_range : (d : ℕ) (a b : End) → IsNamed fields f → IsEnd fields f a → IsEnd fields f b → (is_open a && is_open b) ≡ false → Part fields most d (query.Range f a b)
  part_range d a b named h k some = part_named fields most f (query.Range f a b) (spelled_from fields f named) (range_value a b h k some) d
