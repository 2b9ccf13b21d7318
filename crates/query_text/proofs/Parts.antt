-- The queries that have no parts print to texts that read to them.
use Rattle.std.proofs.Common.{◌≡◌, ◌++◌, ◌∷◌, [], ℕ, List, Bool, true, false, not, cond, refl, ap, ◌∙◌, arith, codes}
use Rattle.std.specs.Prelude.{◌||◌, ◌&&◌, ◌==◌, encode_utf8}
use Rattle.std.specs.List.{flat_map, list_all}
use lib.Utf8.{encodes, encode, scalars, scalar}
use Rattle.std.proofs.lemmas.List.{append_assoc}
use Rattle.std.proofs.lemmas.Bool.{and_parts, and_from, agree_below_at}
use Rattle.std.proofs.lemmas.Str.{chars-encodes, encodes-append, encode_ascii}
use Rattle.field_schema.specs.declared.field.Field.{Field}
use Rattle.field_schema.specs.declared.key.Key.{Key}
use Rattle.field_schema.specs.Names.{is_name_byte}
use Rattle.query_tree.specs.declared.query.Query.{Query, Query-F, fold_out-Query, out-Query}
use Rattle.query_tree.specs.declared.query.Query.TheFolds.{map-Query}
use Rattle.query_tree.specs.declared.query.Query.TheOpen as node
use Rattle.query_tree.specs.declared.query.Query.TheViews as views
use Rattle.query_tree.specs.declared.query.Query.TheVariants as query
use Rattle.query_lexemes.proofs.Shapes.{Shape, chars_of, IsSound}
use Rattle.query_lexemes.proofs.Pieces.{own, quoting, in_quotes}
use Rattle.query_text.specs.Printing.{named, quoted_char, key_text, spaced, layer_text, part_text, top_text, printed}
use Rattle.query_text.specs.Printing.{in_quotes as quoted_text}
use Rattle.query_text.proofs.Names.{bare, below}
use Rattle.query_text.proofs.Whole.{bytes_of}

-- ---- texts of pieces

chars_bare : (cs : List ℕ) (ss : List Shape) → chars_of (bare cs ++ ss) ≡ cs ++ chars_of ss
chars_bare [] ss = refl
chars_bare (c ∷ cs) ss = ap (λ (ds : List ℕ). c ∷ ds) (chars_bare cs ss)

-- `\` before `"` and `\`, as characters
abbrev marked : List ℕ → List ℕ
marked [] = []
marked (c ∷ cs) = cond (c == 34 || c == 92) (92 ∷ c ∷ marked cs) (c ∷ marked cs)

by_mark_chars : (b : Bool) (c : ℕ) (a d rest : List ℕ) → a ≡ d ++ rest → cond b (92 ∷ c ∷ a) (c ∷ a) ≡ cond b (92 ∷ c ∷ d) (c ∷ d) ++ rest
by_mark_chars true c a d rest e = ap (λ (ds : List ℕ). 92 ∷ c ∷ ds) e
by_mark_chars false c a d rest e = ap (λ (ds : List ℕ). c ∷ ds) e

chars_quoting : (cs : List ℕ) (ss : List Shape) → chars_of (quoting cs ++ ss) ≡ marked cs ++ chars_of ss
chars_quoting [] ss = refl
chars_quoting (c ∷ cs) ss = by_mark_chars (c == 34 || c == 92) c (chars_of (quoting cs ++ ss)) (marked cs) (chars_of ss) (chars_quoting cs ss)

by_mark_text : (b : Bool) (c : ℕ) (a t : List ℕ) → encodes a ≡ t → encodes (cond b (92 ∷ c ∷ a) (c ∷ a)) ≡ cond b (92 ∷ encode_utf8 c) (encode_utf8 c) ++ t
by_mark_text true c a t e = rw (encode_ascii 92 (omega arith)) (ap (λ (bs : List ℕ). 92 ∷ (encode_utf8 c ++ bs)) e)
by_mark_text false c a t e = ap (λ (bs : List ℕ). encode_utf8 c ++ bs) e

marked_text : (cs : List ℕ) → encodes (marked cs) ≡ flat_map quoted_char cs
marked_text [] = refl
marked_text (c ∷ cs) = by_mark_text (c == 34 || c == 92) c (marked cs) (flat_map quoted_char cs) (marked_text cs)

pub quotes_text : (cs : List ℕ) (ss : List Shape) → scalars cs ≡ true → bytes_of (in_quotes cs ss) ≡ quoted_text (encodes cs) ++ bytes_of ss
unfolding quoted_text
quotes_text cs ss h =
    rw (
      chars_quoting cs (own 34 ∷ ss),
      encodes-append (marked cs) (34 ∷ chars_of ss),
      marked_text cs,
      encode_ascii 34 (omega arith),
      chars-encodes cs h,
      append_assoc (flat_map quoted_char cs) (34 ∷ []) (bytes_of ss),
    ) refl

encodes_name : (cs : List ℕ) → list_all is_name_byte cs ≡ true → encodes cs ≡ cs
encodes_name [] h = refl
encodes_name (c ∷ cs) h =
    let p : (is_name_byte c ≡ true) × (list_all is_name_byte cs ≡ true) = and_parts _ _ h in
    rw (encode_ascii c (below c p.0), encodes_name cs p.1) refl

pub name_text : (cs : List ℕ) (ss : List Shape) → list_all is_name_byte cs ≡ true → bytes_of (bare cs ++ own 58 ∷ ss) ≡ (cs ++ codes ":") ++ bytes_of ss
name_text cs ss h =
    rw (chars_bare cs (own 58 ∷ ss), encodes-append cs (58 ∷ chars_of ss), encodes_name cs h, encode_ascii 58 (omega arith), append_assoc cs (58 ∷ []) (bytes_of ss)) refl

-- ---- sound characters

abbrev pub IsFine : List Shape → Type 0
IsFine ss = IsSound ss × (scalars (chars_of ss) ≡ true)

name_scalar : (c : ℕ) → is_name_byte c ≡ true → scalar c ≡ true
name_scalar c h = agree_below_at scalar (λ c. true) 128 c refl (below c h)

name_no_escape : (c : ℕ) → is_name_byte c ≡ true → not (c == 92) ≡ true
name_no_escape c h =
    let e : (is_name_byte c && (c == 92)) ≡ false = agree_below_at (λ c. is_name_byte c && (c == 92)) (λ c. false) 128 c refl (below c h) in
    let n : (c == 92) ≡ false = rw h at e in
    rw n refl

pub fine_name : (cs : List ℕ) (ss : List Shape) → list_all is_name_byte cs ≡ true → IsFine ss → IsFine (bare cs ++ ss)
fine_name [] ss h fine = fine
fine_name (c ∷ cs) ss h fine =
    let p : (is_name_byte c ≡ true) × (list_all is_name_byte cs ≡ true) = and_parts _ _ h in
    let r : IsFine (bare cs ++ ss) = fine_name cs ss p.1 fine in
    ((name_no_escape c p.0, r.0), and_from _ _ (name_scalar c p.0) r.1)

quote_sound : (a b : Bool) → ((a || b) || not b) ≡ true
quote_sound true b = refl
quote_sound false true = refl
quote_sound false false = refl

by_mark_real : (b : Bool) (c : ℕ) (a : List ℕ) → scalar c ≡ true → scalars a ≡ true → scalars (cond b (92 ∷ c ∷ a) (c ∷ a)) ≡ true
by_mark_real true c a h k = and_from _ _ h k
by_mark_real false c a h k = and_from _ _ h k

fine_quoting : (cs : List ℕ) (ss : List Shape) → scalars cs ≡ true → IsFine ss → IsFine (quoting cs ++ ss)
fine_quoting [] ss h fine = fine
fine_quoting (c ∷ cs) ss h fine =
    let p : (scalar c ≡ true) × (scalars cs ≡ true) = and_parts _ _ h in
    let r : IsFine (quoting cs ++ ss) = fine_quoting cs ss p.1 fine in
    ((quote_sound (c == 34) (c == 92), r.0), by_mark_real (c == 34 || c == 92) c (chars_of (quoting cs ++ ss)) p.0 r.1)

-- an ASCII character that stands for itself, in front
pub fine_quotes : (cs : List ℕ) (ss : List Shape) → scalars cs ≡ true → IsFine ss → IsFine (in_quotes cs ss)
fine_quotes cs ss h fine =
    let r : IsFine (quoting cs ++ own 34 ∷ ss) = fine_quoting cs (own 34 ∷ ss) h ((refl, fine.0), fine.1) in
    ((refl, r.0), r.1)

-- ---- printed texts

module _ (fields : List Field) where
  pub part_along : (q : Query) (layer : Query-F Query) → out-Query q ≡ layer → part_text fields q ≡ layer_text fields (map-Query Query (List ℕ) (part_text fields) layer)
  part_along q layer e = fold_out-Query (List ℕ) (layer_text fields) q ∙ ap (λ x. layer_text fields (map-Query Query (List ℕ) (part_text fields) x)) e

  pub top_along : (q : Query) (layer : Query-F Query) → out-Query q ≡ layer → printed fields q ≡ top_text fields q layer
  top_along q layer e = ap (top_text fields q) e

  pub printed_all : printed fields query.All ≡ codes "*:*"
  printed_all = top_along query.All node.All views.outs-All ∙ part_along query.All node.All views.outs-All

  pub printed_exists : (f : ℕ) → printed fields (query.Exists f) ≡ named fields f ++ codes "*"
  printed_exists f = top_along (query.Exists f) (node.Exists f) (views.outs-Exists f) ∙ part_along (query.Exists f) (node.Exists f) (views.outs-Exists f)

  pub printed_term : (f : ℕ) (k : Key) → printed fields (query.Term f k) ≡ named fields f ++ quoted_text (key_text k)
  printed_term f k = top_along (query.Term f k) (node.Term f k) (views.outs-Term f k) ∙ part_along (query.Term f k) (node.Term f k) (views.outs-Term f k)

  pub printed_words : (f : ℕ) (ws : List (List ℕ)) → printed fields (query.Words f ws) ≡ named fields f ++ quoted_text (spaced ws)
  printed_words f ws = top_along (query.Words f ws) (node.Words f ws) (views.outs-Words f ws) ∙ part_along (query.Words f ws) (node.Words f ws) (views.outs-Words f ws)
