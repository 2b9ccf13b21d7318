-- A printed prefix.
use Rattle.std.proofs.Common.{◌≡◌, ◌<◌, ◌≤◌, ◌++◌, ◌∷◌, [], ℕ, List, Bool, true, false, not, Option, None, refl, ap, sym, ◌∙◌, arith, cond, codes, length-append, ⊎_elim}
use Rattle.std.specs.Prelude.{◌||◌, ◌&&◌, ◌==◌, nat_le, encode_utf8, if◌then◌else◌}
use Rattle.std.specs.List.{flat_map}
use Rattle.std.specs.Char.{is_ascii_alphanumeric}
use Rattle.std.specs.Str.{chars}
use lib.Utf8.{encodes, scalars, scalar}
use Rattle.std.proofs.lemmas.List.{append_assoc}
use Rattle.std.proofs.lemmas.Bool.{and_parts, and_from, or_parts, or_cases, or_from, ne_eqb, not-true, not_from_false, eqb-true, leb-true, lt-leb, agree_below_at, cases_lt, cases_Bool, true≢false, false_from_ne_true}
use Rattle.std.proofs.lemmas.Bool.Decides.{nat_tests}
use Rattle.std.proofs.lemmas.Str.{encode_ascii, encodes-chars, scalars-chars}
use Rattle.field_schema.specs.declared.field.Field.{Field}
use Rattle.field_schema.specs.Bytes.{bytes_eq}
use Rattle.field_schema.specs.Laws.{bytes_eq-same}
use Rattle.query_tree.specs.declared.query.Query.TheVariants as query
use Rattle.query_tree.specs.declared.query.Query.TheOpen as node
use Rattle.query_tree.specs.declared.query.Query.TheViews as views
use Rattle.query_lexemes.specs.declared.lexeme.Operator.{Operator}
use Rattle.query_lexemes.specs.Letters.{goes_on, begins_word, is_white, is_special, is_plus, has_escape}
use Rattle.query_lexemes.specs.Lexemes.{operator_of, operator_named}
use Rattle.query_lexemes.proofs.Shapes.{Shape, lay, letter, chars_of, AllAre, spelled, text_is}
use Rattle.query_lexemes.proofs.Pieces.{own, IsWord}
use Rattle.query_text.specs.Printing.{is_plain, escaped_char, is_operator, escaped}
use Rattle.query_text.specs.PrintLaws.{IsNamed, IsPrefix, PrefixPrintsBack}
use Rattle.query_text.proofs.Values.{prefix_step}
use Rattle.query_text.proofs.Whole.{bytes_of}
use Rattle.query_text.proofs.Parts.{IsFine, part_along, top_along}
use Rattle.query_text.proofs.Printed.{or_setting, Part, Value, part_named, spelled_from, spelled_chars}
use Rattle.query_text.proofs.Tops.{top_part}

-- ---- characters that are printed as they stand

far : (c k : ℕ) → 128 ≤ c → k < 128 → (c == k) ≡ false
far c k h l = ne_eqb c k (λ e. absurd (omega arith))

-- such a character goes on a word and begins one
pub record IsPlain (c : ℕ) : Type 0 where
  pub words : (is_white c || is_special c) ≡ false
  pub plus : is_plus c ≡ false
  pub slash : (c == 92) ≡ false
  pub amp : (c == 38) ≡ false
  pub bar : (c == 124) ≡ false

low : (p : ℕ → Bool) (c : ℕ) → Rattle.std.proofs.lemmas.Bool.agree_below (λ d. is_plain d && p d) (λ d. false) 128 ≡ true → is_plain c ≡ true → c < 128 → p c ≡ false
low p c a h l =
    let e : (is_plain c && p c) ≡ false = agree_below_at (λ d. is_plain d && p d) (λ d. false) 128 c a l in
    rw h at e

plain_low : (c : ℕ) → is_plain c ≡ true → c < 128 → IsPlain c
plain_low c h l = record {
  words = low (λ d. is_white d || is_special d) c refl h l;
  plus = low is_plus c refl h l;
  slash = low (λ d. d == 92) c refl h l;
  amp = low (λ d. d == 38) c refl h l;
  bar = low (λ d. d == 124) c refl h l;
}

no_wide_space : (c : ℕ) → is_plain c ≡ true → 128 ≤ c → (c == 12288) ≡ false
no_wide_space c h m =
    ⊎_elim (λ (a : is_ascii_alphanumeric c ≡ true). absurd (grind (arith, nat_tests)))
    (λ (b : (nat_le 128 c && not (c == 12288)) ≡ true). not-true (c == 12288) (and_parts _ _ b).1)
    (or_cases _ _ h)

plain_high : (c : ℕ) → is_plain c ≡ true → 128 ≤ c → IsPlain c
plain_high c h m =
    let f : (k : ℕ) → k < 128 → (c == k) ≡ false = λ k l. far c k m l in
    record {
      words = rw (
        f 32 (omega arith),
        f 9 (omega arith),
        f 10 (omega arith),
        f 13 (omega arith),
        no_wide_space c h m,
        f 33 (omega arith),
        f 40 (omega arith),
        f 41 (omega arith),
        f 58 (omega arith),
        f 94 (omega arith),
        f 91 (omega arith),
        f 93 (omega arith),
        f 34 (omega arith),
        f 123 (omega arith),
        f 125 (omega arith),
        f 126 (omega arith),
        f 42 (omega arith),
        f 63 (omega arith),
        f 92 (omega arith),
        f 47 (omega arith),
      ) refl;
      plus = rw (f 43 (omega arith), f 45 (omega arith)) refl;
      slash = f 92 (omega arith);
      amp = f 38 (omega arith);
      bar = f 124 (omega arith);
    }

plain : (c : ℕ) → is_plain c ≡ true → IsPlain c
plain c h = ⊎_elim (λ l. plain_low c h l) (λ m. plain_high c h m) (cases_lt c 128)

-- ---- the characters of a prefix

-- a character, behind `\` where that is asked for or it does not stand for itself
abbrev at_least : Bool → ℕ → Shape
at_least b c = record { code = c; escaped = b || not (is_plain c) }

abbrev escaping : List ℕ → List Shape
escaping [] = []
escaping (c ∷ cs) = at_least false c ∷ escaping cs

shape_goes_on : (b : Bool) (c : ℕ) (at : ℕ) → goes_on (letter at (at_least b c)) ≡ true
shape_goes_on true c at = refl
shape_goes_on false c at = by (is_plain c) refl
  where
    by : (p : Bool) → is_plain c ≡ p → (not p || not (is_white c || is_special c)) ≡ true
    by false e = refl
    by true e = rw ((plain c e).words) refl

shape_begins : (b : Bool) (c : ℕ) (at : ℕ) → begins_word (letter at (at_least b c)) ≡ true
shape_begins true c at = refl
shape_begins false c at = by (is_plain c) refl
  where
    by : (p : Bool) → is_plain c ≡ p → ((not p || not (is_white c || is_special c)) && (not p || not (is_plus c))) ≡ true
    by false e = refl
    by true e = rw ((plain c e).words, (plain c e).plus) refl

shape_sound : (b : Bool) (c : ℕ) → ((b || not (is_plain c)) || not (c == 92)) ≡ true
shape_sound true c = refl
shape_sound false c = by (is_plain c) refl
  where
    by : (p : Bool) → is_plain c ≡ p → (not p || not (c == 92)) ≡ true
    by false e = refl
    by true e = rw ((plain c e).slash) refl

all_go_on : (cs : List ℕ) → AllAre goes_on (escaping cs)
all_go_on [] = tt
all_go_on (c ∷ cs) = (shape_goes_on false c, all_go_on cs)

spelled_escaping : (cs : List ℕ) → spelled (escaping cs) ≡ flat_map encode_utf8 cs
spelled_escaping [] = refl
spelled_escaping (c ∷ cs) = ap (λ (bs : List ℕ). encode_utf8 c ++ bs) (spelled_escaping cs)

-- ---- its text

shape_bytes : (p : Bool) (c : ℕ) (ss : List Shape)
    → encodes (cond (not p) (92 ∷ c ∷ chars_of ss) (c ∷ chars_of ss)) ≡ (if p then encode_utf8 c else 92 ∷ encode_utf8 c) ++ bytes_of ss
shape_bytes true c ss = refl
shape_bytes false c ss = rw (encode_ascii 92 (omega arith)) refl

escaping_bytes : (cs : List ℕ) (ss : List Shape) → bytes_of (escaping cs ++ ss) ≡ flat_map escaped_char cs ++ bytes_of ss
escaping_bytes [] ss = refl
escaping_bytes (c ∷ cs) ss =
    shape_bytes (is_plain c) c (escaping cs ++ ss)
    ∙ ap (λ (bs : List ℕ). escaped_char c ++ bs) (escaping_bytes cs ss)
    ∙ sym (append_assoc (escaped_char c) (flat_map escaped_char cs) (bytes_of ss))

shape_real : (b : Bool) (c : ℕ) (cs : List ℕ) → scalar c ≡ true → scalars cs ≡ true → scalars (cond b (92 ∷ c ∷ cs) (c ∷ cs)) ≡ true
shape_real true c cs h k = and_from _ _ h k
shape_real false c cs h k = and_from _ _ h k

shape_fine : (b : Bool) (c : ℕ) (ss : List Shape) → scalar c ≡ true → IsFine ss → IsFine (at_least b c ∷ ss)
shape_fine b c ss h fine = ((shape_sound b c, fine.0), shape_real (b || not (is_plain c)) c (chars_of ss) h fine.1)

escaping_fine : (cs : List ℕ) (ss : List Shape) → scalars cs ≡ true → IsFine ss → IsFine (escaping cs ++ ss)
escaping_fine [] ss h fine = fine
escaping_fine (c ∷ cs) ss h fine =
    let p : (scalar c ≡ true) × (scalars cs ≡ true) = and_parts _ _ h in
    shape_fine false c (escaping cs ++ ss) p.0 (escaping_fine cs ss p.1 fine)

-- ---- operators

first_of_texts : List ℕ → ℕ
first_of_texts [] = 0
first_of_texts (c ∷ cs) = c

-- a text that is another begins with its first character
begins_with : (text other : List ℕ) (c : ℕ) (cs : List ℕ) → bytes_eq text other ≡ true → chars text ≡ c ∷ cs → c ≡ first_of_texts (chars other)
unfolding first_of_texts
begins_with text other c cs h e = ap first_of_texts (sym e ∙ ap chars (bytes_eq-same text other h))

no_operator : (b : Bool) → cond {A = Option Operator} b None None ≡ None
no_operator true = refl
no_operator false = refl

module _ (text : List ℕ) (c : ℕ) (cs : List ℕ) (e : chars text ≡ c ∷ cs) where
  -- an operator begins with a letter
  operator_plain : is_operator text ≡ true → is_plain c ≡ true
  unfolding chars first_of_texts
  operator_plain h =
      ⊎_elim
      (λ r. ⊎_elim (λ a. rw (begins_with text (codes "AND") c cs a e) refl) (λ o. rw (begins_with text (codes "OR") c cs o e) refl)
      (or_cases (bytes_eq text (codes "AND")) (bytes_eq text (codes "OR")) r))
      (λ n. rw (begins_with text (codes "NOT") c cs n e) refl)
      (or_cases (bytes_eq text (codes "AND") || bytes_eq text (codes "OR")) (bytes_eq text (codes "NOT")) h)

  no_amp : is_plain c ≡ true → bytes_eq text (codes "&&") ≡ false
  unfolding chars first_of_texts
  no_amp p = false_from_ne_true _ (λ h. let f : (c == 38) ≡ false = (plain c p).amp in absurd (true≢false (rw (begins_with text (codes "&&") c cs h e) at f)))

  no_bar : is_plain c ≡ true → bytes_eq text (codes "||") ≡ false
  unfolding chars first_of_texts
  no_bar p = false_from_ne_true _ (λ h. let f : (c == 124) ≡ false = (plain c p).bar in absurd (true≢false (rw (begins_with text (codes "||") c cs h e) at f)))

  none_named : is_plain c ≡ true → is_operator text ≡ false → operator_named text ≡ None
  none_named p h =
      let a : ((bytes_eq text (codes "AND") || bytes_eq text (codes "OR")) ≡ false) × (bytes_eq text (codes "NOT") ≡ false) = or_parts _ _ h in
      let b : (bytes_eq text (codes "AND") ≡ false) × (bytes_eq text (codes "OR") ≡ false) = or_parts _ _ a.0 in
      rw (b.0, no_amp p, b.1, no_bar p, a.1) refl

  -- ---- the word

  plain_word : (b : Bool) → is_operator text ≡ b → flat_map encode_utf8 (c ∷ cs) ≡ text → (at : ℕ) → operator_of (lay at (at_least b c ∷ escaping cs)) ≡ None
  unfolding operator_of
  plain_word true o same at = refl
  plain_word false o same at = by (is_plain c) refl
    where
      by : (p : Bool) → is_plain c ≡ p → operator_of (lay at (at_least false c ∷ escaping cs)) ≡ None
      by false f = rw f refl
      by true f =
          rw (text_is (at_least false c ∷ escaping cs) at, spelled_escaping (c ∷ cs), same, none_named f o)
          (no_operator (has_escape (lay at (at_least false c ∷ escaping cs))))

  is_word : (b : Bool) → is_operator text ≡ b → flat_map encode_utf8 (c ∷ cs) ≡ text → IsWord (at_least b c) (escaping cs)
  is_word b o same = record {
    begins = shape_begins b c;
    goes_on = (shape_goes_on b c, all_go_on cs);
    plain = plain_word b o same;
  }

  prefix_bytes : (b : Bool) → is_operator text ≡ b → (ss : List Shape) → bytes_of ((at_least b c ∷ escaping cs) ++ ss) ≡ escaped text ++ bytes_of ss
  unfolding escaped
  prefix_bytes true o ss =
      let p : is_plain c ≡ true = operator_plain o in
      rw (o, e, encode_ascii 92 (omega arith), escaping_bytes cs ss, p) (ap (λ (bs : List ℕ). 92 ∷ bs) (sym (append_assoc (encode_utf8 c) (flat_map escaped_char cs) (bytes_of ss))))
  prefix_bytes false o ss = rw (o, e) (escaping_bytes (c ∷ cs) ss)

module _ (fields : List Field) (most f : ℕ) (text : List ℕ) (h : IsPrefix fields f text) where
  prefix_from : (cs : List ℕ) → chars text ≡ cs → Value fields most f (query.Prefix f text)
  prefix_from [] e =
      let back : encodes [] ≡ text = ap encodes (sym e) ∙ encodes-chars text h.utf8 in
      absurd (true≢false (rw (sym back) at (sym h.some)))
  prefix_from (c ∷ cs) e =
      let b : Bool = is_operator text in
      let real : scalars (c ∷ cs) ≡ true = ap scalars (sym e) ∙ scalars-chars text h.utf8 in
      let parts : (scalar c ≡ true) × (scalars cs ≡ true) = and_parts _ _ real in
      let same : flat_map encode_utf8 (c ∷ cs) ≡ text = ap (λ (ds : List ℕ). flat_map encode_utf8 ds) (sym e) ∙ spelled_chars text h.utf8 in
      record {
        shapes = λ rest. (at_least (is_operator text) c ∷ escaping cs) ++ own 42 ∷ rest;
        text = escaped text ++ codes "*";
        prints = part_along fields (query.Prefix f text) (node.Prefix f text) (views.outs-Prefix f text) ∙ append_assoc _ (escaped text) (codes "*");
        writes = λ rest.
            prefix_bytes text c cs e (is_operator text) refl (own 42 ∷ rest)
            ∙ ap (λ (bs : List ℕ). escaped text ++ bs) (rw (encode_ascii 42 (omega arith)) refl)
            ∙ sym (append_assoc (escaped text) (codes "*") (bytes_of rest));
        fine = λ rest fine. shape_fine (is_operator text) c (escaping cs ++ own 42 ∷ rest) parts.0 (escaping_fine cs (own 42 ∷ rest) parts.1 ((refl, fine.0), fine.1));
        longer = λ rest. omega (arith, length-append (escaping cs) (own 42 ∷ rest));
        reads = λ end df own_field clauses sign os rest behind at.
            prefix_step (or_setting fields) most end df own_field clauses sign os f (at_least (is_operator text) c) (escaping cs) rest (query.Prefix f text) h.kind
            (rw (spelled_escaping cs, same) (ap (λ (t : List ℕ). query.Prefix f t) h.lower))
            (is_word text c cs e (is_operator text) refl same) behind at;
      }

  pub part_prefix : (d : ℕ) → IsNamed fields f → Part fields most d (query.Prefix f text)
  part_prefix d named = part_named fields most f (query.Prefix f text) (spelled_from fields f named) (prefix_from (chars text) refl) d

pub prefix_prints : (fields : List Field) → PrefixPrintsBack fields
prefix_prints fields most f text room named h =
    top_part fields most 0 (query.Prefix f text) (part_prefix fields most f text h 0 named) (omega arith) room
    (top_along fields (query.Prefix f text) (node.Prefix f text) (views.outs-Prefix f text))
