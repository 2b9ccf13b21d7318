-- A field's name is a word that is no operator.
use Rattle.std.proofs.Common.{◌≡◌, ◌+◌, ◌<◌, ◌∷◌, [], ℕ, List, true, false, None, refl, arith}
use Rattle.std.specs.Prelude.{◌||◌, ◌&&◌, ◌==◌, codes, nat_le, length}
use Rattle.std.specs.List.{list_all, list_any}
use Rattle.std.proofs.lemmas.Bool.{and_parts, or_parts, agree_below_at, not-true}
use Rattle.std.proofs.lemmas.Bool.Decides.{nat_tests}
use Rattle.std.proofs.lemmas.Str.{encode_ascii}
use Rattle.field_schema.specs.Bytes.{bytes_eq}
use Rattle.field_schema.specs.Names.{is_name_byte, begins_name, is_field_name, reserved_names}
use Rattle.query_lexemes.specs.Letters.{goes_on, is_white, is_special, is_plus, has_escape}
use Rattle.query_lexemes.specs.Lexemes.{operator_of, operator_named}
use Rattle.query_lexemes.proofs.Shapes.{Shape, lay, width, AllAre, spelled, text_is}
use Rattle.query_lexemes.proofs.Pieces.{own, IsWord}

-- characters that stand for themselves
abbrev pub bare : List ℕ → List Shape
bare [] = []
bare (c ∷ cs) = own c ∷ bare cs

pub below : (c : ℕ) → is_name_byte c ≡ true → c < 128
below c h = grind (arith, nat_tests)

-- a name's byte is neither white space nor special
named_plain : (c : ℕ) → is_name_byte c ≡ true → (is_white c || is_special c) ≡ false
named_plain c h =
    let e : (is_name_byte c && (is_white c || is_special c)) ≡ false
    = agree_below_at (λ c. is_name_byte c && (is_white c || is_special c)) (λ c. false) 128 c refl (below c h) in
    rw h at e

named_no_plus : (c : ℕ) → is_name_byte c ≡ true → is_plus c ≡ false
named_no_plus c h =
    let e : (is_name_byte c && is_plus c) ≡ false = agree_below_at (λ c. is_name_byte c && is_plus c) (λ c. false) 128 c refl (below c h) in
    rw h at e

named_no_bar : (c : ℕ) → is_name_byte c ≡ true → (c == 38 || c == 124) ≡ false
named_no_bar c h =
    let e : (is_name_byte c && (c == 38 || c == 124)) ≡ false = agree_below_at (λ c. is_name_byte c && (c == 38 || c == 124)) (λ c. false) 128 c refl (below c h) in
    rw h at e

bare_goes_on : (cs : List ℕ) → list_all is_name_byte cs ≡ true → AllAre goes_on (bare cs)
bare_goes_on [] h = tt
bare_goes_on (c ∷ cs) h =
    let p : (is_name_byte c ≡ true) × (list_all is_name_byte cs ≡ true) = and_parts _ _ h in
    ((λ at. rw (named_plain c p.0) refl), bare_goes_on cs p.1)

bare_unescaped : (cs : List ℕ) (at : ℕ) → has_escape (lay at (bare cs)) ≡ false
bare_unescaped [] at = refl
bare_unescaped (c ∷ cs) at = bare_unescaped cs (at + width (own c))

pub spelled_bare : (cs : List ℕ) → list_all is_name_byte cs ≡ true → spelled (bare cs) ≡ cs
spelled_bare [] h = refl
spelled_bare (c ∷ cs) h =
    let p : (is_name_byte c ≡ true) × (list_all is_name_byte cs ≡ true) = and_parts _ _ h in
    rw (encode_ascii c (below c p.0), spelled_bare cs p.1) refl

-- what a name is
pub record IsName (c : ℕ) (cs : List ℕ) : Type 0 where
  pub bytes : list_all is_name_byte (c ∷ cs) ≡ true
  pub is_and : bytes_eq (c ∷ cs) (codes "AND") ≡ false
  pub is_or : bytes_eq (c ∷ cs) (codes "OR") ≡ false
  pub is_not : bytes_eq (c ∷ cs) (codes "NOT") ≡ false

pub name_from : (c : ℕ) (cs : List ℕ) → is_field_name (c ∷ cs) ≡ true → IsName c cs
name_from c cs h =
    let p = and_parts (begins_name (c ∷ cs) && nat_le (length (c ∷ cs)) 64 && list_all is_name_byte (c ∷ cs)) _ h in
    let q = and_parts (begins_name (c ∷ cs) && nat_le (length (c ∷ cs)) 64) _ p.0 in
    let n = not-true (list_any (bytes_eq (c ∷ cs)) reserved_names) p.1 in
    let a = or_parts _ _ n in
    let b = or_parts _ _ a.1 in
    let d = or_parts _ _ b.1 in
    let e = or_parts _ _ d.1 in
    let g = or_parts _ _ e.1 in
    record { bytes = q.1; is_and = d.0; is_or = e.0; is_not = g.0 }

no_operator : (c : ℕ) (cs : List ℕ) → IsName c cs → operator_named (c ∷ cs) ≡ None
no_operator c cs h =
    let p : (is_name_byte c ≡ true) × (list_all is_name_byte cs ≡ true) = and_parts _ _ h.bytes in
    let n : ((c == 38) ≡ false) × ((c == 124) ≡ false) = or_parts _ _ (named_no_bar c p.0) in
    let amp : bytes_eq (c ∷ cs) (codes "&&") ≡ false = rw n.0 refl in
    let bar : bytes_eq (c ∷ cs) (codes "||") ≡ false = rw n.1 refl in
    rw (h.is_and, amp, h.is_or, bar, h.is_not) refl

pub name_word : (c : ℕ) (cs : List ℕ) → IsName c cs → IsWord (own c) (bare cs)
unfolding operator_of
name_word c cs h =
    let p : (is_name_byte c ≡ true) × (list_all is_name_byte cs ≡ true) = and_parts _ _ h.bytes in
    record {
      begins = λ at. rw (named_plain c p.0, named_no_plus c p.0) refl;
      goes_on = bare_goes_on (c ∷ cs) h.bytes;
      plain = λ at. rw (bare_unescaped (c ∷ cs) at, text_is (bare (c ∷ cs)) at, spelled_bare (c ∷ cs) h.bytes) (no_operator c cs h);
    }
