-- What the pieces of a printed text are as lexemes, at any place and before any rest that goes on none of them.
use Rattle.std.proofs.Common.{◌≡◌, ◌+◌, ◌++◌, ◌∷◌, [], ℕ, List, Bool, true, false, not, None, refl, ap}
use Rattle.std.specs.Prelude.{◌||◌, ◌&&◌, ◌==◌, encode_utf8}
use Rattle.std.specs.List.{flat_map}
use Rattle.query_lexemes.specs.declared.letter.Class.TheVariants as class
use Rattle.query_lexemes.specs.declared.lexeme.What.TheVariants as what
use Rattle.query_lexemes.specs.Letters.{belongs, skip, at_front, stands, spoils, begins_word, goes_on, is_blank}
use Rattle.query_lexemes.specs.Lexemes.{right, lexeme, special, quoted, star, begins_other, word, plain_word, prefix, operator_of}
use Rattle.query_lexemes.proofs.Shapes.{Shape, letter, lay, end_of, AllAre, Stops, run_is, past_is, spelled, text_is}

-- a character that stands for itself
abbrev pub own : ℕ → Shape
own c = record { code = c; escaped = false }

-- ---- one character

pub required_is : (end at : ℕ) (rest : List Shape) → lexeme end (lay at (own 43 ∷ rest)) ≡ (right at (what.Sign false), lay (at + 1) rest)
unfolding lexeme special
required_is end at rest = refl

pub prohibited_is : (end at : ℕ) (rest : List Shape) → lexeme end (lay at (own 45 ∷ rest)) ≡ (right at (what.Sign true), lay (at + 1) rest)
unfolding lexeme special
prohibited_is end at rest = refl

pub opening_is : (end at : ℕ) (rest : List Shape) → lexeme end (lay at (own 40 ∷ rest)) ≡ (right at what.Opening, lay (at + 1) rest)
unfolding lexeme special
opening_is end at rest = refl

pub closing_is : (end at : ℕ) (rest : List Shape) → lexeme end (lay at (own 41 ∷ rest)) ≡ (right at what.Closing, lay (at + 1) rest)
unfolding lexeme special
closing_is end at rest = refl

pub finish_is : (end at : ℕ) → lexeme end (lay at []) ≡ (right end what.Finish, [])
unfolding lexeme
finish_is end at = refl

-- ---- white space

pub nothing_skipped : (rest : List Shape) (at : ℕ) → Stops is_blank rest → skip (lay at rest) ≡ lay at rest
nothing_skipped rest at h = past_is class.Blank [] rest at tt h

pub space_skipped : (rest : List Shape) (at : ℕ) → Stops is_blank rest → skip (lay at (own 32 ∷ rest)) ≡ lay (at + 1) rest
space_skipped rest at h = past_is class.Blank (own 32 ∷ []) rest at ((λ at. refl), tt) h

-- ---- quoted texts

-- `\` before `"` and `\`
abbrev pub quoting : List ℕ → List Shape
quoting [] = []
quoting (c ∷ cs) = record { code = c; escaped = c == 34 || c == 92 } ∷ quoting cs

quote_belongs : (a b : Bool) → not ((not (a || b) && a) || (not (a || b) && b)) ≡ true
quote_belongs true b = refl
quote_belongs false true = refl
quote_belongs false false = refl

pub quoting_belongs : (cs : List ℕ) → AllAre (belongs class.Quote) (quoting cs)
quoting_belongs [] = tt
quoting_belongs (c ∷ cs) = ((λ at. quote_belongs (c == 34) (c == 92)), quoting_belongs cs)

pub spelled_quoting : (cs : List ℕ) → spelled (quoting cs) ≡ flat_map encode_utf8 cs
spelled_quoting [] = refl
spelled_quoting (c ∷ cs) = ap (λ (bs : List ℕ). encode_utf8 c ++ bs) (spelled_quoting cs)

-- a text in quotes
abbrev pub in_quotes : List ℕ → List Shape → List Shape
in_quotes cs rest = own 34 ∷ (quoting cs ++ own 34 ∷ rest)

-- the place behind it
abbrev pub behind_quotes : ℕ → List ℕ → ℕ
behind_quotes at cs = end_of (at + 1) (quoting cs) + 1

pub quoted_is : (end at : ℕ) (cs : List ℕ) (rest : List Shape)
    → lexeme end (lay at (in_quotes cs rest)) ≡ (right at (what.Quoted (flat_map encode_utf8 cs)), lay (behind_quotes at cs) rest)
unfolding lexeme special quoted
quoted_is end at cs rest =
    rw (
      past_is class.Quote (quoting cs) (own 34 ∷ rest) (at + 1) (quoting_belongs cs) (λ at. refl),
      run_is class.Quote (quoting cs) (own 34 ∷ rest) (at + 1) (quoting_belongs cs) (λ at. refl),
      text_is (quoting cs) (at + 1),
      spelled_quoting cs,
    ) refl

-- ---- `*`

-- what stands behind a value: it goes on no `*`
pub record IsBehind (rest : List Shape) : Type 0 where
  pub colon : (at : ℕ) → at_front (stands 58) (skip (lay at rest)) ≡ false
  pub spoils : (at : ℕ) → at_front spoils (lay at rest) ≡ false

pub every_is : (end at : ℕ) (rest : List Shape)
    → lexeme end (lay at (own 42 ∷ own 58 ∷ own 42 ∷ rest)) ≡ (right at (what.Any (at + 1) false), lay (at + 1 + 1) (own 42 ∷ rest))
unfolding lexeme special star begins_other
every_is end at rest =
    rw (nothing_skipped (own 58 ∷ own 42 ∷ rest) (at + 1) (λ at. refl), nothing_skipped (own 42 ∷ rest) (at + 1 + 1) (λ at. refl)) refl

pub star_is : (end at : ℕ) (rest : List Shape) → IsBehind rest → lexeme end (lay at (own 42 ∷ rest)) ≡ (right at what.Star, lay (at + 1) rest)
unfolding lexeme special star
star_is end at rest h = rw (h.colon (at + 1), h.spoils (at + 1)) refl

-- ---- words

-- a word that is no operator
pub record IsWord (s : Shape) (ss : List Shape) : Type 0 where
  pub begins : (at : ℕ) → begins_word (letter at s) ≡ true
  pub goes_on : AllAre goes_on (s ∷ ss)
  pub plain : (at : ℕ) → operator_of (lay at (s ∷ ss)) ≡ None

pub name_is : (end at : ℕ) (s : Shape) (ss rest : List Shape) → IsWord s ss
    → lexeme end (lay at ((s ∷ ss) ++ own 58 ∷ rest)) ≡ (right at (what.Name (spelled (s ∷ ss)) (end_of at (s ∷ ss))), lay (end_of at (s ∷ ss) + 1) rest)
unfolding lexeme word plain_word
name_is end at s ss rest h =
    rw (
      h.begins at,
      past_is class.Word (s ∷ ss) (own 58 ∷ rest) at h.goes_on (λ at. refl),
      run_is class.Word (s ∷ ss) (own 58 ∷ rest) at h.goes_on (λ at. refl),
      h.plain at,
      nothing_skipped (own 58 ∷ rest) (end_of at (s ∷ ss)) (λ at. refl),
      text_is (s ∷ ss) at,
    ) refl

pub prefix_is : (end at : ℕ) (s : Shape) (ss rest : List Shape) → IsWord s ss → IsBehind rest
    → lexeme end (lay at ((s ∷ ss) ++ own 42 ∷ rest)) ≡ (right at (what.Prefix (spelled (s ∷ ss))), lay (end_of at (s ∷ ss) + 1) rest)
unfolding lexeme word plain_word prefix
prefix_is end at s ss rest h b =
    rw (
      h.begins at,
      past_is class.Word (s ∷ ss) (own 42 ∷ rest) at h.goes_on (λ at. refl),
      run_is class.Word (s ∷ ss) (own 42 ∷ rest) at h.goes_on (λ at. refl),
      h.plain at,
      text_is (s ∷ ss) at,
      b.spoils (end_of at (s ∷ ss) + 1),
    ) refl
