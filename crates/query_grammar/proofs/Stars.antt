-- Where a value begins, the lexeme is one other than `*` exactly where `begins_other` says so.
use Rattle.std.proofs.Common.{◌≡◌, ◌∷◌, [], ℕ, List, Bool, true, false, not, Option, None, Some, Result, Ok, Err, refl, ap, sym, ◌∙◌}
use Rattle.std.specs.Prelude.{◌||◌, ◌&&◌, ◌==◌, is_none, if◌then◌else◌}
use Rattle.std.specs.Option.{option_map_or}
use Rattle.std.proofs.lemmas.Bool.{and_parts, and_from, and_right, or_parts, or_left, or_right, or_from, not_from_false, true≢false, eqb-true}
use Rattle.query_lexemes.specs.declared.letter.Letter.{Letter}
use Rattle.query_lexemes.specs.declared.fault.QueryFault.TheVariants as fault
use Rattle.query_lexemes.specs.declared.lexeme.Lexeme.{Lexeme}
use Rattle.query_lexemes.specs.declared.lexeme.What.{What}
use Rattle.query_lexemes.specs.declared.lexeme.What.TheVariants as what
use Rattle.query_lexemes.specs.declared.lexeme.Operator.{Operator}
use Rattle.query_lexemes.specs.declared.lexeme.Bound.{Bound}
use Rattle.query_lexemes.specs.Letters.{stands, begins_word, is_lone, at_front, skip}
use Rattle.query_lexemes.specs.Lexemes.{right, wrong, operator_of, is_filter, behind, prefix, plain_word, word, opens, is_value, begins_other, star, quoted, bound, between, range_close, range_to, range_between, range_from, range, special, lexeme}

-- what begins with letters of which b says whether a value other than `*` begins there
abbrev pub Tells : Bool → What → Type 0
Tells b (what.Word text) = b ≡ true
Tells b (what.Prefix text) = b ≡ true
Tells b (what.Quoted text) = b ≡ true
Tells b what.Star = b ≡ false
Tells b (what.Range low from to high) = b ≡ true
Tells b what.Opening = b ≡ true
Tells b w = Unit {0}

record Says (b : Bool) (p : Lexeme × List Letter) : Type 0 where
  it : Tells b p.0.what

either : (c b : Bool) (x y : Lexeme × List Letter) → (c ≡ true → Says b x) → (c ≡ false → Says b y) → Says b (if c then x else y)
either true b x y f g = f refl
either false b x y f g = g refl

both : (c u v : Bool) (x y : Lexeme × List Letter) → (c ≡ true → Says u x) → (c ≡ false → Says v y)
    → Says (if c then u else v) (if c then x else y)
both true u v x y f g = f refl
both false u v x y f g = g refl

module _ (end : ℕ) (b : Bool) (h : b ≡ true) where
  close_says : (at : ℕ) (low : Bool) (from to : Bound) (ls : List Letter) → Says b (range_close end at low from to ls)
  unfolding range_close
  close_says at low from to ls = either (at_front (stands 93) ls || at_front (stands 125) ls) b _ _ (λ e. record { it = h }) (λ e. record { it = tt })

  to_says : (at : ℕ) (low : Bool) (from : Bound) (r : Result (Bound × List Letter) ℕ) → Says b (range_to end at low from r)
  unfolding range_to
  to_says at low from (Err p) = record { it = tt }
  to_says at low from (Ok to) = close_says at low from to.0 (skip to.1)

  middle_says : (at : ℕ) (low : Bool) (from : Bound) (r : Result (List Letter) ℕ) → Says b (range_between end at low from r)
  unfolding range_between
  middle_says at low from (Err p) = record { it = tt }
  middle_says at low from (Ok rest) = to_says at low from (bound end rest)

  from_says : (at : ℕ) (low : Bool) (r : Result (Bound × List Letter) ℕ) → Says b (range_from end at low r)
  unfolding range_from
  from_says at low (Err p) = record { it = tt }
  from_says at low (Ok from) = middle_says at low from.0 (between end from.1)

  range_says : (at : ℕ) (low : Bool) (ls : List Letter) → Says b (range end at low ls)
  unfolding range
  range_says at low ls = from_says at low (bound end (skip ls))

  quotes_say : (c : Bool) (at : ℕ) (text : List ℕ) (rest : List Letter)
      → Says b (if c then (right at (what.Quoted text), rest) else (wrong at (what.Begun None None) (fault.Syntax end), []))
  quotes_say c at text rest = either c b _ _ (λ e. record { it = h }) (λ e. record { it = tt })

  quoted_says : (at : ℕ) (ls : List Letter) → Says b (quoted end at ls)
  unfolding quoted
  quoted_says at ls = quotes_say _ at _ _

-- ---- words

star_no_parenthesis : (ls : List Letter) → at_front (stands 42) ls ≡ true → at_front (stands 40) ls ≡ false
star_no_parenthesis [] h = refl
star_no_parenthesis (l ∷ ls) h =
    let p : (not l.escaped ≡ true) × ((l.code == 42) ≡ true) = and_parts _ _ h in
    let e : l.code ≡ 42 = eqb-true l.code 42 p.1 in
    and_right (not l.escaped) (l.code == 40) (rw e refl)

module _ (end : ℕ) where
  filter_star : (w rest : List Letter) → at_front (stands 42) rest ≡ true → not (is_filter w rest) ≡ true
  unfolding is_filter
  filter_star w rest h = not_from_false _ (and_right _ _ (star_no_parenthesis rest h))

  plain_says : (at : ℕ) (w rest : List Letter) → Says (not (is_filter w rest)) (plain_word end at w rest)
  unfolding plain_word prefix
  plain_says at w rest =
      either (at_front (stands 42) rest) _ _ _ (λ e. record { it = filter_star w rest e })
      (λ e. either (at_front (stands 58) (skip rest)) _ _ _ (λ e. record { it = tt })
      (λ e. either (is_filter w rest) _ _ _ (λ e. record { it = tt }) (λ e. record { it = not_from_false _ e })))

  named_says : (at : ℕ) (rest : List Letter) (o : Option Operator) (b : Bool) (d : Lexeme × List Letter) → Says b d
      → Says (is_none o && b) (option_map_or (λ p. (right at (what.Operator p (behind end rest)), rest)) o d)
  named_says at rest None b d k = k
  named_says at rest (Some p) b d k = record { it = tt }

  lone_says : (c b : Bool) (x y : Lexeme × List Letter) → Says true x → Says b y → Says (c || b) (if c then x else y)
  lone_says true b x y f g = f
  lone_says false b x y f g = g

  word_says : (at : ℕ) (w rest : List Letter) → Says (is_value w rest) (word end at w rest)
  unfolding is_value word
  word_says at w rest =
      lone_says (at_front is_lone rest) _ _ _ (record { it = tt }) (named_says at rest (operator_of w) _ (plain_word end at w rest) (plain_says at w rest))

  -- ---- special characters

  is_code : (l : Letter) (k : ℕ) → l.escaped ≡ false → (l.code == k) ≡ true → stands k l ≡ true
  is_code l k e h = and_from _ _ (not_from_false _ e) h

  not_code : (l : Letter) (k : ℕ) → l.code ≡ 42 → (42 == k) ≡ false → stands k l ≡ false
  not_code l k e f = and_right (not l.escaped) (l.code == k) (ap (λ (c : ℕ). c == k) e ∙ f)

  no_opening : (l : Letter) → (l.code == 42) ≡ true → opens l ≡ false
  no_opening l h =
      let e : l.code ≡ 42 = eqb-true l.code 42 h in
      or_from _ _ (or_from _ _ (or_from _ _ (not_code l 34 e refl) (not_code l 91 e refl)) (not_code l 123 e refl)) (not_code l 40 e refl)

  star_says : (at : ℕ) (b : Bool) (ls : List Letter) → b ≡ false → Says b (star end at ls)
  unfolding star
  star_says at b ls h = either (at_front (stands 58) (skip ls)) b _ _ (λ e. record { it = tt }) (λ e. record { it = h })

  special_says : (l : Letter) (ls : List Letter) → l.escaped ≡ false → Says (opens l) (special end l ls)
  unfolding special
  special_says l ls n =
      either (l.code == 43) _ _ _ (λ e. record { it = tt })
      (λ e. either (l.code == 45 || l.code == 33) _ _ _ (λ e. record { it = tt })
      (λ e. either (l.code == 40) _ _ _ (λ e. record { it = or_right _ _ (is_code l 40 n e) })
      (λ e. either (l.code == 41) _ _ _ (λ e. record { it = tt })
      (λ e. either (l.code == 34) _ _ _ (λ e. quoted_says end (opens l) (or_left _ _ (or_left _ _ (or_left _ _ (is_code l 34 n e)))) l.at ls)
      (λ e. either (l.code == 91) _ _ _ (λ e. range_says end (opens l) (or_left _ _ (or_left _ _ (or_right _ _ (is_code l 91 n e)))) l.at true ls)
      (λ e. either (l.code == 123) _ _ _ (λ e. range_says end (opens l) (or_left _ _ (or_right _ _ (is_code l 123 n e))) l.at false ls)
      (λ e. either (l.code == 42) _ _ _ (λ e. star_says l.at (opens l) ls (no_opening l e)) (λ e. record { it = tt }))))))))

  unescaped : (b : Bool) (l : Letter) → l.escaped ≡ b → (begins_word l || is_lone l) ≡ false → l.escaped ≡ false
  unescaped false l e h = e
  unescaped true l e h =
      let w : begins_word l ≡ true = and_from _ _ (or_left _ _ e) (or_left _ _ e) in
      absurd (true≢false (sym w ∙ (or_parts _ _ h).0))

  lexeme_says : (ls : List Letter) → Says (begins_other ls) (lexeme end ls)
  unfolding lexeme begins_other
  lexeme_says [] = record { it = tt }
  lexeme_says (l ∷ ls) =
      both (begins_word l || is_lone l) _ _ _ _ (λ e. word_says l.at _ _) (λ e. special_says l ls (unescaped l.escaped l refl e))

  pub begins_tells : (ls : List Letter) → Tells (begins_other ls) ((lexeme end ls).0).what
  begins_tells ls = (lexeme_says ls).it
