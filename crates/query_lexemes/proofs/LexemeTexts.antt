-- The texts of lexemes are texts, and behind an operator without a place of its own stands a lexeme that is wrong.
use Rattle.std.proofs.Common.{◌≡◌, ◌+◌, ◌≤◌, ◌++◌, ◌∷◌, [], ℕ, zero, suc, List, Bool, true, false, not, cond, Option, None, Some, Result, Ok, Err, length, drop, refl, codes, ap, sym, subst, ◌∙◌, arith, ⊎_elim}
use Rattle.std.specs.Prelude.{◌||◌, ◌&&◌, ◌==◌, encode_utf8, is_some, if◌then◌else◌}
use Rattle.std.specs.Option.{option_map_or}
use Rattle.std.specs.Char.{len_utf8}
use Rattle.std.specs.List.{take_while, prefix_len}
use Rattle.std.specs.Str.{chars, IsUtf8}
use lib.Utf8.{encodes, scalars, scalar}
use Rattle.std.proofs.lemmas.Bool.{and_parts, and_from, or_cases, cond_both, true≢false, false≢true, not-true, eqb-true}
use Rattle.std.proofs.lemmas.List.Sums.{take_while-cons}
use Rattle.std.proofs.lemmas.Str.{scalars-chars, length-encode, len_utf8_bounds}
use Rattle.field_schema.specs.Bytes.{bytes_eq}
use Rattle.field_schema.specs.Tokens.{is_filled}
use Rattle.query_lexemes.specs.declared.letter.Letter.{Letter}
use Rattle.query_lexemes.specs.declared.letter.Class.{Class}
use Rattle.query_lexemes.specs.declared.letter.Class.TheVariants as class
use Rattle.query_lexemes.specs.declared.lexeme.Lexeme.{Lexeme}
use Rattle.query_lexemes.specs.declared.lexeme.What.{What}
use Rattle.query_lexemes.specs.declared.lexeme.What.TheVariants as what
use Rattle.query_lexemes.specs.declared.lexeme.Operator.{Operator}
use Rattle.query_lexemes.specs.declared.lexeme.Bound.{Bound}
use Rattle.query_lexemes.specs.declared.local.Local.{Local}
use Rattle.query_lexemes.specs.declared.local.Items.{Items}
use Rattle.query_lexemes.specs.Letters.{plain, letters_from, letters, stands, is_blank, goes_on, begins_word, is_unsupported, is_lone, belongs, run, past, skip, at_front, text_of, has_escape}
use Rattle.query_lexemes.specs.Lexemes.{right, place, tail, operator_of, is_filter, behind, prefix, plain_word, word, star, quoted, run_text, quoted_bound, run_bound, bound, between, range_close, range_to, range_between, range_from, range, special, lexeme, lexemes}
use Rattle.query_lexemes.specs.Local.{local_items, local, behind_mark, with_item}

-- a predicate at a value, which shows the value
pub record Holds {A : Type 0} (P : A → Type 0) (x : A) : Type 0 where
  pub it : P x

either : {A : Type 0} (P : A → Type 0) (b : Bool) (x y : A) → (b ≡ true → Holds P x) → (b ≡ false → Holds P y) → Holds P (if b then x else y)
either P true x y f g = f refl
either P false x y f g = g refl

-- ---- letters of characters

abbrev pub AreReal : List Letter → Type 0
AreReal [] = Unit {0}
AreReal (l ∷ ls) = (scalar l.code ≡ true) × AreReal ls

real_tail : (ls : List Letter) → AreReal ls → AreReal (tail ls)
real_tail [] h = tt
real_tail (l ∷ ls) h = h.1

real_drop : (n : ℕ) (ls : List Letter) → AreReal ls → AreReal (drop n ls)
real_drop zero ls h = h
real_drop (suc n) [] h = tt
real_drop (suc n) (l ∷ ls) h = real_drop n ls h.1

real_past : (k : Class) (ls : List Letter) → AreReal ls → AreReal (past k ls)
unfolding past
real_past k ls h = real_drop (prefix_len (belongs k) ls) ls h

real_take : (p : Letter → Bool) (ls : List Letter) → AreReal ls → AreReal (take_while p ls)
real_take p [] h = tt
real_take p (l ∷ ls) h =
    subst AreReal (sym (take_while-cons p l ls)) (cond_both (p l) (l ∷ take_while p ls) [] AreReal (λ e. (h.0, real_take p ls h.1)) (λ e. tt))

real_run : (k : Class) (ls : List Letter) → AreReal ls → AreReal (run k ls)
unfolding run
real_run k ls h = real_take (belongs k) ls h

codes_of : List Letter → List ℕ
codes_of [] = []
codes_of (l ∷ ls) = l.code ∷ codes_of ls

codes_real : (ls : List Letter) → AreReal ls → scalars (codes_of ls) ≡ true
unfolding codes_of
codes_real [] h = refl
codes_real (l ∷ ls) h = and_from _ _ h.0 (codes_real ls h.1)

codes_text : (ls : List Letter) → encodes (codes_of ls) ≡ text_of ls
unfolding codes_of
codes_text [] = refl
codes_text (l ∷ ls) = ap (λ (bs : List ℕ). encode_utf8 l.code ++ bs) (codes_text ls)

real_text : (ls : List Letter) → AreReal ls → IsUtf8 (text_of ls)
real_text ls h = (codes_of ls, (codes_real ls h, codes_text ls))

run_utf8 : (k : Class) (ls : List Letter) → AreReal ls → IsUtf8 (text_of (run k ls))
run_utf8 k ls h = real_text (run k ls) (real_run k ls h)

real_from : (b : Bool) (at : ℕ) (cs : List ℕ) → scalars cs ≡ true → AreReal (letters_from b at cs)
unfolding letters_from
real_from false at [] h = tt
real_from true at [] h = (refl, tt)
real_from false at (c ∷ cs) h =
    let p : (scalar c ≡ true) × (scalars cs ≡ true) = and_parts _ _ h in
    cond_both (c == 92) (letters_from true (at + len_utf8 c) cs) (plain at c ∷ letters_from false (at + len_utf8 c) cs) AreReal
    (λ e. real_from true (at + len_utf8 c) cs p.1) (λ e. (p.0, real_from false (at + len_utf8 c) cs p.1))
real_from true at (c ∷ cs) h =
    let p : (scalar c ≡ true) × (scalars cs ≡ true) = and_parts _ _ h in
    (p.0, real_from false (at + len_utf8 c) cs p.1)

pub real_letters : (text : List ℕ) → IsUtf8 text → AreReal (letters text)
unfolding letters
real_letters text h = real_from false 0 (chars text) (scalars-chars text h)

-- ---- what lexemes are

abbrev pub IfText : Option (List ℕ) → Type 0
IfText None = Unit {0}
IfText (Some text) = IsUtf8 text

-- the texts of a lexeme
abbrev pub IsFit : What → Type 0
IsFit (what.Word text) = IsUtf8 text
IsFit (what.Prefix text) = IsUtf8 text × (is_filled text ≡ true)
IsFit (what.Quoted text) = IsUtf8 text
IsFit (what.Range low from to high) = IfText from.text × IfText to.text
IsFit w = Unit {0}

abbrev Lacks : Option ℕ → List Letter → Type 0
Lacks None rest = at_front is_unsupported rest ≡ true
Lacks (Some at) rest = Unit {0}

-- what stands behind an operator without a place behind it
abbrev Ahead : What → List Letter → Type 0
Ahead (what.Operator o behind) rest = Lacks behind rest
Ahead w rest = Unit {0}

abbrev Fit : Lexeme × List Letter → Type 0
Fit p = IsFit p.0.what × (Ahead p.0.what p.1 × AreReal p.1)

-- ---- ranges

abbrev IsBoundFit : Result (Bound × List Letter) ℕ → Type 0
IsBoundFit (Ok b) = IfText b.0.text × AreReal b.1
IsBoundFit (Err p) = Unit {0}

abbrev IsRestFit : Result (List Letter) ℕ → Type 0
IsRestFit (Ok ls) = AreReal ls
IsRestFit (Err p) = Unit {0}

run_text_fit : (w : List Letter) → AreReal w → Holds IfText (run_text w)
unfolding run_text
run_text_fit w h = either IfText (not (has_escape w) && bytes_eq (text_of w) (codes "*")) _ _ (λ e. record { it = tt }) (λ e. record { it = real_text w h })

module _ (end : ℕ) where
  bound_fit : (ls : List Letter) → AreReal ls → Holds IsBoundFit (bound end ls)
  unfolding bound quoted_bound run_bound
  bound_fit ls h =
      either IsBoundFit (at_front (stands 34) ls) _ _
      (λ e. either IsBoundFit (at_front (stands 34) (past class.Quote (tail ls))) _ _ (λ e. record { it = (run_utf8 class.Quote (tail ls) (real_tail ls h), real_tail (past class.Quote (tail ls)) (real_past class.Quote (tail ls) (real_tail ls h))) }) (λ e. record { it = tt }))
      (λ e. either IsBoundFit (at_front is_lone (past class.Run ls)) _ _ (λ e. record { it = tt })
      (λ e. either IsBoundFit (length (run class.Run ls) == 0) _ _ (λ e. record { it = tt }) (λ e. record { it = ((run_text_fit (run class.Run ls) (real_run class.Run ls h)).it, real_past class.Run ls h) })))

  real_skip : (ls : List Letter) → AreReal ls → AreReal (skip ls)
  real_skip ls h = real_past class.Blank ls h

  between_fit : (ls : List Letter) → AreReal ls → Holds IsRestFit (between end ls)
  unfolding between
  between_fit ls h =
      either IsRestFit (not (at_front is_blank ls)) _ _ (λ e. record { it = tt })
      (λ e. either IsRestFit (not (at_front (stands 84) (skip ls))) _ _ (λ e. record { it = tt })
      (λ e. either IsRestFit (not (at_front (stands 79) (tail (skip ls)))) _ _ (λ e. record { it = tt })
      (λ e. either IsRestFit (not (at_front is_blank (tail (tail (skip ls))))) _ _ (λ e. record { it = tt })
      (λ e. record { it = real_skip (tail (tail (skip ls))) (real_tail (tail (skip ls)) (real_tail (skip ls) (real_skip ls h))) }))))

  close_fit : (at : ℕ) (low : Bool) (from to : Bound) (ls : List Letter) → IfText from.text → IfText to.text → AreReal ls → Holds Fit (range_close end at low from to ls)
  unfolding range_close
  close_fit at low from to ls f t h = either Fit (at_front (stands 93) ls || at_front (stands 125) ls) _ _ (λ e. record { it = ((f, t), (tt, real_tail ls h)) }) (λ e. record { it = (tt, (tt, tt)) })

  to_fit : (at : ℕ) (low : Bool) (from : Bound) (r : Result (Bound × List Letter) ℕ) → IfText from.text → IsBoundFit r → Holds Fit (range_to end at low from r)
  unfolding range_to
  to_fit at low from (Err p) f h = record { it = (tt, (tt, tt)) }
  to_fit at low from (Ok to) f h = close_fit at low from to.0 (skip to.1) f h.0 (real_skip to.1 h.1)

  middle_fit : (at : ℕ) (low : Bool) (from : Bound) (r : Result (List Letter) ℕ) → IfText from.text → IsRestFit r → Holds Fit (range_between end at low from r)
  unfolding range_between
  middle_fit at low from (Err p) f h = record { it = (tt, (tt, tt)) }
  middle_fit at low from (Ok rest) f h = to_fit at low from (bound end rest) f (bound_fit rest h).it

  from_fit : (at : ℕ) (low : Bool) (r : Result (Bound × List Letter) ℕ) → IsBoundFit r → Holds Fit (range_from end at low r)
  unfolding range_from
  from_fit at low (Err p) h = record { it = (tt, (tt, tt)) }
  from_fit at low (Ok from) h = middle_fit at low from.0 (between end from.1) h.0 (between_fit from.1 h.1).it

  range_fit : (at : ℕ) (low : Bool) (ls : List Letter) → AreReal ls → Holds Fit (range end at low ls)
  unfolding range
  range_fit at low ls h = from_fit at low (bound end (skip ls)) (bound_fit (skip ls) (real_skip ls h)).it

  -- ---- quoted texts and `*`

  quoted_fit : (at : ℕ) (ls : List Letter) → AreReal ls → Holds Fit (quoted end at ls)
  unfolding quoted
  quoted_fit at ls h = either Fit (at_front (stands 34) (past class.Quote ls)) _ _ (λ e. record { it = (run_utf8 class.Quote ls h, (tt, real_tail (past class.Quote ls) (real_past class.Quote ls h))) }) (λ e. record { it = (tt, (tt, tt)) })

  star_fit : (at : ℕ) (ls : List Letter) → AreReal ls → Holds Fit (star end at ls)
  unfolding star
  star_fit at ls h = either Fit (at_front (stands 58) (skip ls)) _ _ (λ e. record { it = (tt, (tt, real_tail (skip ls) (real_skip ls h))) }) (λ e. record { it = (tt, (tt, h)) })

  -- ---- words

  lacks : (b : Bool) (p : ℕ) (l : Letter) (ls : List Letter) → is_unsupported l ≡ b → Lacks (cond b None (Some p)) (l ∷ ls)
  lacks true p l ls e = e
  lacks false p l ls e = tt

  behind_lacks : (rest : List Letter) → Lacks (behind end rest) rest
  behind_lacks [] = tt
  behind_lacks (l ∷ ls) = lacks (is_unsupported l) l.odd l ls refl

  plain_fit : (at : ℕ) (w rest : List Letter) → AreReal w → AreReal rest → is_filled (text_of w) ≡ true → Holds Fit (plain_word end at w rest)
  unfolding plain_word prefix
  plain_fit at w rest h k some =
      either Fit (at_front (stands 42) rest) _ _ (λ e. record { it = ((real_text w h, some), (tt, real_tail rest k)) })
      (λ e. either Fit (at_front (stands 58) (skip rest)) _ _ (λ e. record { it = (tt, (tt, real_tail (skip rest) (real_skip rest k))) })
      (λ e. either Fit (is_filter w rest) _ _ (λ e. record { it = (tt, (tt, k)) }) (λ e. record { it = (real_text w h, (tt, k)) })))

  named_fit : (at : ℕ) (rest : List Letter) (o : Option Operator) (d : Lexeme × List Letter) → AreReal rest → Holds Fit d
      → Holds Fit (option_map_or (λ p. (right at (what.Operator p (behind end rest)), rest)) o d)
  named_fit at rest None d k h = h
  named_fit at rest (Some p) d k h = record { it = (tt, (behind_lacks rest, k)) }

  word_fit : (at : ℕ) (w rest : List Letter) → AreReal w → AreReal rest → (at_front is_lone rest ≡ false → is_filled (text_of w) ≡ true) → Holds Fit (word end at w rest)
  unfolding word
  word_fit at w rest h k some =
      either Fit (at_front is_lone rest) _ _ (λ e. record { it = (tt, (tt, tt)) }) (λ e. named_fit at rest (operator_of w) (plain_word end at w rest) k (plain_fit at w rest h k (some e)))

  -- ---- the whole

  filled_first : (c : ℕ) (bs : List ℕ) → is_filled (encode_utf8 c ++ bs) ≡ true
  filled_first c bs = by (encode_utf8 c) (omega (arith, length-encode c, len_utf8_bounds c))
    where
      by : (cs : List ℕ) → 1 ≤ length cs → is_filled (cs ++ bs) ≡ true
      by [] h = absurd (omega arith)
      by (d ∷ cs) h = refl

  goes : (b : Bool) (l : Letter) (ls : List Letter) → goes_on l ≡ b → (begins_word l || is_lone l) ≡ true
      → at_front is_lone (past class.Word (l ∷ ls)) ≡ false → is_filled (text_of (run class.Word (l ∷ ls))) ≡ true
  unfolding past run
  goes true l ls e h n = rw (take_while-cons (belongs class.Word) l ls, e) (filled_first l.code (text_of (take_while goes_on ls)))
  goes false l ls e h n =
      let a : is_lone l ≡ true = rw e at h in
      let b : is_lone l ≡ false = rw e at n in
      absurd (true≢false (sym a ∙ b))

  word_begins : (l : Letter) (ls : List Letter) → AreReal (l ∷ ls) → (begins_word l || is_lone l) ≡ true
      → Holds Fit (word end l.at (run class.Word (l ∷ ls)) (past class.Word (l ∷ ls)))
  word_begins l ls h e =
      word_fit l.at (run class.Word (l ∷ ls)) (past class.Word (l ∷ ls)) (real_run class.Word (l ∷ ls) h) (real_past class.Word (l ∷ ls) h) (goes (goes_on l) l ls refl e)

  special_fit : (l : Letter) (ls : List Letter) → AreReal ls → Holds Fit (special end l ls)
  unfolding special
  special_fit l ls h =
      either Fit (l.code == 43) _ _ (λ e. record { it = (tt, (tt, h)) })
      (λ e. either Fit (l.code == 45 || l.code == 33) _ _ (λ e. record { it = (tt, (tt, h)) })
      (λ e. either Fit (l.code == 40) _ _ (λ e. record { it = (tt, (tt, h)) })
      (λ e. either Fit (l.code == 41) _ _ (λ e. record { it = (tt, (tt, h)) })
      (λ e. either Fit (l.code == 34) _ _ (λ e. quoted_fit l.at ls h)
      (λ e. either Fit (l.code == 91) _ _ (λ e. range_fit l.at true ls h)
      (λ e. either Fit (l.code == 123) _ _ (λ e. range_fit l.at false ls h)
      (λ e. either Fit (l.code == 42) _ _ (λ e. star_fit l.at ls h) (λ e. record { it = (tt, (tt, h)) }))))))))

  lexeme_fit : (ls : List Letter) → AreReal ls → Holds Fit (lexeme end ls)
  unfolding lexeme
  lexeme_fit [] h = record { it = (tt, (tt, tt)) }
  lexeme_fit (l ∷ ls) h = either Fit (begins_word l || is_lone l) _ _ (λ e. word_begins l ls h e) (λ e. special_fit l ls h.1)

  -- ---- several lexemes

  wrong_at : (l : Letter) (ls : List Letter) (k : ℕ) → l.code ≡ k → l.escaped ≡ false
      → is_some ((lexeme end (skip (record { at = l.at; odd = l.odd; code = k; escaped = false } ∷ ls))).0).wrong ≡ true
      → is_some ((lexeme end (skip (l ∷ ls))).0).wrong ≡ true
  wrong_at l ls k c e =
      subst (λ (x : Letter). is_some ((lexeme end (skip (x ∷ ls))).0).wrong ≡ true) (λ i. record { at = l.at; odd = l.odd; code = sym c i; escaped = sym e i })

  flaw_wrong : (l : Letter) (ls : List Letter) → is_unsupported l ≡ true → is_some ((lexeme end (skip (l ∷ ls))).0).wrong ≡ true
  unfolding lexeme special past
  flaw_wrong l ls h =
      let p : (not l.escaped ≡ true) × ((l.code == 94 || l.code == 126 || l.code == 63 || l.code == 47) ≡ true) = and_parts _ _ h in
      let e : l.escaped ≡ false = not-true l.escaped p.0 in
      ⊎_elim
      (λ a. ⊎_elim
      (λ b. ⊎_elim (λ c. wrong_at l ls 94 (eqb-true _ _ c) e refl) (λ c. wrong_at l ls 126 (eqb-true _ _ c) e refl) (or_cases (l.code == 94) (l.code == 126) b))
      (λ c. wrong_at l ls 63 (eqb-true _ _ c) e refl) (or_cases (l.code == 94 || l.code == 126) (l.code == 63) a))
      (λ c. wrong_at l ls 47 (eqb-true _ _ c) e refl) (or_cases (l.code == 94 || l.code == 126 || l.code == 63) (l.code == 47) p.1)

  next_wrong : (rest : List Letter) → at_front is_unsupported rest ≡ true → is_some ((lexeme end (skip rest)).0).wrong ≡ true
  next_wrong [] h = absurd (false≢true h)
  next_wrong (l ∷ ls) h = flaw_wrong l ls h

-- the first of them, where there is one, is wrong
abbrev pub NextWrong : List Lexeme → Type 0
NextWrong [] = Unit {0}
NextWrong (x ∷ xs) = is_some x.wrong ≡ true

abbrev LacksNext : Option ℕ → List Lexeme → Type 0
LacksNext None xs = NextWrong xs
LacksNext (Some at) xs = Unit {0}

-- what comes behind an operator without a place behind it
abbrev pub Follows : What → List Lexeme → Type 0
Follows (what.Operator o behind) xs = LacksNext behind xs
Follows w xs = Unit {0}

abbrev pub AllFit : List Lexeme → Type 0
AllFit [] = Unit {0}
AllFit (x ∷ xs) = IsFit x.what × (Follows x.what xs × AllFit xs)

front_wrong : (n end : ℕ) (rest : List Letter) → at_front is_unsupported rest ≡ true → NextWrong (lexemes n end rest)
unfolding lexemes
front_wrong zero end rest h = tt
front_wrong (suc n) end rest h = next_wrong end rest h

lacks_next : (n end : ℕ) (o : Option ℕ) (rest : List Letter) → Lacks o rest → LacksNext o (lexemes n end rest)
lacks_next n end None rest h = front_wrong n end rest h
lacks_next n end (Some p) rest h = tt

follows : (n end : ℕ) (w : What) (rest : List Letter) → Ahead w rest → Follows w (lexemes n end rest)
follows n end (what.Operator o behind) rest h = lacks_next n end behind rest h
follows n end w rest h = tt

pub lexemes_fit : (n end : ℕ) (ls : List Letter) → AreReal ls → AllFit (lexemes n end ls)
unfolding lexemes
lexemes_fit zero end ls h = tt
lexemes_fit (suc n) end ls h =
    let f : Fit (lexeme end (skip ls)) = (lexeme_fit end (skip ls) (real_past class.Blank ls h)).it in
    (f.0, (follows n end ((lexeme end (skip ls)).0).what (lexeme end (skip ls)).1 f.1.0, lexemes_fit n end (lexeme end (skip ls)).1 f.1.1))

-- ---- local parameters

abbrev pub IsLocalFit : Result (Local × List Letter) ℕ → Type 0
IsLocalFit (Ok p) = AreReal p.1
IsLocalFit (Err at) = Unit {0}

with_fit : (o : Option Items) (f : Items → Result (Local × List Letter) ℕ) (at : ℕ) → ((items : Items) → Holds IsLocalFit (f items)) → Holds IsLocalFit (option_map_or f o (Err at))
with_fit None f at h = record { it = tt }
with_fit (Some items) f at h = h items

items_fit : (n end : ℕ) (items : Items) (ls : List Letter) → AreReal ls → Holds IsLocalFit (local_items n end items ls)
unfolding local_items
items_fit zero end items ls h = record { it = tt }
items_fit (suc n) end items ls h =
    let rest : List Letter = past class.Space ls in
    let k : AreReal (past class.Space ls) = real_past class.Space ls h in
    either IsLocalFit (at_front (stands 125) (past class.Space ls)) _ _ (λ e. record { it = real_tail (past class.Space ls) k })
    (λ e. either IsLocalFit (length (past class.Space ls) == 0) _ _ (λ e. record { it = tt })
    (λ e. with_fit (with_item items (run class.Item (past class.Space ls))) (λ more. local_items n end more (past class.Item (past class.Space ls))) (place end (past class.Space ls))
    (λ more. items_fit n end more (past class.Item (past class.Space ls)) (real_past class.Item (past class.Space ls) k))))

pub local_fit : (end : ℕ) (ls : List Letter) → AreReal ls → Holds IsLocalFit (local end ls)
unfolding local
local_fit end ls h = items_fit (length ls + 1) end _ ls h

abbrev pub IfReal : Option (List Letter) → Type 0
IfReal None = Unit {0}
IfReal (Some ls) = AreReal ls

pub mark_fit : (ls : List Letter) → AreReal ls → Holds IfReal (behind_mark ls)
mark_fit ls h = either IfReal (at_front (stands 123) ls && at_front (stands 33) (tail ls)) _ _ (λ e. record { it = real_tail (tail ls) (real_tail ls h) }) (λ e. record { it = tt })
