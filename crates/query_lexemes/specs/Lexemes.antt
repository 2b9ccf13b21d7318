-- The lexemes of a query text: words, quoted texts, ranges, operators and the special characters.
use Rattle.std.specs.Prelude.{ℕ, zero, suc, List, [], ◌∷◌, Bool, true, false, not, ◌&&◌, ◌||◌, ◌==◌, if◌then◌else◌, Option, Some, None, is_none, Result, Ok, Err, length, codes}
use Rattle.std.specs.Option.{option_map_or}
use Rattle.field_schema.specs.Bytes.{bytes_eq}
use Rattle.query_lexemes.specs.declared.fault.QueryFault.{QueryFault}
use Rattle.query_lexemes.specs.declared.fault.QueryFault.TheVariants as fault
use Rattle.query_lexemes.specs.declared.letter.Letter.{Letter}
use Rattle.query_lexemes.specs.declared.letter.Class.TheVariants as class
use Rattle.query_lexemes.specs.declared.lexeme.Lexeme.{Lexeme}
use Rattle.query_lexemes.specs.declared.lexeme.What.{What}
use Rattle.query_lexemes.specs.declared.lexeme.What.TheVariants as what
use Rattle.query_lexemes.specs.declared.lexeme.Operator.{Operator}
use Rattle.query_lexemes.specs.declared.lexeme.Operator.TheVariants as operator
use Rattle.query_lexemes.specs.declared.lexeme.Bound.{Bound}
use Rattle.query_lexemes.specs.Letters.{stands, is_blank, begins_word, is_unsupported, is_lone, spoils, run, past, skip, at_front, text_of, has_escape}

-- a lexeme that is right by itself
abbrev pub right : ℕ → What → Lexeme
right at w = record { at = at; what = w; wrong = None }

-- a lexeme that is wrong wherever it stands
abbrev pub wrong : ℕ → What → QueryFault → Lexeme
wrong at w f = record { at = at; what = w; wrong = Some f }

-- the place of the first letter, or the end of the text
abbrev pub place : ℕ → List Letter → ℕ
place end [] = end
place end (l ∷ ls) = l.at

-- the place of the first byte that is no white space's, or the end of the text
abbrev pub odd_place : ℕ → List Letter → ℕ
odd_place end [] = end
odd_place end (l ∷ ls) = l.odd

-- the letters but the first
abbrev pub tail : List Letter → List Letter
tail [] = []
tail (l ∷ ls) = ls

-- ---- words

abbrev pub operator_named : List ℕ → Option Operator
operator_named text =
    if bytes_eq text (codes "AND") then Some operator.And else
    (if bytes_eq text (codes "&&") then Some operator.And else
    (if bytes_eq text (codes "OR") then Some operator.Or else
    (if bytes_eq text (codes "||") then Some operator.Or else
    (if bytes_eq text (codes "NOT") then Some operator.Not else None))))

-- the operator that a word without escapes is
unfoldable pub operator_of : List Letter → Option Operator
operator_of w = if has_escape w then None else operator_named (text_of w)

-- the word `filter` without escapes, and `(` directly behind it
unfoldable pub is_filter : List Letter → List Letter → Bool
is_filter w rest = not (has_escape w) && bytes_eq (text_of w) (codes "filter") && at_front (stands 40) rest

-- the place of the first byte that does not go on an operator as a word; none where it has its own fault
abbrev pub behind : ℕ → List Letter → Option ℕ
behind end [] = Some end
behind end (l ∷ ls) = if is_unsupported l then None else Some l.odd

-- a fault where something spoils the `*` at a place
abbrev pub spoiling : ℕ → List Letter → Option QueryFault
spoiling at rest = if at_front spoils rest then Some (fault.Unsupported at) else None

-- a word and the `*` behind it
unfoldable pub prefix : ℕ → ℕ → List ℕ → List Letter → Lexeme × List Letter
prefix end at text rest =
    (record { at = at; what = what.Prefix text; wrong = spoiling (place end rest) (tail rest) }, tail rest)

-- a word that is no operator, and what stands behind it
unfoldable pub plain_word : ℕ → ℕ → List Letter → List Letter → Lexeme × List Letter
plain_word end at w rest =
    if at_front (stands 42) rest then prefix end at (text_of w) rest else
    (if at_front (stands 58) (skip rest) then (right at (what.Name (text_of w) (place end (skip rest))), tail (skip rest)) else
    (if is_filter w rest then (wrong at what.Half (fault.Unsupported at), rest) else (right at (what.Word (text_of w)), rest)))

-- a word at a place, and what stands behind it; a `\` at the end of the text goes on a word
unfoldable pub word : ℕ → ℕ → List Letter → List Letter → Lexeme × List Letter
word end at w rest =
    if at_front is_lone rest then (wrong at what.Half (fault.Syntax end), []) else
    option_map_or (λ o. (right at (what.Operator o (behind end rest)), rest)) (operator_of w) (plain_word end at w rest)

-- ---- `*`

-- a word that is a value: no operator, and not `filter(`
unfoldable pub is_value : List Letter → List Letter → Bool
is_value w rest = at_front is_lone rest || (is_none (operator_of w) && not (is_filter w rest))

-- a quoted text, a range or `(` begins with it
abbrev pub opens : Letter → Bool
opens l = stands 34 l || stands 91 l || stands 123 l || stands 40 l

-- a value other than `*` begins here
unfoldable pub begins_other : List Letter → Bool
begins_other ls =
    if at_front (λ l. begins_word l || is_lone l) ls then is_value (run class.Word ls) (past class.Word ls) else at_front opens ls

unfoldable pub star : ℕ → ℕ → List Letter → Lexeme × List Letter
star end at rest =
    if at_front (stands 58) (skip rest)
    then (right at (what.Any (place end (skip rest)) (begins_other (skip (tail (skip rest))))), tail (skip rest))
    else (record { at = at; what = what.Star; wrong = spoiling at rest }, rest)

-- ---- quoted texts and ranges

unfoldable pub quoted : ℕ → ℕ → List Letter → Lexeme × List Letter
quoted end at ls =
    if at_front (stands 34) (past class.Quote ls) then (right at (what.Quoted (text_of (run class.Quote ls))), tail (past class.Quote ls))
    else (wrong at (what.Begun None None) (fault.Syntax end), [])

-- the text of a run, which is open where it is exactly `*`
unfoldable pub run_text : List Letter → Option (List ℕ)
run_text w = if not (has_escape w) && bytes_eq (text_of w) (codes "*") then None else Some (text_of w)

-- an end of a range in quotes, and what stands behind it, or the place of the fault
unfoldable pub quoted_bound : ℕ → ℕ → List Letter → Result (Bound × List Letter) ℕ
quoted_bound end at ls =
    if at_front (stands 34) (past class.Quote ls)
    then Ok (record { at = at; text = Some (text_of (run class.Quote ls)) }, tail (past class.Quote ls)) else Err end

-- an end of a range without quotes
unfoldable pub run_bound : ℕ → ℕ → List Letter → List Letter → Result (Bound × List Letter) ℕ
run_bound end at w rest =
    if at_front is_lone rest then Err end else
    (if length w == 0 then Err at else Ok (record { at = at; text = run_text w }, rest))

unfoldable pub bound : ℕ → List Letter → Result (Bound × List Letter) ℕ
bound end ls =
    if at_front (stands 34) ls then quoted_bound end (place end ls) (tail ls)
    else run_bound end (place end ls) (run class.Run ls) (past class.Run ls)

-- what stands behind white space, `TO` and white space, or the place of the fault
unfoldable pub between : ℕ → List Letter → Result (List Letter) ℕ
between end ls =
    if not (at_front is_blank ls) then Err (odd_place end ls) else
    (if not (at_front (stands 84) (skip ls)) then Err (odd_place end (skip ls)) else
    (if not (at_front (stands 79) (tail (skip ls))) then Err (place end (tail (skip ls))) else
    (if not (at_front is_blank (tail (tail (skip ls)))) then Err (odd_place end (tail (tail (skip ls)))) else
    Ok (skip (tail (tail (skip ls)))))))

-- a range that goes wrong behind those of its ends that are whole
abbrev pub begun : ℕ → Option Bound → Option Bound → ℕ → Lexeme × List Letter
begun at from to p = (wrong at (what.Begun from to) (fault.Syntax p), [])

-- the closing bracket
unfoldable pub range_close : ℕ → ℕ → Bool → Bound → Bound → List Letter → Lexeme × List Letter
range_close end at low from to ls =
    if at_front (stands 93) ls || at_front (stands 125) ls
    then (right at (what.Range low from to (at_front (stands 93) ls)), tail ls)
    else begun at (Some from) (Some to) (odd_place end ls)

-- behind the upper end
unfoldable pub range_to : ℕ → ℕ → Bool → Bound → Result (Bound × List Letter) ℕ → Lexeme × List Letter
range_to end at low from (Err p) = begun at (Some from) None p
range_to end at low from (Ok to) = range_close end at low from to.0 (skip to.1)

-- behind `TO`
unfoldable pub range_between : ℕ → ℕ → Bool → Bound → Result (List Letter) ℕ → Lexeme × List Letter
range_between end at low from (Err p) = begun at (Some from) None p
range_between end at low from (Ok rest) = range_to end at low from (bound end rest)

-- behind the lower end
unfoldable pub range_from : ℕ → ℕ → Bool → Result (Bound × List Letter) ℕ → Lexeme × List Letter
range_from end at low (Err p) = begun at None None p
range_from end at low (Ok from) = range_between end at low from.0 (between end from.1)

-- behind the opening bracket
unfoldable pub range : ℕ → ℕ → Bool → List Letter → Lexeme × List Letter
range end at low ls = range_from end at low (bound end (skip ls))

-- ---- the whole

-- a character that begins no part
abbrev pub flaw : Letter → List Letter → Lexeme × List Letter
flaw l ls = (wrong l.at what.Flaw (if is_unsupported l then fault.Unsupported l.at else fault.Syntax l.at), ls)

-- a special character, and what it begins
unfoldable pub special : ℕ → Letter → List Letter → Lexeme × List Letter
special end l ls =
    if l.code == 43 then (right l.at (what.Sign false), ls) else
    (if l.code == 45 || l.code == 33 then (right l.at (what.Sign true), ls) else
    (if l.code == 40 then (right l.at what.Opening, ls) else
    (if l.code == 41 then (right l.at what.Closing, ls) else
    (if l.code == 34 then quoted end l.at ls else
    (if l.code == 91 then range end l.at true ls else
    (if l.code == 123 then range end l.at false ls else
    (if l.code == 42 then star end l.at ls else flaw l ls)))))))

-- the lexeme that the letters begin with, and what stands behind it
unfoldable pub lexeme : ℕ → List Letter → Lexeme × List Letter
lexeme end [] = (right end what.Finish, [])
lexeme end (l ∷ ls) =
    if begins_word l || is_lone l then word end l.at (run class.Word (l ∷ ls)) (past class.Word (l ∷ ls)) else special end l ls

-- the first n lexemes, with white space before each
unfoldable pub lexemes : ℕ → ℕ → List Letter → List Lexeme
lexemes zero end ls = []
lexemes (suc n) end ls = (lexeme end (skip ls)).0 ∷ lexemes n end (lexeme end (skip ls)).1
