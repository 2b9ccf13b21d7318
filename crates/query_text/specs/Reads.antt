-- Which query a text reads to, and its first fault.
use Rattle.std.specs.Prelude.{ℕ, pos, ◌+◌, List, [], ◌∷◌, length, Bool, true, false, if◌then◌else◌, Option, Some, Result, Ok, Err}
use Rattle.std.specs.Option.{option_map_or}
use Rattle.field_schema.specs.declared.field.Field.{Field}
use Rattle.query_tree.specs.declared.query.Query.{Query}
use Rattle.query_tree.specs.declared.query.Query.TheVariants as query
use Rattle.query_lexemes.specs.declared.fault.QueryFault.{QueryFault}
use Rattle.query_lexemes.specs.declared.fault.QueryFault.TheVariants as fault
use Rattle.query_lexemes.specs.declared.letter.Letter.{Letter}
use Rattle.query_lexemes.specs.declared.local.Local.{Local}
use Rattle.query_lexemes.specs.declared.lexeme.Lexeme.{Lexeme}
use Rattle.query_lexemes.specs.declared.lexeme.What.{What}
use Rattle.query_lexemes.specs.declared.lexeme.What.TheVariants as what
use Rattle.query_lexemes.specs.declared.lexeme.Operator.{Operator}
use Rattle.query_lexemes.specs.declared.lexeme.Operator.TheVariants as operator
use Rattle.query_lexemes.specs.Letters.{letters}
use Rattle.query_lexemes.specs.Lexemes.{lexemes}
use Rattle.query_lexemes.specs.Local.{local, behind_mark}
use Rattle.query_text.specs.declared.op.Op.{Op}
use Rattle.query_text.specs.declared.op.Op.TheVariants as op
use Rattle.query_text.specs.declared.level.Level.{Level}
use Rattle.query_text.specs.declared.level.Sign.{Sign}
use Rattle.query_text.specs.declared.level.Sign.TheVariants.{Required, Prohibited}
use Rattle.query_text.specs.declared.level.Target.TheVariants.{Every, To}
use Rattle.query_text.specs.declared.reader.Parsed.{Parsed}
use Rattle.query_text.specs.Levels.{field_for, top, inside, put}
use Rattle.query_text.specs.Clauses.{joined}
use Rattle.query_text.specs.Readings.{indexed, kind_at, star, value_in, words_of}
use Rattle.query_text.specs.Faults.{least, told}

-- want of memory is no fault of the text
abbrev pub is_no_memory : QueryFault → Bool
is_no_memory (fault.Syntax at) = false
is_no_memory (fault.UnknownField at) = false
is_no_memory (fault.BadNumber at) = false
is_no_memory (fault.Unsupported at) = false
is_no_memory (fault.BadLocal at) = false
is_no_memory (fault.TooDeep at) = false
is_no_memory (fault.TooManyClauses at) = false
is_no_memory fault.NoMemory = true

-- what a query is read with: the fields of the schema and the operator that joins clauses
pub record Setting : Type 0 where
  pub fields : List Field
  pub op : Op

-- the query of a value in the field of the next value
unfoldable pub value : Setting → Level → What → Query
value s l w = option_map_or (λ f. value_in s.op (kind_at s.fields f) f w (words_of s.fields l w)) (field_for l) query.All

-- the query with a conjunction or `NOT` read
abbrev pub with_operator : Level → Operator → Level
with_operator l operator.And = record l { conj = Some op.And }
with_operator l operator.Or = record l { conj = Some op.Or }
with_operator l operator.Not = record l { sign = Some Prohibited }

abbrev pub sign_of : Bool → Sign
sign_of true = Prohibited
sign_of false = Required

-- behind `(`
abbrev pub opened : Level → List Level → Level × List Level
opened l os = (inside l, l ∷ os)

-- behind `)`: what stood in the parentheses is a clause of the query outside
abbrev pub closed : Op → Level → List Level → Level × List Level
closed o l [] = (l, [])
closed o l (outside ∷ os) = (put outside (joined o l.clauses), os)

-- the query, and those outside it, behind a lexeme
unfoldable pub after : Setting → Level → List Level → What → Level × List Level
after s l os (what.Word text) = (put l (value s l (what.Word text)), os)
after s l os (what.Prefix text) = (put l (value s l (what.Prefix text)), os)
after s l os (what.Quoted text) = (put l (value s l (what.Quoted text)), os)
after s l os what.Star = (put l (star l), os)
after s l os (what.Range low from to high) = (put l (value s l (what.Range low from to high)), os)
after s l os (what.Name text colon) = (record l { target = To (indexed text s.fields) }, os)
after s l os (what.Any colon other) = (record l { target = Every }, os)
after s l os (what.Operator o behind) = (with_operator l o, os)
after s l os (what.Sign prohibits) = (record l { sign = Some (sign_of prohibits) }, os)
after s l os what.Opening = opened l os
after s l os what.Closing = closed s.op l os
after s l os what.Finish = (l, os)
after s l os (what.Begun from to) = (l, os)
after s l os what.Half = (l, os)
after s l os what.Flaw = (l, os)

abbrev pub is_finish : What → Bool
is_finish (what.Word text) = false
is_finish (what.Prefix text) = false
is_finish (what.Quoted text) = false
is_finish what.Star = false
is_finish (what.Range low from to high) = false
is_finish (what.Name text colon) = false
is_finish (what.Any colon other) = false
is_finish (what.Operator o behind) = false
is_finish (what.Sign prohibits) = false
is_finish what.Opening = false
is_finish what.Closing = false
is_finish what.Finish = true
is_finish (what.Begun from to) = false
is_finish what.Half = false
is_finish what.Flaw = false

-- what lexemes read to behind those before: the fault of the first that tells one, else the query
unfoldable pub read_from : Setting → ℕ → Level → List Level → List Lexeme → Result Query QueryFault
read_from s most l os [] = Ok (joined s.op l.clauses)
read_from s most l os (x ∷ xs) =
    option_map_or Err (least (told s.fields most l os x))
    (if is_finish x.what then Ok (joined s.op l.clauses) else read_from s most (after s l os x.what).0 (after s l os x.what).1 xs)

-- the query of the letters of a text that ends at a place
unfoldable pub query_of : Setting → ℕ → Option ℕ → ℕ → List Letter → Result Query QueryFault
query_of s most df end ls = read_from s most (top df) [] (lexemes (length ls + 1) end ls)

-- the query with what local parameters say of it
abbrev pub with_local : Local → Result Query QueryFault → Result Parsed QueryFault
with_local p (Ok q) = Ok (record { query = q; cached = p.cached; cost = p.cost })
with_local p (Err e) = Err e

-- what no local parameters say
abbrev pub no_local : Local
no_local = record { cached = true; cost = pos 0 }

-- behind local parameters
abbrev pub behind_local : Setting → ℕ → Option ℕ → ℕ → Result (Local × List Letter) ℕ → Result Parsed QueryFault
behind_local s most df end (Ok p) = with_local p.0 (query_of s most df end p.1)
behind_local s most df end (Err at) = Err (fault.BadLocal at)

-- what the letters of a text that ends at a place read to
unfoldable pub letters_reading : Setting → ℕ → Option ℕ → ℕ → List Letter → Result Parsed QueryFault
letters_reading s most df end ls =
    option_map_or (λ params. behind_local s most df end (local end params)) (behind_mark ls) (with_local no_local (query_of s most df end ls))

-- what a text reads to, with its clauses joined by an operator, a default field and a limit on clauses
abbrev pub reading : List Field → Option ℕ → Op → ℕ → List ℕ → Result Parsed QueryFault
reading fields df o most text = letters_reading (record { fields = fields; op = o }) most df (length text) (letters text)
