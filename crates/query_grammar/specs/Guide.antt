-- What queries mean, as a user's guide says it: laws of `Meaning`.
use Rattle.std.specs.Prelude.{ℕ, ◌≡◌, List, [], ◌∷◌, true, false, Option, Some, None}
use Rattle.field_schema.specs.declared.field.Field.{Field}
use Rattle.query_tree.specs.declared.query.Query.{Query}
use Rattle.query_tree.specs.declared.query.Query.TheViews as parts
use Rattle.query_text.specs.declared.op.Op.TheVariants as op
use Rattle.query_text.specs.Clauses.{joined}
use Rattle.query_text.specs.Reads.{Setting}
use Rattle.query_grammar.specs.Forms.{Conjunction, both, either, Modifier, sign, negation, FieldForm, QueryForm, first, next, clause, BodyForm, body, ValueForm, group}
use Rattle.query_grammar.specs.Meaning.{Place, query_clauses, body_query, value_query}

-- what a query means where it stands
abbrev pub means : Setting → Place → QueryForm → Query
means s p q = joined s.op (query_clauses s p q)

-- two clauses without modifiers
abbrev pub two : BodyForm → Option Conjunction → BodyForm → QueryForm
two b j c = next (first (clause None b)) j (clause None c)

-- one clause with a modifier
abbrev pub one : Modifier → BodyForm → QueryForm
one m b = first (clause (Some m) b)

-- `a AND b`: both are required, whatever the operator
abbrev pub AndRequires : Type 0
AndRequires = (s : Setting) (p : Place) (behind : Option ℕ) (b c : BodyForm)
    → means s p (two b (Some (both behind)) c) ≡ parts.Bool (body_query s p b ∷ body_query s p c ∷ []) [] []

-- `a OR b`: both are optional, whatever the operator
abbrev pub OrAllows : Type 0
OrAllows = (s : Setting) (p : Place) (behind : Option ℕ) (b c : BodyForm)
    → means s p (two b (Some (either behind)) c) ≡ parts.Bool [] (body_query s p b ∷ body_query s p c ∷ []) []

abbrev pub with_or : List Field → Setting
with_or fields = record { fields = fields; op = op.Or }

abbrev pub with_and : List Field → Setting
with_and fields = record { fields = fields; op = op.And }

-- `a b`: both are optional with Or
abbrev pub OrJoins : Type 0
OrJoins = (fields : List Field) (p : Place) (b c : BodyForm)
    → means (with_or fields) p (two b None c)
    ≡ parts.Bool [] (body_query (with_or fields) p b ∷ body_query (with_or fields) p c ∷ []) []

-- and both are required with And
abbrev pub AndJoins : Type 0
AndJoins = (fields : List Field) (p : Place) (b c : BodyForm)
    → means (with_and fields) p (two b None c)
    ≡ parts.Bool (body_query (with_and fields) p b ∷ body_query (with_and fields) p c ∷ []) [] []

-- `+a`
abbrev pub PlusRequires : Type 0
PlusRequires = (s : Setting) (p : Place) (b : BodyForm)
    → means s p (one (sign false) b) ≡ parts.Bool (body_query s p b ∷ []) [] []

-- `-a`
abbrev pub MinusProhibits : Type 0
MinusProhibits = (s : Setting) (p : Place) (b : BodyForm)
    → means s p (one (sign true) b) ≡ parts.Bool [] [] (body_query s p b ∷ [])

-- `NOT` is `-`, in each clause
abbrev pub NotIsMinus : Type 0
NotIsMinus = (s : Setting) (p : Place) (behind : Option ℕ) (q : QueryForm) (j : Option Conjunction) (b : BodyForm)
    → means s p (next q j (clause (Some (negation behind)) b)) ≡ means s p (next q j (clause (Some (sign true)) b))

-- `(a)` is `a`
abbrev pub ParenthesesMeanWhatTheyHold : Type 0
ParenthesesMeanWhatTheyHold = (s : Setting) (p : Place) (v : ValueForm)
    → value_query s p (group (first (clause None (body None v)))) ≡ value_query s p v

-- `field:(a b)` is `(field:a field:b)`, with any conjunction and modifiers
abbrev pub FieldGoesIn : Type 0
FieldGoesIn = (s : Setting) (p : Place) (f : FieldForm) (j : Option Conjunction) (m n : Option Modifier) (v w : ValueForm)
    → body_query s p (body (Some f) (group (next (first (clause m (body None v))) j (clause n (body None w)))))
    ≡ body_query s p (body None (group (next (first (clause m (body (Some f) v))) j (clause n (body (Some f) w)))))
