-- Short lists of lexemes on which the forms are tried.
use Rattle.std.specs.Prelude.{List, [], ◌∷◌, ◌++◌, true, false, Some, None, codes}
use Rattle.field_schema.specs.declared.field.FieldType.TheVariants as kind
use Rattle.field_schema.specs.declared.key.Key.TheVariants as key
use Rattle.query_tree.specs.declared.query.Query.{Query}
use Rattle.query_tree.specs.declared.query.Query.TheVariants as docs
use Rattle.query_tree.specs.declared.query.Query.TheViews as parts
use Rattle.query_lexemes.specs.declared.lexeme.What.{What}
use Rattle.query_lexemes.specs.declared.lexeme.What.TheVariants as what
use Rattle.query_lexemes.specs.declared.lexeme.Operator.TheVariants as operator
use Rattle.query_text.specs.declared.op.Op.TheVariants as op
use Rattle.query_text.specs.Reads.{Setting}
use Rattle.query_grammar.specs.Forms.{both, sign, negation, name, any, word, star, QueryForm, first, next, clause, body, single, group, TextForm, query, AreOfForms}

-- `a`, `b`, `cat:`, `*:`, `+`, `-`, `AND`, `OR` and `NOT`
abbrev pub a : What
a = what.Word (codes "a")

abbrev pub b : What
b = what.Word (codes "b")

abbrev pub cat : What
cat = what.Name (codes "cat") 0

abbrev pub every : What
every = what.Any 0 false

abbrev pub plus : What
plus = what.Sign false

abbrev pub minus : What
minus = what.Sign true

abbrev pub and_ : What
and_ = what.Operator operator.And None

abbrev pub or_ : What
or_ = what.Operator operator.Or None

abbrev pub not_ : What
not_ = what.Operator operator.Not None

-- `*`
abbrev pub any_value : What
any_value = what.Star

-- `(` and `)`
abbrev pub opening : What
opening = what.Opening

abbrev pub closing : What
closing = what.Closing

-- with the end of the text behind them
abbrev pub ended : List What → List What
ended ws = ws ++ what.Finish ∷ []

-- lexemes of a whole text that are of no tree
abbrev pub AreOfNoForms : List What → Type 0
AreOfNoForms ws = AreOfForms (ended ws) → ⊥

-- ---- the tree of `+cat:(a b) AND NOT *:*`

abbrev pub a_or_b : QueryForm
a_or_b =
    next (first (clause None (body None (single (word (codes "a")))))) None
    (clause None (body None (single (word (codes "b")))))

abbrev pub worked : TextForm
worked =
    query (next
    (first (clause (Some (sign false)) (body (Some (name (codes "cat") 0)) (group a_or_b)))) (Some (both None))
    (clause (Some (negation None)) (body (Some (any 0 false)) (single star))))

-- a schema with an indexed field `cat` of whole texts, and Or
abbrev pub setting : Setting
setting = record {
  fields =
      (record { name = codes "cat"; kind = kind.Str; multi = false; stored = true; indexed = true }) ∷ [];
  op = op.Or;
}

-- the documents that have `a` or `b` in the field, and not all others
abbrev pub worked_query : Query
worked_query =
    parts.Bool
    (parts.Bool [] (docs.Term 0 (key.Str (codes "a")) ∷ docs.Term 0 (key.Str (codes "b")) ∷ []) [] ∷ []) []
    (docs.All ∷ [])
