-- What a tree of the forms means.
use Rattle.std.specs.Prelude.{ℕ, List, [], ◌∷◌, ◌++◌, Bool, true, false, if◌then◌else◌, Option, Some, None}
use Rattle.std.specs.Option.{option_map_or}
use Rattle.field_schema.specs.declared.field.Field.{Field}
use Rattle.field_schema.specs.declared.field.FieldType.{FieldType}
use Rattle.query_tree.specs.declared.query.Query.{Query}
use Rattle.query_tree.specs.declared.query.Query.TheVariants as query
use Rattle.query_text.specs.declared.op.Op.{Op}
use Rattle.query_text.specs.declared.op.Op.TheVariants as op
use Rattle.query_text.specs.Clauses.{joined}
use Rattle.query_text.specs.Levels.{top}
use Rattle.query_text.specs.Readings.{indexed, kind_at, words_in, word as a_word, prefix as a_prefix, term, range as a_range}
use Rattle.query_text.specs.Reads.{Setting, sign_of}
use Rattle.query_grammar.specs.Forms.{Conjunction, both, either, Modifier, sign, negation, FieldForm, name, any, Single, word, prefix, quoted, star, range, QueryForm, first, next, ClauseForm, clause, BodyForm, body, ValueForm, single, group, TextForm, blank, query as a_query}
use Rattle.query_grammar.specs.Fitting.{TypeOf}

-- where a value stands: its field, and whether `field:` or `*:` before it, or before a query that it is in, says so
pub record Place : Type 0 where
  pub field : Option ℕ
  pub named : Bool

-- behind a field, where there is one
abbrev pub behind_field : List Field → Place → Option FieldForm → Place
behind_field fields p None = p
behind_field fields p (Some (name text colon)) = record { field = indexed text fields; named = true }
behind_field fields p (Some (any colon other)) = record { field = None; named = true }

-- a query of the field and its type; a value without a field is not right
abbrev pub in_field : Setting → Place → (FieldType → ℕ → Query) → Query
in_field s p q = option_map_or (λ f. q (kind_at s.fields f) f) p.field query.All

-- a value of one lexeme
abbrev pub single_query : Setting → Place → Single → Query
single_query s p (word text) = in_field s p (λ k f. a_word s.op k f text (words_in (Some k) (Some text)))
single_query s p (prefix text) = in_field s p (λ k f. a_prefix k f text)
single_query s p (quoted text) = in_field s p (λ k f. term k f text (words_in (Some k) (Some text)))
single_query s p star = option_map_or query.Exists (if p.named then p.field else None) query.All
single_query s p (range low from to high) = in_field s p (λ k f. a_range k f low from.text to.text high)

abbrev pub conjunction_op : Option Conjunction → Option Op
conjunction_op None = None
conjunction_op (Some (both behind)) = Some op.And
conjunction_op (Some (either behind)) = Some op.Or

abbrev pub Sign : Type 0
Sign = TypeOf (sign_of true)

abbrev pub modifier_sign : Option Modifier → Option Sign
modifier_sign None = None
modifier_sign (Some (sign prohibits)) = Some (sign_of prohibits)
modifier_sign (Some (negation behind)) = Some (sign_of true)

abbrev ItemOf : {A : Type 0} → List A → Type 0
ItemOf {A} xs = A

-- what `joined` joins: a query with the conjunction before it and its sign
abbrev pub Clause : Type 0
Clause = ItemOf (top None).clauses

unfoldable mutual
  pub query_clauses : Setting → Place → QueryForm → List Clause
  query_clauses s p (first c) = clause_of s p None c ∷ []
  query_clauses s p (next q j c) = query_clauses s p q ++ clause_of s p (conjunction_op j) c ∷ []

  pub clause_of : Setting → Place → Option Op → ClauseForm → Clause
  clause_of s p j (clause m b) = record { before = j; sign = modifier_sign m; query = body_query s p b }

  pub body_query : Setting → Place → BodyForm → Query
  body_query s p (body f v) = value_query s (behind_field s.fields p f) v

  pub value_query : Setting → Place → ValueForm → Query
  value_query s p (single w) = single_query s p w
  value_query s p (group q) = joined s.op (query_clauses s p q)

-- a whole text with a default field
abbrev pub meaning : Setting → Option ℕ → TextForm → Query
meaning s df blank = joined s.op []
meaning s df (a_query q) = joined s.op (query_clauses s (record { field = df; named = false }) q)
