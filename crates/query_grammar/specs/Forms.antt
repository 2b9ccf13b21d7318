-- The grammar of the standard query parser as forms, and the lexemes that a tree of them has.
use Rattle.std.specs.Prelude.{ℕ, ◌≡◌, List, [], ◌∷◌, ◌++◌, Bool, Option, Some, None}
use Rattle.query_lexemes.specs.declared.lexeme.What.{What}
use Rattle.query_lexemes.specs.declared.lexeme.What.TheVariants as what
use Rattle.query_lexemes.specs.declared.lexeme.Operator.TheVariants as operator
use Rattle.query_lexemes.specs.declared.lexeme.Bound.{Bound}

-- ---- what is one lexeme, with the places that it tells

-- `AND` or `OR`
pub data Conjunction : Type 0 where
  both : (behind : Option ℕ) → Conjunction
  either : (behind : Option ℕ) → Conjunction

-- `+`, or `-` and `!`, or `NOT`
pub data Modifier : Type 0 where
  sign : (prohibits : Bool) → Modifier
  negation : (behind : Option ℕ) → Modifier

-- `field:`, or `*:`
pub data FieldForm : Type 0 where
  name : (text : List ℕ) (colon : ℕ) → FieldForm
  any : (colon : ℕ) (other : Bool) → FieldForm

-- a word, a word and `*`, a quoted text, `*`, or a range
pub data Single : Type 0 where
  word : (text : List ℕ) → Single
  prefix : (text : List ℕ) → Single
  quoted : (text : List ℕ) → Single
  star : Single
  range : (low : Bool) (from to : Bound) (high : Bool) → Single

-- ---- what has parts

mutual
  -- a query is a clause, or a query, an optional conjunction and a clause
  pub data QueryForm : Type 0 where
    first : ClauseForm → QueryForm
    next : QueryForm → Option Conjunction → ClauseForm → QueryForm

  -- a clause is an optional modifier and a body
  pub data ClauseForm : Type 0 where
    clause : Option Modifier → BodyForm → ClauseForm

  -- a body is an optional field and a value
  pub data BodyForm : Type 0 where
    body : Option FieldForm → ValueForm → BodyForm

  -- a value is one lexeme, or `(`, a query and `)`
  pub data ValueForm : Type 0 where
    single : Single → ValueForm
    group : QueryForm → ValueForm

-- a text is blank, or a query
pub data TextForm : Type 0 where
  blank : TextForm
  query : QueryForm → TextForm

-- ---- the lexemes of a tree

abbrev pub conjunction : Option Conjunction → List What
conjunction None = []
conjunction (Some (both behind)) = what.Operator operator.And behind ∷ []
conjunction (Some (either behind)) = what.Operator operator.Or behind ∷ []

abbrev pub modifier : Option Modifier → List What
modifier None = []
modifier (Some (sign prohibits)) = what.Sign prohibits ∷ []
modifier (Some (negation behind)) = what.Operator operator.Not behind ∷ []

abbrev pub field : Option FieldForm → List What
field None = []
field (Some (name text colon)) = what.Name text colon ∷ []
field (Some (any colon other)) = what.Any colon other ∷ []

abbrev pub lexeme : Single → What
lexeme (word text) = what.Word text
lexeme (prefix text) = what.Prefix text
lexeme (quoted text) = what.Quoted text
lexeme star = what.Star
lexeme (range low from to high) = what.Range low from to high

unfoldable mutual
  pub query_leaves : QueryForm → List What
  query_leaves (first c) = clause_leaves c
  query_leaves (next q j c) = query_leaves q ++ (conjunction j ++ clause_leaves c)

  pub clause_leaves : ClauseForm → List What
  clause_leaves (clause m b) = modifier m ++ body_leaves b

  pub body_leaves : BodyForm → List What
  body_leaves (body f v) = field f ++ value_leaves v

  pub value_leaves : ValueForm → List What
  value_leaves (single w) = lexeme w ∷ []
  value_leaves (group q) = what.Opening ∷ (query_leaves q ++ what.Closing ∷ [])

-- those of a whole text
abbrev pub leaves : TextForm → List What
leaves blank = what.Finish ∷ []
leaves (query q) = query_leaves q ++ what.Finish ∷ []

-- the lexemes are those of a tree
abbrev pub AreOfForms : List What → Type 0
AreOfForms ws = (t : TextForm) × (leaves t ≡ ws)
