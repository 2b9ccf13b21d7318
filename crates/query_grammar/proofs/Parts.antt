-- Parts of queries: what was read of a query, and of those that it is inside.
use Rattle.std.proofs.Common.{◌++◌, ◌∷◌, [], List, Option, None}
use Rattle.query_lexemes.specs.declared.lexeme.What.{What}
use Rattle.query_lexemes.specs.declared.lexeme.What.TheVariants as what
use Rattle.query_grammar.specs.Forms.{Conjunction, Modifier, FieldForm, QueryForm, first, next, ClauseForm, clause, body, ValueForm, conjunction, modifier, field, query_leaves}

-- the clauses of a query so far, and a conjunction behind them
pub data Past : Type 0 where
  nothing : Past
  some : QueryForm → Option Conjunction → Past

abbrev pub past_leaves : Past → List What
past_leaves nothing = []
past_leaves (some q j) = query_leaves q ++ conjunction j

-- what was read of a query
pub record Part : Type 0 where
  pub past : Past
  pub before : Option Modifier
  pub name : Option FieldForm

abbrev pub part_leaves : Part → List What
part_leaves p = past_leaves p.past ++ (modifier p.before ++ field p.name)

-- and of those that it is inside
abbrev pub all_leaves : Part → List Part → List What
all_leaves p [] = part_leaves p
all_leaves p (o ∷ os) = all_leaves o os ++ (what.Opening ∷ part_leaves p)

abbrev pub with_clause : Past → ClauseForm → QueryForm
with_clause nothing c = first c
with_clause (some q j) c = next q j c

abbrev pub put_value : Part → ValueForm → Part
put_value p v = record { past = some (with_clause p.past (clause p.before (body p.name v))) None; before = None; name = None }
