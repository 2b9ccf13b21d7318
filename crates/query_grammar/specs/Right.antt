-- Which trees of the forms are right: fields are known, values fit their fields, and the limits are kept.
use Rattle.std.specs.Prelude.{ℕ, suc, List, length, Bool, true, false, not, ◌&&◌, ◌||◌, nat_lt, nat_le, Option, Some, None, is_some}
use Rattle.std.specs.Option.{option_map_or}
use Rattle.field_schema.specs.declared.field.Field.{Field}
use Rattle.field_schema.specs.declared.field.FieldType.{FieldType}
use Rattle.query_text.specs.Readings.{indexed, kind_at, words_in}
use Rattle.query_text.specs.Faults.{is_long, is_no_number, is_whole, most_deep}
use Rattle.query_grammar.specs.Forms.{FieldForm, name, any, Single, word, prefix, quoted, star, range, QueryForm, first, next, ClauseForm, clause, BodyForm, body, ValueForm, single, group, TextForm, blank, query}
use Rattle.query_grammar.specs.Meaning.{Place, behind_field}

abbrev pub is_star : ValueForm → Bool
is_star (single (word text)) = false
is_star (single (prefix text)) = false
is_star (single (quoted text)) = false
is_star (single star) = true
is_star (single (range low from to high)) = false
is_star (group q) = false

-- an indexed field has the name, and `*:` stands before `*` alone
abbrev pub field_right : List Field → Option FieldForm → ValueForm → Bool
field_right fields None v = true
field_right fields (Some (name text colon)) v = is_some (indexed text fields)
field_right fields (Some (any colon other)) v = is_star v

-- there is a field, and it holds of its type
abbrev pub in_known : List Field → Place → (FieldType → Bool) → Bool
in_known fields p holds = option_map_or (λ f. holds (kind_at fields f)) p.field false

-- a text of a field of numbers is a number
abbrev pub fits : FieldType → Option (List ℕ) → Bool
fits k text = not (is_long (Some k) && is_no_number text)

-- a word of several tokens counts as a query in parentheses, with a clause for each
abbrev pub has_room : ℕ → ℕ → List (List ℕ) → Bool
has_room most depth words =
    not (nat_lt 1 (length words)) || (nat_lt depth most_deep && nat_le (length words) most)

-- a value of one lexeme, inside so many parentheses
abbrev pub single_right : List Field → ℕ → ℕ → Place → Single → Bool
single_right fields most depth p (word text) =
    in_known fields p (λ k. fits k (Some text) && has_room most depth (words_in (Some k) (Some text)))
single_right fields most depth p (prefix text) = in_known fields p (λ k. not (is_whole (Some k)))
single_right fields most depth p (quoted text) = in_known fields p (λ k. fits k (Some text))
single_right fields most depth p star = true
single_right fields most depth p (range low from to high) =
    in_known fields p (λ k. fits k from.text && fits k to.text)

unfoldable pub clause_count : QueryForm → ℕ
clause_count (first c) = 1
clause_count (next q j c) = suc (clause_count q)

unfoldable mutual
  -- each clause of a query is right, inside so many parentheses, with at most so many clauses in each query
  pub clauses_right : List Field → ℕ → ℕ → Place → QueryForm → Bool
  clauses_right fields most depth p (first c) = clause_right fields most depth p c
  clauses_right fields most depth p (next q j c) =
      clauses_right fields most depth p q && clause_right fields most depth p c

  pub clause_right : List Field → ℕ → ℕ → Place → ClauseForm → Bool
  clause_right fields most depth p (clause m b) = body_right fields most depth p b

  pub body_right : List Field → ℕ → ℕ → Place → BodyForm → Bool
  body_right fields most depth p (body f v) =
      field_right fields f v && value_right fields most depth (behind_field fields p f) v

  pub value_right : List Field → ℕ → ℕ → Place → ValueForm → Bool
  value_right fields most depth p (single w) = single_right fields most depth p w
  value_right fields most depth p (group q) =
      nat_lt depth most_deep && (clauses_right fields most (suc depth) p q && nat_le (clause_count q) most)

-- a whole text with a default field
abbrev pub text_right : List Field → ℕ → Option ℕ → TextForm → Bool
text_right fields most df blank = true
text_right fields most df (query q) =
    clauses_right fields most 0 (record { field = df; named = false }) q && nat_le (clause_count q) most
