-- What queries mean, as a user's guide says it.
use Rattle.std.proofs.Common.{◌≡◌, ◌∷◌, [], ℕ, List, Option, Some, false, refl}
use Rattle.field_schema.specs.declared.field.Field.{Field}
use Rattle.query_tree.specs.declared.query.Query.TheViews as parts
use Rattle.query_text.specs.declared.op.Op.{Op}
use Rattle.query_text.specs.declared.op.Op.TheVariants as op
use Rattle.query_text.specs.Clauses.{marked, sorted, joined}
use Rattle.query_text.specs.Reads.{Setting}
use Rattle.query_grammar.specs.Forms.{both, either, sign, BodyForm}
use Rattle.query_grammar.specs.Meaning.{Place, query_clauses, body_query}
use Rattle.query_grammar.specs.Guide.{means, two, one, AndRequires, OrAllows, OrJoins, AndJoins, PlusRequires, MinusProhibits, NotIsMinus, ParenthesesMeanWhatTheyHold, FieldGoesIn}

abbrev setting : List Field → Op → Setting
setting fields o = record { fields = fields; op = o }

and_by : (fields : List Field) (o : Op) (p : Place) (behind : Option ℕ) (b c : BodyForm)
    → means (setting fields o) p (two b (Some (both behind)) c) ≡ parts.Bool (body_query (setting fields o) p b ∷ body_query (setting fields o) p c ∷ []) [] []
unfolding query_clauses joined sorted marked
and_by fields op.And p behind b c = refl
and_by fields op.Or p behind b c = refl

or_by : (fields : List Field) (o : Op) (p : Place) (behind : Option ℕ) (b c : BodyForm)
    → means (setting fields o) p (two b (Some (either behind)) c) ≡ parts.Bool [] (body_query (setting fields o) p b ∷ body_query (setting fields o) p c ∷ []) []
unfolding query_clauses joined sorted marked
or_by fields op.And p behind b c = refl
or_by fields op.Or p behind b c = refl

plus_by : (fields : List Field) (o : Op) (p : Place) (b : BodyForm)
    → means (setting fields o) p (one (sign false) b) ≡ parts.Bool (body_query (setting fields o) p b ∷ []) [] []
unfolding query_clauses joined sorted marked
plus_by fields op.And p b = refl
plus_by fields op.Or p b = refl

pub and_requires : AndRequires
and_requires s p behind b c = and_by s.fields s.op p behind b c

pub or_allows : OrAllows
or_allows s p behind b c = or_by s.fields s.op p behind b c

pub or_joins : OrJoins
unfolding query_clauses joined sorted marked
or_joins fields p b c = refl

pub and_joins : AndJoins
unfolding query_clauses joined sorted marked
and_joins fields p b c = refl

pub plus_requires : PlusRequires
plus_requires s p b = plus_by s.fields s.op p b

pub minus_prohibits : MinusProhibits
unfolding query_clauses joined sorted marked
minus_prohibits s p b = refl

pub not_is_minus : NotIsMinus
unfolding query_clauses
not_is_minus s p behind q j b = refl

pub parentheses_mean_what_they_hold : ParenthesesMeanWhatTheyHold
unfolding query_clauses joined
parentheses_mean_what_they_hold s p v = refl

pub field_goes_in : FieldGoesIn
unfolding query_clauses
field_goes_in s p f j m n v w = refl
