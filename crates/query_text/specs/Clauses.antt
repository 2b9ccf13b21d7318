-- Which clauses of a query are required, optional and prohibited.
use Rattle.std.specs.Prelude.{List, [], ◌∷◌, ◌++◌, Bool, true, false, if◌then◌else◌, Option, Some, None}
use Rattle.query_tree.specs.declared.query.Query.{Query}
use Rattle.query_tree.specs.declared.query.Query.TheViews as query
use Rattle.query_text.specs.declared.op.Op.{Op}
use Rattle.query_text.specs.declared.op.Op.TheVariants as op
use Rattle.query_text.specs.declared.level.Sign.{Sign}
use Rattle.query_text.specs.declared.level.Sign.TheVariants as sign
use Rattle.query_text.specs.declared.level.Clause.{Clause}
use Rattle.query_text.specs.declared.clause.Mark.{Mark}
use Rattle.query_text.specs.declared.clause.Mark.TheVariants as as_

-- a clause that is not prohibited, by the operator that joins clauses and the conjunctions before and behind it
abbrev pub mark_by : Op → Option Sign → Option Op → Option Op → Mark
mark_by o s before (Some op.And) = as_.Must
mark_by op.And s before (Some op.Or) = as_.Should
mark_by op.And s (Some op.Or) None = as_.Should
mark_by op.And s (Some op.And) None = as_.Must
mark_by op.And s None None = as_.Must
mark_by op.Or (Some s) before behind = as_.Must
mark_by op.Or None (Some op.And) behind = as_.Must
mark_by op.Or None (Some op.Or) behind = as_.Should
mark_by op.Or None None behind = as_.Should

-- how a clause counts
abbrev pub mark : Op → Option Op → Option Sign → Option Op → Mark
mark o before (Some sign.Prohibited) behind = as_.Not
mark o before (Some sign.Required) behind = mark_by o (Some sign.Required) before behind
mark o before None behind = mark_by o None before behind

-- the conjunction before the first of the clauses
abbrev pub conj_before : List Clause → Option Op
conj_before [] = None
conj_before (c ∷ cs) = c.before

abbrev pub same_mark : Mark → Mark → Bool
same_mark as_.Must as_.Must = true
same_mark as_.Should as_.Should = true
same_mark as_.Not as_.Not = true
same_mark m n = false

-- the query, where its mark is the one that is asked for
abbrev pub kept : Mark → Mark → Query → List Query
kept m n q = if same_mark m n then q ∷ [] else []

-- the queries of the clauses that count so
unfoldable pub marked : Mark → Op → List Clause → List Query
marked m o [] = []
marked m o (c ∷ cs) = kept m (mark o c.before c.sign (conj_before cs)) c.query ++ marked m o cs

-- the Boolean query of the clauses
unfoldable pub sorted : Op → List Clause → Query
sorted o cs = query.Bool (marked as_.Must o cs) (marked as_.Should o cs) (marked as_.Not o cs)

-- the query of one clause without a modifier
abbrev pub alone : Op → Clause → Option Sign → Query
alone o c None = c.query
alone o c (Some s) = sorted o (c ∷ [])

-- the query of the clauses
unfoldable pub joined : Op → List Clause → Query
joined o [] = sorted o []
joined o (c ∷ []) = alone o c c.sign
joined o (c ∷ d ∷ cs) = sorted o (c ∷ d ∷ cs)
