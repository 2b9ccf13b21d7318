use Rattle.std.proofs.Common.{refl}
use Rattle.query_text.specs.Clauses.{marked, sorted, joined}
use Rattle.query_grammar.specs.Forms.{query_leaves}
use Rattle.query_grammar.specs.Meaning.{query_clauses}
use Rattle.query_grammar.specs.Right.{clause_count, clauses_right}
use Rattle.query_grammar.proofs.trials.worked_query_has_a_tree.Goals as goal

pub returns-clause-forms : goal.returns-clause-forms
unfolding query_leaves
returns-clause-forms c = refl

pub returns-clause-right : goal.returns-clause-right
unfolding clauses_right clause_count
returns-clause-right c = refl

pub returns-clause-limit : goal.returns-clause-limit
unfolding clauses_right clause_count
returns-clause-limit c = refl

pub returns-clause-means : goal.returns-clause-means
unfolding query_clauses joined sorted marked
returns-clause-means c = refl
