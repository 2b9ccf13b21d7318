use Rattle.std.proofs.Common.{◌≡◌, true, false, take}
use Rattle.std.specs.List.{list_all, list_any}
use Rattle.query_tree.specs.Matches.{matches}
use Rattle.query_eval.proofs.matching.+matching.Given as goal

abbrev pub invariant-all_hold-loop-query : goal.invariant-all_hold-loop-query
invariant-all_hold-loop-query l = list_all (matches l.doc.values) (take l.query-index l.queries) ≡ true

abbrev pub invariant-some_hold-loop-query : goal.invariant-some_hold-loop-query
invariant-some_hold-loop-query l = list_any (matches l.doc.values) (take l.query-index l.queries) ≡ false
