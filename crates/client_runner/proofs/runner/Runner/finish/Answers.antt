use Rattle.std.proofs.Common.{rules, map, sym, subst}
use Rattle.std.specs.List.Sorted.{IsNonDecreasingBy, IsPermutation}
use Rattle.std.proofs.lemmas.List.Sorted.{IsNonDecreasingBy-from_sort_by_key, IsPermutation-map}
use Rattle.run_laws.specs.Rows.{RequestRow}
use Rattle.client_runner.specs.Views.{request_view}
use Rattle.client_runner.proofs.Ended.{under_map}
use Rattle.client_runner.proofs.runner.Runner.finish.Goals as goal

pub returns-clause-rows : goal.returns-clause-rows
returns-clause-rows c =
    subst (IsPermutation (map request_view c.args.self.rows.items)) (sym c.new.ensures) (IsPermutation-map request_view _ _ c.sort_unstable_by_key.ensures.permutation)

pub returns-clause-sorted : goal.returns-clause-sorted
returns-clause-sorted c =
    let up = IsNonDecreasingBy-from_sort_by_key (λ r. r.line) _ c.sort_unstable_by_key.ensures.sorted (λ a r q k. search rules) in
    subst (IsNonDecreasingBy (λ (r : RequestRow). r.line)) (sym c.new.ensures) (under_map request_view (λ (r : RequestRow). r.line) _ up)
