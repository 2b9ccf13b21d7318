use Rattle.std.proofs.Common.{◌≡◌, map, sym, subst, ◌∙◌, ap, Bor, rules, filter}
use Rattle.std.specs.List.Sorted.{IsPermutation, IsSortedByKey, IsStableByKey}
use Rattle.std.specs.Ordering.{int_cmp}
use Rattle.std.proofs.lemmas.List.Sorted.{IsPermutation-map}
use Rattle.std.proofs.lemmas.Fn.{always_returns_same}
use Rattle.std.proofs.lemmas.List.{take_all}
use Rattle.request_form.specs.declared.request.Filter.{Filter}
use Rattle.searcher_core.specs.Searches.{uncached}
use Rattle.searcher_core.proofs.Costs.{sorted_now, stable_now}
use Rattle.searcher_core.proofs.meeting.by_cost.Goals as goal

pub returns : goal.returns
returns c =
    let now : Bor Filter → Filter = λ f. f.now in
    let all : map now c.loop-filter.turns.items ≡ uncached c.args.filters.now =
    c.loop-filter.invariant ∙ ap uncached (take_all c.loop-filter.filter-index c.args.filters.now c.loop-filter-test.false) in
    record {
      same = subst (λ fs. IsPermutation fs (map now c.sort_by_key.new.self.items)) all (IsPermutation-map now _ _ c.in_ok-sort_by_key.ensures.permutation);
      rising = sorted_now c.sort_by_key.new.self.items (c.in_ok-sort_by_key.ensures.sorted (λ f. f.now.cost) (always_returns_same _ _ _ (λ a r q k. search rules)));
      ties =
          subst (λ fs. IsStableByKey (λ (f : Filter). f.cost) int_cmp fs (map now c.sort_by_key.new.self.items)) all
          (stable_now c.loop-filter.turns.items c.sort_by_key.new.self.items (c.in_ok-sort_by_key.ensures.stable (λ f. f.now.cost) (always_returns_same _ _ _ (λ a r q k. search rules))));
    }
