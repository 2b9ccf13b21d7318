use Rattle.std.proofs.Common.{◌≡◌, ap, sym, subst, ◌∙◌, IfOk}
use Rattle.std.specs.FinSet.{from_list}
use Rattle.query_tree.specs.Matches.{top}
use Rattle.query_eval.specs.Found.{found}
use Rattle.segment_postings.specs.Numbered.{IsNumbered, numbers}
use Rattle.served_index.specs.Standing.{matching}
use Rattle.served_index.proofs.Leaving.{nothing_where}
use Rattle.served_index.proofs.gone.matching_numbers.Goals as goal

pub returns-then-len-eq0-clause-found : goal.returns-then-len-eq0-clause-found
returns-then-len-eq0-clause-found c =
    let same = c.new-probe.ensures.view in
    c.new.ensures
    ∙ ap from_list (sym (nothing_where (λ d. top d.values c.args.query.now) c.args.view.now.seen c.live.result.now (subst IsNumbered same c.live.ensures.numbered)
    (c.live.ensures.numbers ∙ ap (λ v. from_list (numbers v)) same) (sym c.len.ensures.count ∙ c.if-len-eq0.true)))

pub returns-clause-found : goal.returns-clause-found
unfolding found
returns-clause-found c = subst (λ v. IfOk c.eval.result (λ s. s ≡ from_list (matching c.args.query.now v))) c.new-probe.ensures.view c.eval.ensures.found
