use Rattle.std.proofs.Common.{ap, sym, ◌∙◌}
use Rattle.std.specs.List.{list_any}
use Rattle.std.specs.Ordering.{nat_cmp}
use Rattle.std.specs.FinSet.{contains, contains-empty}
use Rattle.doc_sets.specs.Sets.{Numbers}
use Rattle.query_eval.proofs.Steps.{joined_step, nothing_left}
use Rattle.query_eval.proofs.sets.united.Goals as goal

pub returns-in_default : goal.returns-in_default
returns-in_default c = record {
  members = λ n.
      ap (λ (s : Numbers). contains s n) c.new.ensures
      ∙ contains-empty nat_cmp n
      ∙ sym (ap (list_any (λ (t : Numbers). contains t n)) (nothing_left c.joining.left.items c.pop_front.new.self.items c.in_default.ensures.items c.in_default.ensures.rest))
      ∙ c.joining.invariant n;
}

pub joining-preserved-in_ok-push_back-2 : goal.joining-preserved-in_ok-push_back-2
joining-preserved-in_ok-push_back-2 c = λ n.
    joined_step c.joining.left.items c.pop_front.new.self.items c.pop_front-in-joining.new.self.items c.push_back-in-joining.new.self.items c.in-Some-pop_front.first c.in-Some-pop_front-2.second c.in_ok-all.all n
    c.in-Some-pop_front.ensures.items c.in-Some-pop_front-2.ensures.items c.in_ok-push_back-2.ensures.items c.in_ok-all.ensures
    ∙ c.joining.invariant n

pub joining-preserved : goal.joining-preserved
joining-preserved c = λ n.
    joined_step c.joining.left.items c.pop_front.new.self.items c.pop_front-in-joining.new.self.items c.push_back-in-joining.new.self.items c.in-Some-pop_front.first c.in-Some-pop_front-2.second c.in_ok-all.all n
    c.in-Some-pop_front.ensures.items c.in-Some-pop_front-2.ensures.items c.in_ok-push_back-2.ensures.items c.in_ok-all.ensures
    ∙ c.joining.invariant n
