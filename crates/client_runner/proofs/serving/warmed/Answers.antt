use Rattle.std.proofs.Common.{◌≡◌, ap, sym, subst, ◌∙◌, rules}
use Rattle.std.specs.Arc.{arc_value}
use Rattle.autowarm.specs.Listening.{AreHeard}
use Rattle.autowarm.specs.Warming.{AreWarmed}
use Rattle.client_runner.specs.Warmings.{IsWarmedBy, plan_of}
use Rattle.client_runner.proofs.serving.warmed.Goals as goal

pub returns-clause-warmed : goal.returns-clause-warmed
returns-clause-warmed g c = record {
  unused = c.in_ok-door.door.seats;
  warm = c.warm.new.new;
  report = c.warm.result;
  served = c.listen.result;
  is_unused = c.in_ok-door.ensures.unused;
  warmed =
      subst (λ p. AreWarmed (arc_value c.in_ok-door.door.searcher) p c.warm.result c.args.old.now.seats c.warm.new.old c.in_ok-door.door.seats c.warm.new.new) c.plan_of-plan.ensures
      (subst (λ w. AreWarmed w c.plan_of-plan.result c.warm.result c.args.old.now.seats c.warm.new.old c.in_ok-door.door.seats c.warm.new.new) c.deref-3.ensures c.warm.ensures.warmed);
  heard = search rules;
}
