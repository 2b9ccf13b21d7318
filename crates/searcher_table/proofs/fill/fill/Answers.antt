use Rattle.std.proofs.Common.{◌≡◌, ◌+◌, ◌∙◌, [], length, Some, refl, sym, ap, subst, arith}
use Rattle.std.specs.Arc.{arc_value}
use Rattle.std.specs.List.{AllByRecursion}
use Rattle.searcher_table.specs.declared.board.Task.TheVariants.{Filled}
use Rattle.searcher_table.proofs.Preparing.{begun_on}
use Rattle.searcher_table.proofs.Quiet.{quiet_here}
use Rattle.searcher_table.proofs.fill.fill.Goals as goal

pub loop-door-init : goal.loop-door-init
loop-door-init g c =
    let r = c.requires in
    let items = sym c.into_iter-door-iterator.ensures.into_iter_gives.0 in
    record {
      table = refl;
      bare = r.bare;
      begun = record { opener = r.opener; seen = quiet_here c.args.place.now.me.0.seen; legal = r.legal; back = refl; hand = r.hand };
      left = (let a = ap length items in let n = r.doors.count in omega arith);
      settings = subst (λ ds. AllByRecursion (λ e. g.D.Shown.setting e ≡ (arc_value c.args.table.now).shared.key.setting.value) ds) items r.doors.settings;
      unused = subst (λ ds. AllByRecursion (λ e. g.D.Shown.list e ≡ []) ds) items r.doors.unused;
      shown = (r.doors.same.0, r.doors.same.1, subst (λ ds. AllByRecursion (λ e. g.D.Shown.docs e ≡ r.doors.same.0) ds) items r.doors.same.1, λ n. absurd (n refl));
    }

pub loop-door-preserved : goal.loop-door-preserved
loop-door-preserved g c =
    let i = c.loop-door.invariant in
    let d = c.in-Some.door in
    let items = c.in-Some.ensures.steps.0 in
    let laid = c.lay.ensures.laid in
    let settings = subst (λ ds. AllByRecursion (λ e. g.D.Shown.setting e ≡ (arc_value c.args.table.now).shared.key.setting.value) ds) items i.settings in
    let unused = subst (λ ds. AllByRecursion (λ e. g.D.Shown.list e ≡ []) ds) items i.unused in
    let shown = subst (λ ds. AllByRecursion (λ e. g.D.Shown.docs e ≡ i.shown.0) ds) items i.shown.2 in
    record {
      table = c.lay.ensures.table ∙ i.table;
      bare = c.lay.ensures.bare;
      begun = begun_on _ c.args.place.now.me.0 c.loop-door.place.me.0 c.lay.new.place.me.0 (Filled c.args.slot c.loop-door.count) (Filled c.args.slot (c.loop-door.count + 1)) i.begun laid.begun;
      left = (let a = ap length items in let n = i.left in omega arith);
      settings = settings.1;
      unused = unused.1;
      shown = (i.shown.0, i.shown.1, shown.1, λ _. laid.filling ∙ ap (λ x. Some x) shown.0);
    }
