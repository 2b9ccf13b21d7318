use Rattle.std.proofs.Common.{◌≡◌, drop, ◌-◌, ◌≤◌, arith}
use Rattle.cache_machine.proofs.Fronts.{light_front-weighs}
use Rattle.cache_cells.proofs.store.push_within.Goals as goal

pub overflow_add-result : goal.overflow_add-result
overflow_add-result g c =
    let rest = c.lighten.ensures.rest in
    let light = light_front-weighs g.V.Value.weight (c.args.most - c.args.weight) (drop 1 c.push_first.new.entries.entries) in
    let fits = c.requires.light in
    omega arith
