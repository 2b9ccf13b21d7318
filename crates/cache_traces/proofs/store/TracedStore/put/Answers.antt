use Rattle.std.proofs.Common.{ap, ◌∙◌}
use Rattle.std.specs.Prelude.{nat_eq}
use Rattle.cache_traces.specs.declared.store_act.StoreAct.TheVariants.{Put}
use Rattle.cache_traces.specs.TracedStore.{one_more}
use Rattle.cache_traces.specs.Traces.{rules as of}
use Rattle.cache_traces.proofs.Storing.{store_goes_on}
use Rattle.cache_traces.proofs.store.TracedStore.put.Goals as goal

pub invariant_of-self-2 : goal.invariant_of-self-2
invariant_of-self-2 g c =
    let r = of nat_eq g.V.Value.weight g.V.Value.serves g.V.Counted.numbers g.V.Counted.keeps in
    let inside = c.self.inside in
    let act = Put c.args.number c.numbers-numbers.result in
    store_goes_on r inside.store c.store.new.self inside.records.items c.push_reserved.new.self.items c.args.seat act c.self.invariant
    (c.args.value, (0, c.numbers-numbers.ensures), c.in_ok-store.ensures.stored)
    (c.push_reserved.ensures.items ∙ ap (λ l. one_more l c.args.seat act) c.reserve.ensures.items)
