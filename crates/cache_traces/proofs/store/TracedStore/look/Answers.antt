use Rattle.std.proofs.Common.{ap, ◌∙◌}
use Rattle.std.specs.Prelude.{nat_eq}
use Rattle.cache_traces.specs.declared.store_act.StoreAct.TheVariants.{Looked}
use Rattle.cache_traces.specs.TracedStore.{one_more}
use Rattle.cache_traces.specs.Traces.{rules as of}
use Rattle.cache_traces.proofs.Storing.{store_goes_on, look_follows}
use Rattle.cache_traces.proofs.store.TracedStore.look.Goals as goal

pub invariant_of-self-2 : goal.invariant_of-self-2
invariant_of-self-2 g c =
    let r = of nat_eq g.V.Value.weight g.V.Value.serves g.V.Counted.numbers g.V.Counted.keeps in
    let inside = c.self.inside in
    let found = c.in_ok-value in
    let act = Looked c.args.number c.is_some-hit.result in
    store_goes_on r inside.store c.get.new.self inside.records.items c.push_reserved.new.self.items c.args.seat act c.self.invariant
    (look_follows r c.args.number inside.store c.get.new.self found.value c.is_some-hit.result found.ensures.value found.ensures.hit found.ensures.missed c.is_some-hit.ensures)
    (c.push_reserved.ensures.items ∙ ap (λ l. one_more l c.args.seat act) c.reserve.ensures.items)
