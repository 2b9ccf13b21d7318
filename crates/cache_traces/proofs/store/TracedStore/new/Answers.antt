use Rattle.std.specs.Prelude.{nat_eq}
use Rattle.cache_traces.specs.Traces.{rules as of}
use Rattle.cache_traces.proofs.Storing.{store_begins}
use Rattle.cache_traces.proofs.store.TracedStore.new.Goals as goal

pub invariant_of-result : goal.invariant_of-result
invariant_of-result g c =
    let r = of nat_eq g.V.Value.weight g.V.Value.serves g.V.Counted.numbers g.V.Counted.keeps in
    store_begins r c.args.size c.args.greatest c.in_ok-store.store c.new-records.result.items c.in_ok-store.ensures c.new-records.ensures.items
