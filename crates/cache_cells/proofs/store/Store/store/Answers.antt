use Rattle.cache_cells.proofs.Putting.{bounded_pushed}
use Rattle.cache_cells.proofs.store.Store.store.Goals as goal

pub invariant_of-self-in-Some-weight_within : goal.invariant_of-self-in-Some-weight_within
invariant_of-self-in-Some-weight_within g c =
    let first = c.in_ok-self-inside-in-Some.ensures.first in
    rw (c.in_ok-self-inside-in-Some.ensures.weight, c.in-Some.is, first)
    (bounded_pushed g.V.Value.weight g.K.PartialEq.eq c.args.key c.args.value c.self.inside.entries c.in-Some.greatest c.self.invariant.some c.self.invariant.small)
