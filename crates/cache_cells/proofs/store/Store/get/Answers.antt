use Rattle.cache_cells.proofs.Putting.{bounded_brought}
use Rattle.cache_cells.proofs.store.Store.get.Goals as goal

pub invariant_of-self : goal.invariant_of-self
invariant_of-self g c =
    rw c.promote.ensures.entries (bounded_brought g.V.Value.weight g.K.PartialEq.eq c.args.key.now c.self.inside.greatest c.self.inside.total c.self.inside.entries c.self.invariant)
