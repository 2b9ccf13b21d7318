use Rattle.std.proofs.Common.{◌≡◌, take}
use Rattle.searcher_core.specs.Seating.{AreSameSeats}
use Rattle.autowarm.specs.Listening.{AreHeard}
use Rattle.autowarm.proofs.listening.listen.Given as goal

-- the requests so far
abbrev pub invariant-loop-request : goal.invariant-loop-request
invariant-loop-request g l = record {
  door : AreSameSeats l.fn.seats l.seats;
  view : g.P.Reads.view l.probe ≡ g.P.Reads.view l.fn.probe;
  terms : g.P.Reads.terms l.probe ≡ g.P.Reads.terms l.fn.probe;
  heard : AreHeard l.searcher (take l.request-index l.requests) l.served l.fn.seats l.seats;
}
