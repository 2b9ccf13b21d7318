use Rattle.std.proofs.Common.{take}
use Rattle.served_index.proofs.Uniques.{AreFound}
use Rattle.served_index.proofs.gone.add_with_id.Given as goal

-- those of the postings so far that have the unique key
abbrev pub invariant-loop-posting : goal.invariant-loop-posting
invariant-loop-posting g l = AreFound (g.P.Reads.view l.initial.probe) (g.P.Reads.view l.probe) l.id l.initial.found.items l.found.items (take l.posting-index l.posting-items)
