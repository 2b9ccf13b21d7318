use Rattle.segment_postings.proofs.Laying.{Laid}
use Rattle.segment_postings.proofs.laid.Laid.new.Given as goal

abbrev pub invariant-loop-occurrence : goal.invariant-loop-occurrence
invariant-loop-occurrence l = Laid l.found l.occurrence-index l.terms.items l.places.items
