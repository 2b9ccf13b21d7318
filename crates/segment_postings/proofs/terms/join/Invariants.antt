use Rattle.std.proofs.Common.{take, map}
use Rattle.segment_postings.proofs.JoinedTerms.{Joined}
use Rattle.segment_postings.proofs.terms.join.Given as goal

abbrev pub invariant-loop-term : goal.invariant-loop-term
invariant-loop-term l = Joined l.initial.found.items l.found.items (map (λ t. t.key) (take l.term-index l.terms)) l.most
