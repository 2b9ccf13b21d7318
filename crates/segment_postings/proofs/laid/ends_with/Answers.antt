use Rattle.std.proofs.Common.{sym, ◌∙◌, arith}
use Rattle.segment_postings.proofs.Laying.{ends_at}
use Rattle.segment_postings.proofs.laid.ends_with.Goals as goal

pub returns-in-len1-up : goal.returns-in-len1-up
returns-in-len1-up c = c.eq.ensures ∙ sym (ends_at c.args.key.now c.args.terms.now c.last-item.result (omega arith) c.last-item.is)
