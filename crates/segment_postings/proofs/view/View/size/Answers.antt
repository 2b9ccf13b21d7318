use Rattle.std.proofs.Common.{ap, ◌∙◌}
use Rattle.segment_postings.specs.Views.{Indexed}
use Rattle.segment_postings.proofs.view.View.size.Goals as goal

pub returns : goal.returns
returns c = record {
  size = c.self.invariant.size ∙ ap (λ (v : Indexed). v.seen.size) c.self.view_is;
  most = c.self.invariant.most;
}
