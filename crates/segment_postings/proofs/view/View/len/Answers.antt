use Rattle.std.proofs.Common.{length, map, ap, ◌∙◌}
use Rattle.std.specs.Arc.{arc_value}
use Rattle.std.specs.FinSet.{len}
use Rattle.segment_postings.specs.Views.{Indexed, all_docs}
use Rattle.segment_postings.proofs.ViewLaws.{len_numbers, live_within}
use Rattle.segment_postings.proofs.view.View.len.Goals as goal

pub returns : goal.returns
returns c =
    let parts = map arc_value c.self.inside.parts.items in
    c.len.ensures.count ∙ ap len c.deref.ensures ∙ len_numbers (arc_value c.self.inside.live) (all_docs parts) (live_within (arc_value c.self.inside.live) c.self.inside.size parts c.self.invariant) ∙ ap (λ (v : Indexed). length v.seen.list) c.self.view_is
