use Rattle.std.proofs.Common.{rules, ◌≡◌, sym, ◌∙◌}
use Rattle.std.specs.Arc.{arc_value}
use Rattle.std.specs.FinSet.{len}
use Rattle.segment_postings.proofs.ViewLaws.{nothing_changes}
use Rattle.segment_postings.proofs.view.next_live.Goals as goal

pub returns-then-len-eq0 : goal.returns-then-len-eq0
returns-then-len-eq0 c =
    let same : arc_value c.in_ok-same.same ≡ arc_value c.args.live.now = search rules in
    let none : len c.args.deleted.now ≡ 0 = sym c.len.ensures.count ∙ c.if-len-eq0.true in
    nothing_changes (arc_value c.args.live.now) c.args.deleted.now (arc_value c.in_ok-same.same) c.args.size c.args.count c.if-count-eq0.true none same c.requires.within
