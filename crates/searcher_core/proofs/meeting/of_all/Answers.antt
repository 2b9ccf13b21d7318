use Rattle.std.proofs.Common.{◌≡◌, ◌∷◌, [], refl, ap, sym, subst, ◌∙◌}
use Rattle.std.specs.Arc.{arc_value}
use Rattle.std.specs.FinSet.{from_list, len, empty_of_len}
use Rattle.doc_sets.specs.Sets.{Numbers}
use Rattle.segment_postings.specs.Numbered.{numbers}
use Rattle.searcher_core.specs.Meeting.{HasMet}
use Rattle.searcher_core.proofs.Lefts.{all_meet, none_met, some_met}
use Rattle.searcher_core.proofs.meeting.of_all.Goals as goal

pub returns-then-len-eq0-clause-met : goal.returns-then-len-eq0-clause-met
returns-then-len-eq0-clause-met g c =
    let v = g.P.Reads.view c.args.probe.now in
    let all : Numbers = from_list (numbers v) in
    let before = (g.P.Reads.counted c.args.probe.now).postings in
    let counts : c.len.result ≡ len all = c.len.ensures.count ∙ ap len c.live.ensures.numbers in
    let none : arc_value c.in_ok-new.field-0 ≡ all = c.in_ok-new.ensures.ok ∙ c.new.ensures ∙ sym (empty_of_len all (sym counts ∙ c.if-len-eq0.true)) in
    subst (λ s. HasMet v (c.args.query.now ∷ []) all s before before) (sym none)
    (none_met v c.args.query.now all c.len.result before c.live.ensures.numbered counts c.if-len-eq0.true)

pub returns-clause-met : goal.returns-clause-met
returns-clause-met g c =
    let v = g.P.Reads.view c.args.probe.now in
    let all : Numbers = from_list (numbers v) in
    some_met v c.args.query.now all c.in_ok-found.found (arc_value c.in_ok-new-2.field-0) c.len.result
    (g.P.Reads.counted c.args.probe.now).postings (g.P.Reads.counted c.eval.new.probe).postings
    c.live.ensures.numbered (c.len.ensures.count ∙ ap len c.live.ensures.numbers) c.if-len-eq0.false c.in_ok-found.ensures.found
    (c.in_ok-new-2.ensures.ok ∙ all_meet v c.args.query.now all c.in_ok-found.found c.live.ensures.numbered refl c.in_ok-found.ensures.found) c.in_ok-found.ensures.postings_count
