use Rattle.std.proofs.Common.{sym, subst, ◌∙◌}
use Rattle.autowarm.specs.Listening.{IsHeard}
use Rattle.autowarm.proofs.Doors.{both_doors, still_seats}
use Rattle.autowarm.proofs.Hearing.{heard_by, heard_more}
use Rattle.autowarm.proofs.listening.listen.Goals as goal

pub serve-answer-requires-clause-door : goal.serve-answer-requires-clause-door
serve-answer-requires-clause-door g c = λ lives within. still_seats c.requires.door c.loop-request.invariant.door

pub loop-request-preserved : goal.loop-request-preserved
loop-request-preserved g c =
    let so = c.loop-request.invariant in
    let now = c.serve-answer.ensures in
    record {
      door = both_doors so.door now.door;
      view = now.view ∙ so.view;
      terms = now.terms ∙ so.terms;
      heard =
          heard_more c.args.searcher.now c.args.requests.now c.loop-request.request-index c.request-item.result c.is_ok.result
          c.args.seats.now c.loop-request.seats c.serve-answer.new.seats c.loop-request.served c.saturating_add-served.result c.counted.result
          c.loop-request-test.true c.request-item.is so.heard
          (subst (λ b. IsHeard c.args.searcher.now c.request-item.result b c.loop-request.seats c.serve-answer.new.seats) (sym c.is_ok.ensures.value)
          (heard_by c.args.searcher.now c.request-item.result c.serve-answer.result c.loop-request.seats c.serve-answer.new.seats now.calls now.no_memory))
          c.saturating_add-served.ensures c.counted.ensures;
    }
