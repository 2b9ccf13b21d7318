use Rattle.std.proofs.Common.{◌+◌, ◌<◌, ◌≤◌, length, sym, subst, ap, ◌∙◌, arith, List}
use Rattle.segment_postings.specs.declared.posting.Position.{Position}
use Rattle.query_eval.proofs.PositionWalks.{Starts, starts_none, starts_all, put_at, kept_at}
use Rattle.query_eval.proofs.phrase.followed.Goals.{then-begins_at+in_ok-push, else-begins_at}
use Rattle.query_eval.proofs.phrase.followed.Goals as goal

pub loop-position-init : goal.loop-position-init
loop-position-init c =
    subst (λ (ps : List Position). Starts c.args.held.now c.args.next.now c.args.offset 0 c.args.next.now ps) (sym c.new-found.ensures.items)
    (starts_none c.args.held.now c.args.next.now c.args.offset c.requires.held_rise c.requires.next_rise)

pub loop-position-preserved : goal.loop-position-preserved
loop-position-preserved c =
    let held = c.args.held.now in
    let i = c.loop-position.position-index in
    let rest = c.skip-rest.result.now in
    let within : i < length held = omega arith in
    elim c.if-begins_at.branch [
      | then-begins_at+in_ok-push w ↦
          put_at held c.args.next.now c.args.offset i c.loop-position.rest.now c.loop-position.found.items rest c.if-begins_at.found.items _ c.loop-position.invariant within c.skip-rest.ensures
          (sym c.begins_at.ensures ∙ w.if-begins_at.true) (ap (λ v. v.items) w.found-is ∙ w.in_ok-push.ensures.items)
      | else-begins_at w ↦
          subst (λ (ps : List Position). Starts held c.args.next.now c.args.offset (i + 1) rest ps) (sym (ap (λ v. v.items) w.found-is))
          (kept_at held c.args.next.now c.args.offset i c.loop-position.rest.now c.loop-position.found.items rest _ c.loop-position.invariant within c.skip-rest.ensures
          (sym c.begins_at.ensures ∙ w.if-begins_at.false))
    ]

pub returns : goal.returns
returns c =
    let whole : length c.args.held.now ≤ c.loop-position.position-index = omega arith in
    starts_all c.args.held.now c.args.next.now c.args.offset c.loop-position.position-index c.loop-position.rest.now c.loop-position.found.items whole c.loop-position.invariant
