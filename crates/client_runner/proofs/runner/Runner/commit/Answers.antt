use Rattle.std.proofs.Common.{◌∙◌, ap, refl, ◌+◌, Bool, cond, Ok}
use Rattle.std.specs.Result.{result_map_both}
use Rattle.request_form.specs.Messages.{request_message}
use Rattle.request_form.specs.Requests.{is_no_memory}
use Rattle.search_model.specs.Live.{nothing}
use Rattle.run_laws.specs.CallReadings.{commit_told}
use Rattle.run_history.specs.Tellings.{a_searcher, an_update, form_wants}
use Rattle.client_runner.specs.Standings.{standing}
use Rattle.run_laws.specs.Bounds.{is_query}
use Rattle.client_runner.specs.Views.{request_view, verb_view}
use Rattle.client_runner.proofs.Answered.{accepted_follows, opened_follows, refusal_answers, wants_commit}
use Rattle.client_runner.proofs.Readings.{commit_reads, is_false, is_true}
use Rattle.client_runner.proofs.runner.Runner.commit.Goals as goal

-- the fault is the first one, and no want of memory
pub returns-in-Err-clause-ok : goal.returns-in-Err-clause-ok
returns-in-Err-clause-ok g c =
    refusal_answers c.args.config.now c.args.head c.args.body.now (standing c.args.self.now) (request_message c.in-Err.fault) c.refused_row.result (is_no_memory c.in-Err.fault)
    c.refused_row.ensures.fault c.refused_row.ensures.row
    (λ known.
    let told = rw known at c.in-Err.ensures in
    wants_commit c.args.config.now c.args.head c.args.body.now c.requires.verb
    ∙ ap (λ r. result_map_both form_wants (λ m. m) r) (commit_reads c.args.body.now ∙ ap commit_told told))

-- it opens no searcher
pub returns-then-not-form-clause-ok : goal.returns-then-not-form-clause-ok
returns-then-not-form-clause-ok g c =
    accepted_follows c.args.config.now c.args.head c.args.body.now (standing c.args.self.now) c.in_ok-reply.reply (request_view c.row.result) nothing c.take_place-place.result (standing c.take_place-place.new.self)
    c.row.ensures c.take_place-place.ensures.place c.in_ok-reply.ensures.shown c.in_ok-reply.ensures.notes
    (ap (λ v. is_query (verb_view v)) c.requires.verb)
    (wants_commit c.args.config.now c.args.head c.args.body.now c.requires.verb
    ∙ ap (λ r. result_map_both form_wants (λ m. m) r) (commit_reads c.args.body.now ∙ ap commit_told c.in-Ok.ensures)
    ∙ ap (λ (b : Bool). Ok (cond b a_searcher (an_update nothing))) (is_false c.in-Ok.form.opens c.if-not-form.true))
    c.take_place-place.ensures.taken

-- it opens one
pub returns-clause-ok : goal.returns-clause-ok
returns-clause-ok g c =
    opened_follows c.args.config.now c.args.head c.args.body.now (standing c.args.self.now) c.in_ok-reply.reply (request_view c.row-2.result)
    c.in_ok-place.place (c.args.self.now.current.generation + 1) (standing c.open.new.self)
    c.row-2.ensures c.in_ok-place.ensures.place refl c.in_ok-reply.ensures.shown c.in_ok-reply.ensures.notes
    (ap (λ v. is_query (verb_view v)) c.requires.verb)
    (wants_commit c.args.config.now c.args.head c.args.body.now c.requires.verb
    ∙ ap (λ r. result_map_both form_wants (λ m. m) r) (commit_reads c.args.body.now ∙ ap commit_told c.in-Ok.ensures)
    ∙ ap (λ (b : Bool). Ok (cond b a_searcher (an_update nothing))) (is_true c.in-Ok.form.opens c.if-not-form.false))
    c.requires.warming c.requires.ready.generation c.in_ok-place.ensures.ok
