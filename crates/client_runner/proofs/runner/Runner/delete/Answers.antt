use Rattle.std.proofs.Common.{sym, ◌∙◌, ap}
use Rattle.std.specs.Result.{result_map_both}
use Rattle.request_form.specs.Deletes.{delete_of}
use Rattle.request_form.specs.Messages.{request_message}
use Rattle.request_form.specs.Params.{params_of}
use Rattle.request_form.specs.Requests.{is_no_memory}
use Rattle.run_laws.specs.CallReadings.{change_by}
use Rattle.run_history.specs.Tellings.{an_update}
use Rattle.client_runner.specs.Standings.{standing}
use Rattle.run_laws.specs.Bounds.{is_query}
use Rattle.client_runner.specs.Views.{request_view, verb_view}
use Rattle.client_runner.proofs.Answered.{accepted_follows, refusal_answers, wants_delete}
use Rattle.client_runner.proofs.runner.Runner.delete.Goals as goal

-- what the delete names was taken away
pub returns-in_ok-place-in-Ok-clause-ok : goal.returns-in_ok-place-in-Ok-clause-ok
returns-in_ok-place-in-Ok-clause-ok c =
    accepted_follows c.args.config.now c.args.head c.args.body.now (standing c.args.self.now) c.in_ok-reply-in-Ok.reply (request_view c.row.result) (change_by c.in-Ok.form) c.in_ok-place-in-Ok.place (standing c.remove.new.self)
    c.row.ensures c.in_ok-place-in-Ok.ensures.place c.in_ok-reply-in-Ok.ensures.shown c.in_ok-reply-in-Ok.ensures.notes
    (ap (λ v. is_query (verb_view v)) c.requires.verb)
    (wants_delete c.args.config.now c.args.head c.args.body.now c.requires.verb
    ∙ ap (λ d. result_map_both an_update (λ m. m) (result_map_both change_by request_message (delete_of c.args.config.now.schema.list d (params_of c.args.body.now)))) (sym c.defaults.ensures)
    ∙ ap (λ r. result_map_both an_update (λ m. m) (result_map_both change_by request_message r)) c.in-Ok.ensures)
    c.in_ok-place-in-Ok.ensures.ok

-- the fault is the first one, and no want of memory
pub returns-in-Err-clause-ok : goal.returns-in-Err-clause-ok
returns-in-Err-clause-ok c =
    refusal_answers c.args.config.now c.args.head c.args.body.now (standing c.args.self.now) (request_message c.in-Err.fault) c.refused_row.result (is_no_memory c.in-Err.fault)
    c.refused_row.ensures.fault c.refused_row.ensures.row
    (λ known.
    let told = rw known at c.in-Err.ensures in
    wants_delete c.args.config.now c.args.head c.args.body.now c.requires.verb
    ∙ ap (λ d. result_map_both an_update (λ m. m) (result_map_both change_by request_message (delete_of c.args.config.now.schema.list d (params_of c.args.body.now)))) (sym c.defaults.ensures)
    ∙ ap (λ r. result_map_both an_update (λ m. m) (result_map_both change_by request_message r)) told)
