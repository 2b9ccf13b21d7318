use Rattle.std.proofs.Common.{◌∙◌, ap}
use Rattle.std.specs.Result.{result_map_both}
use Rattle.doc_model.specs.ReadDoc.{is_no_memory}
use Rattle.search_model.specs.Live.{added}
use Rattle.search_model.specs.Messages.{doc_message}
use Rattle.run_history.specs.Tellings.{an_update}
use Rattle.client_runner.specs.Standings.{standing}
use Rattle.run_laws.specs.Bounds.{is_query}
use Rattle.client_runner.specs.Views.{request_view, verb_view}
use Rattle.client_runner.proofs.Answered.{accepted_follows, refusal_answers, wants_add}
use Rattle.client_runner.proofs.runner.Runner.update.Goals as goal

-- the document was read
pub returns-in_ok-place-in-Ok-clause-ok : goal.returns-in_ok-place-in-Ok-clause-ok
returns-in_ok-place-in-Ok-clause-ok c =
    accepted_follows c.args.config.now c.args.head c.args.body.now (standing c.args.self.now) c.in_ok-reply-in-Ok.reply (request_view c.row.result) (added c.in-Ok.doc) c.in_ok-place-in-Ok.place (standing c.add.new.self)
    c.row.ensures c.in_ok-place-in-Ok.ensures.place c.in_ok-reply-in-Ok.ensures.shown c.in_ok-reply-in-Ok.ensures.notes
    (ap (λ v. is_query (verb_view v)) c.requires.verb)
    (wants_add c.args.config.now c.args.head c.args.body.now c.requires.verb ∙ ap (λ r. result_map_both an_update (λ m. m) (result_map_both added doc_message r)) c.in-Ok.ensures.read)
    c.in_ok-place-in-Ok.ensures.ok

-- the fault is the first one, and no want of memory
pub returns-in-Err-clause-ok : goal.returns-in-Err-clause-ok
returns-in-Err-clause-ok c =
    refusal_answers c.args.config.now c.args.head c.args.body.now (standing c.args.self.now) (doc_message c.in-Err.fault) c.refused_doc.result (is_no_memory c.in-Err.fault)
    c.refused_doc.ensures.fault c.refused_doc.ensures.row
    (λ known.
    let told = rw known at c.in-Err.ensures.read in
    wants_add c.args.config.now c.args.head c.args.body.now c.requires.verb ∙ ap (λ r. result_map_both an_update (λ m. m) (result_map_both added doc_message r)) told)
