use Rattle.std.proofs.Common.{◌≡◌, ◌+◌, sym, ◌∙◌, ap, codes, refl, subst, ℕ, List, length, false, true}
use Rattle.std.specs.Prelude.{Result}
use Rattle.std.specs.Result.{result_map_both}
use Rattle.request_form.specs.Messages.{request_message}
use Rattle.request_form.specs.Params.{params_of}
use Rattle.request_form.specs.Requests.{is_no_memory, request_of}
use Rattle.request_form.specs.declared.request.Defaults.{Defaults}
use Rattle.request_form.specs.declared.request.Request.{Request}
use Rattle.request_form.specs.declared.fault.RequestFault.{RequestFault}
use Rattle.script_form.specs.declared.config.Config.{Config}
use Rattle.search_model.specs.Answer.{Asked}
use Rattle.run_laws.specs.CallReadings.{asked_by, defaults_of, query_of}
use Rattle.run_history.specs.Tellings.{an_answer}
use Rattle.served_index.specs.IndexState.{IndexState}
use Rattle.client_runner.specs.declared.runner.Runner.{Runner}
use Rattle.client_runner.specs.Rooms.{HasRoom}
use Rattle.client_runner.specs.Standings.{acquired, standing}
use Rattle.run_laws.specs.Bounds.{is_query}
use Rattle.client_runner.specs.Views.{request_view, verb_view}
use Rattle.client_runner.proofs.Answered.{answered_follows, refusal_answers, wants_query}
use Rattle.client_runner.proofs.runner.Runner.query.Goals as goal

-- what a request that was read asks for
abbrev query_told : Result Request RequestFault → Result Asked (List ℕ)
query_told = result_map_both asked_by request_message

-- by the configuration's defaults
by_defaults : (config : Config) (body : List ℕ) (d : Defaults) → d ≡ defaults_of config
    → result_map_both an_answer (λ m. m) (query_of config body) ≡ result_map_both an_answer (λ m. m) (query_told (request_of config.schema.list d (params_of body)))
by_defaults config body d same = ap (λ x. result_map_both an_answer (λ m. m) (query_told (request_of config.schema.list x (params_of body)))) (sym same)

-- the fault is the first one, and no want of memory
pub returns-in-Err-clause-ok : goal.returns-in-Err-clause-ok
returns-in-Err-clause-ok g c =
    refusal_answers c.args.config.now c.args.head c.args.body.now (standing c.args.self.now) (request_message c.in-Err.fault) c.refused_row.result (is_no_memory c.in-Err.fault)
    c.refused_row.ensures.fault c.refused_row.ensures.row
    (λ known.
    let told = rw known at c.in-Err.ensures.request in
    wants_query c.args.config.now c.args.head c.args.body.now c.requires.verb ∙ by_defaults c.args.config.now c.args.body.now c.defaults.result c.defaults.ensures
    ∙ ap (λ r. result_map_both an_answer (λ m. m) (query_told r)) told)

-- the caches may change, and nothing else that is told of a run
same_index : (r : Runner) (index : IndexState) → index ≡ r.index → standing (record r { index = index }) ≡ standing r
same_index r index same = ap (λ (k : IndexState). standing (record r { index = k })) same

-- it is answered
pub returns-clause-ok : goal.returns-clause-ok
returns-clause-ok g c =
    answered_follows c.args.config.now c.args.head c.args.body.now (standing c.args.self.now) c.in_ok-reply.reply (request_view c.row.result)
    (asked_by c.in-Ok.request) c.in-Ok.request c.args.self.now.current.generation c.acquire-ticket.result (standing c.acquire-ticket.new.self)
    c.row.ensures refl c.acquire-ticket.ensures.ticket c.in_ok-reply.ensures.shown c.in_ok-reply.ensures.notes
    (ap (λ v. is_query (verb_view v)) c.requires.verb)
    (ap (λ d. request_of c.args.config.now.schema.list d (params_of c.args.body.now)) (sym c.defaults.ensures) ∙ c.in-Ok.ensures.request)
    (wants_query c.args.config.now c.args.head c.args.body.now c.requires.verb ∙ by_defaults c.args.config.now c.args.body.now c.defaults.result c.defaults.ensures
    ∙ ap (λ r. result_map_both an_answer (λ m. m) (query_told r)) c.in-Ok.ensures.request)
    (c.acquire-ticket.ensures.acquired ∙ ap acquired (same_index c.args.self.now c.found_reply.new.index c.in_ok-reply.ensures.stays))

pub returns-clause-ready : goal.returns-clause-ready
returns-clause-ready g c n ready =
    c.acquire-ticket.ensures.ready n
    (subst (λ (k : IndexState). HasRoom (n + 1) (record c.args.self.now { index = k })) (sym c.in_ok-reply.ensures.stays) ready)
