use Rattle.std.proofs.Common.{◌≡◌, map, drop, take, subst}
use Rattle.std.specs.Arc.{arc_value}
use Rattle.view_cells.specs.Seats.{own_list}
use Rattle.searcher_core.specs.Noting.{IsNoted}
use Rattle.searcher_core.specs.Searches.{hits_of}
use Rattle.searcher_core.specs.Serving.{HasRefused, HasServed}
use Rattle.autowarm.proofs.PastCaches.{idle_step, refused_documents, refused_filters, refused_step, served_documents, served_filters, served_step}
use Rattle.autowarm.proofs.results.result_anew.Goals as goal

pub returns-clause-step : goal.returns-clause-step
returns-clause-step g c =
    let w = c.args.searcher.now in
    let old = c.args.seats.now in
    let new = c.serve.new.seats in
    let s = c.in_ok-served.served in
    let same = c.in_ok-request.ensures in
    served_step w c.args.key.now s old new
    (subst (λ r. HasServed w r s old new) same c.in_ok-served.ensures.calls)
    (subst (λ r. IsNoted r s) same c.in_ok-served.ensures.notes)

pub returns-clause-filters : goal.returns-clause-filters
returns-clause-filters g c =
    let w = c.args.searcher.now in
    let old = c.args.seats.now in
    let new = c.serve.new.seats in
    let s = c.in_ok-served.served in
    let same = c.in_ok-request.ensures in
    served_filters w c.args.key.now s old new
    (subst (λ r. HasServed w r s old new) same c.in_ok-served.ensures.calls)
    (subst (λ r. IsNoted r s) same c.in_ok-served.ensures.notes)

pub returns-clause-documents : goal.returns-clause-documents
returns-clause-documents g c =
    let w = c.args.searcher.now in
    let old = c.args.seats.now in
    let new = c.serve.new.seats in
    let s = c.in_ok-served.served in
    let same = c.in_ok-request.ensures in
    served_documents w c.args.key.now s old new
    (subst (λ r. HasServed w r s old new) same c.in_ok-served.ensures.calls)
    (subst (λ r. map arc_value s.docs.items ≡ take r.rows (drop r.start (hits_of w.view r))) same c.in_ok-served.ensures.docs)

pub returns-in_err-request-clause-step : goal.returns-in_err-request-clause-step
returns-in_err-request-clause-step g c =
    idle_step c.args.searcher.now c.args.key.now c.args.seats.now c.args.seats.now c.from_residual.result (own_list c.args.seats.now.results) c.from_residual.ensures.0

pub returns-in_err-served-clause-step : goal.returns-in_err-served-clause-step
returns-in_err-served-clause-step g c =
    let w = c.args.searcher.now in
    let old = c.args.seats.now in
    let new = c.serve.new.seats in
    refused_step w c.args.key.now old new c.from_residual-in_err-served.result c.from_residual-in_err-served.ensures.0
    (subst (λ r. HasRefused w r old new) c.in_ok-request.ensures c.in_err-served.ensures.no_memory)

pub returns-in_err-served-clause-filters : goal.returns-in_err-served-clause-filters
returns-in_err-served-clause-filters g c =
    let w = c.args.searcher.now in
    let old = c.args.seats.now in
    let new = c.serve.new.seats in
    refused_filters w c.args.key.now old new (subst (λ r. HasRefused w r old new) c.in_ok-request.ensures c.in_err-served.ensures.no_memory)

pub returns-in_err-served-clause-documents : goal.returns-in_err-served-clause-documents
returns-in_err-served-clause-documents g c =
    let w = c.args.searcher.now in
    let old = c.args.seats.now in
    let new = c.serve.new.seats in
    refused_documents w c.args.key.now old new (subst (λ r. HasRefused w r old new) c.in_ok-request.ensures c.in_err-served.ensures.no_memory)
