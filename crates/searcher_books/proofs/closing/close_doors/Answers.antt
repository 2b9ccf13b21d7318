use Rattle.std.proofs.Common.{None, ap, sym, subst, ◌∙◌}
use Rattle.cache_traces.specs.Acts.{calls_of}
use Rattle.cache_traces.specs.StoreTraces.{store_calls_of}
use Rattle.view_cells.specs.Seats.{view_of}
use Rattle.shared_cells.specs.Fitting.{CellFits, StoreFits}
use Rattle.searcher_cells.specs.Making.{document_rules}
use Rattle.searcher_cells.specs.Sights.{FilterFits, ResultFits, DocumentFits}
use Rattle.searcher_books.specs.Closing.{filter_rules, result_rules}
use Rattle.searcher_books.proofs.Joining.{fits_each, keeps_each}
use Rattle.searcher_books.proofs.closing.close_doors.Goals as goal

pub returns-clause-filter_run : goal.returns-clause-filter_run
returns-clause-filter_run c i d at =
    let cell = c.close.result.cells in
    let v = view_of d.seats.filters in
    let e = c.into_trace-filters.ensures in
    let fits = fits_each (λ d. d.seats.filters) (λ v t. CellFits filter_rules (FilterFits v) v.size None v.seats t.cells) c.args.doors.items c.joined-last.result.filters c.close.result c.joined-last.ensures.filters c.close.ensures.fits i d at in
    (cell.cache, subst (λ t. CellFits filter_rules (FilterFits v) v.size None v.seats t) (λ j. record { keys = sym e.keys j; cache = cell.cache; steps = sym e.steps j }) fits)

pub returns-clause-filter_calls : goal.returns-clause-filter_calls
returns-clause-filter_calls c i d at =
    ap (calls_of i) c.into_trace-filters.ensures.steps
    ∙ keeps_each (λ d. d.seats.filters) (λ t n. calls_of n t.cells.steps) c.args.doors.items c.joined-last.result.filters c.close.result c.joined-last.ensures.filters c.close.ensures.lists c.close.ensures.distinct i d at

pub returns-clause-result_run : goal.returns-clause-result_run
returns-clause-result_run c i d at =
    let cell = c.close-2.result.cells in
    let v = view_of d.seats.results in
    let e = c.into_trace-results.ensures in
    let fits = fits_each (λ d. d.seats.results) (λ v t. CellFits result_rules (ResultFits v) v.size None v.seats t.cells) c.args.doors.items c.joined-last.result.results c.close-2.result c.joined-last.ensures.results c.close-2.ensures.fits i d at in
    (cell.cache, subst (λ t. CellFits result_rules (ResultFits v) v.size None v.seats t) (λ j. record { keys = sym e.keys j; cache = cell.cache; steps = sym e.steps j }) fits)

pub returns-clause-result_calls : goal.returns-clause-result_calls
returns-clause-result_calls c i d at =
    ap (calls_of i) c.into_trace-results.ensures.steps
    ∙ keeps_each (λ d. d.seats.results) (λ t n. calls_of n t.cells.steps) c.args.doors.items c.joined-last.result.results c.close-2.result c.joined-last.ensures.results c.close-2.ensures.lists c.close-2.ensures.distinct i d at

pub returns-clause-document_run : goal.returns-clause-document_run
returns-clause-document_run c i d at =
    let cell = c.close-3.result.cells in
    let v = view_of d.seats.documents in
    let fits = fits_each (λ d. d.seats.documents) (λ v t. StoreFits document_rules (DocumentFits v) v.size None t.cells) c.args.doors.items c.joined-last.result.documents c.close-3.result c.joined-last.ensures.documents c.close-3.ensures.fits i d at in
    (cell.kept, subst (λ t. StoreFits document_rules (DocumentFits v) v.size None t) (λ j. record { kept = cell.kept; steps = sym c.into_steps-documents.ensures j }) fits)

pub returns-clause-document_calls : goal.returns-clause-document_calls
returns-clause-document_calls c i d at =
    ap (store_calls_of i) c.into_steps-documents.ensures
    ∙ keeps_each (λ d. d.seats.documents) (λ t n. store_calls_of n t.cells.steps) c.args.doors.items c.joined-last.result.documents c.close-3.result c.joined-last.ensures.documents c.close-3.ensures.lists c.close-3.ensures.distinct i d at
