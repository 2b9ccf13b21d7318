use Rattle.std.proofs.Common.{refl}
use Rattle.std.proofs.lemmas.Result.{err_from_is_err_and}
use Rattle.script_form.proofs.Checks.{stops}
use Rattle.script_form.proofs.config.read_members.Goals as goal

pub returns-in_err-documents : goal.returns-in_err-documents
returns-in_err-documents c =
    let p = err_from_is_err_and c.from_residual-in_err-documents.result c.from_residual-in_err-documents.ensures.1 in
    rw (p.1, p.2, c.in_ok-read_number.ensures, c.in_ok-schema.ensures, c.in_ok-filters.ensures, c.in_ok-results.ensures) (stops c.in_err-documents.field-0.0 _ _ c.in_err-documents.ensures)

pub returns-in_err-window : goal.returns-in_err-window
returns-in_err-window c =
    let p = err_from_is_err_and c.from_residual-in_err-window.result c.from_residual-in_err-window.ensures.1 in
    rw (p.1, p.2, c.in_ok-read_number.ensures, c.in_ok-schema.ensures, c.in_ok-filters.ensures, c.in_ok-results.ensures, c.in_ok-documents.ensures) (stops c.in_err-window.field-0.0 _ _ c.in_err-window.ensures)

pub returns-in_err-most_docs : goal.returns-in_err-most_docs
returns-in_err-most_docs c =
    let p = err_from_is_err_and c.from_residual-in_err-most_docs.result c.from_residual-in_err-most_docs.ensures.1 in
    rw (p.1, p.2, c.in_ok-read_number.ensures, c.in_ok-schema.ensures, c.in_ok-filters.ensures, c.in_ok-results.ensures, c.in_ok-documents.ensures, c.in_ok-window.ensures) (stops c.in_err-most_docs.field-0.0 _ _ c.in_err-most_docs.ensures)

pub returns-in_err-max_warming : goal.returns-in_err-max_warming
returns-in_err-max_warming c =
    let p = err_from_is_err_and c.from_residual-in_err-max_warming.result c.from_residual-in_err-max_warming.ensures.1 in
    rw (p.1, p.2, c.in_ok-read_number.ensures, c.in_ok-schema.ensures, c.in_ok-filters.ensures, c.in_ok-results.ensures, c.in_ok-documents.ensures, c.in_ok-window.ensures, c.in_ok-most_docs.ensures) (stops c.in_err-max_warming.field-0.0 _ _ c.in_err-max_warming.ensures)

pub returns-in_err-cold : goal.returns-in_err-cold
returns-in_err-cold c =
    let p = err_from_is_err_and c.from_residual-in_err-cold.result c.from_residual-in_err-cold.ensures.1 in
    rw (p.1, p.2, c.in_ok-read_number.ensures, c.in_ok-schema.ensures, c.in_ok-filters.ensures, c.in_ok-results.ensures, c.in_ok-documents.ensures, c.in_ok-window.ensures, c.in_ok-most_docs.ensures, c.in_ok-max_warming.ensures) (stops c.in_err-cold.field-0.0 _ _ c.in_err-cold.ensures)

pub returns-in_err-most_clauses : goal.returns-in_err-most_clauses
returns-in_err-most_clauses c =
    let p = err_from_is_err_and c.from_residual-in_err-most_clauses.result c.from_residual-in_err-most_clauses.ensures.1 in
    rw (p.1, p.2, c.in_ok-read_number.ensures, c.in_ok-schema.ensures, c.in_ok-filters.ensures, c.in_ok-results.ensures, c.in_ok-documents.ensures, c.in_ok-window.ensures, c.in_ok-most_docs.ensures, c.in_ok-max_warming.ensures, c.in_ok-cold.ensures) (stops c.in_err-most_clauses.field-0.0 _ _ c.in_err-most_clauses.ensures)

pub returns-in_err-warmers : goal.returns-in_err-warmers
returns-in_err-warmers c =
    let p = err_from_is_err_and c.from_residual-in_err-warmers.result c.from_residual-in_err-warmers.ensures.1 in
    rw (p.1, p.2, c.in_ok-read_number.ensures, c.in_ok-schema.ensures, c.in_ok-filters.ensures, c.in_ok-results.ensures, c.in_ok-documents.ensures, c.in_ok-window.ensures, c.in_ok-most_docs.ensures, c.in_ok-max_warming.ensures, c.in_ok-cold.ensures, c.in_ok-most_clauses.ensures) (stops c.in_err-warmers.field-0.0 _ _ c.in_err-warmers.ensures)

pub returns-in_err-df : goal.returns-in_err-df
returns-in_err-df c =
    let p = err_from_is_err_and c.from_residual-in_err-df.result c.from_residual-in_err-df.ensures.1 in
    rw (p.1, p.2, c.in_ok-read_number.ensures, c.in_ok-schema.ensures, c.in_ok-filters.ensures, c.in_ok-results.ensures, c.in_ok-documents.ensures, c.in_ok-window.ensures, c.in_ok-most_docs.ensures, c.in_ok-max_warming.ensures, c.in_ok-cold.ensures, c.in_ok-most_clauses.ensures, c.in_ok-warmers.ensures) (stops c.in_err-df.field-0.0 _ _ c.in_err-df.ensures)

pub returns-in_err-first : goal.returns-in_err-first
returns-in_err-first c =
    let p = err_from_is_err_and c.from_residual-in_err-first.result c.from_residual-in_err-first.ensures.1 in
    rw (p.1, p.2, c.in_ok-read_number.ensures, c.in_ok-schema.ensures, c.in_ok-filters.ensures, c.in_ok-results.ensures, c.in_ok-documents.ensures, c.in_ok-window.ensures, c.in_ok-most_docs.ensures, c.in_ok-max_warming.ensures, c.in_ok-cold.ensures, c.in_ok-most_clauses.ensures, c.in_ok-warmers.ensures, c.in_ok-df.ensures) (stops c.in_err-first.field-0.0 _ _ c.in_err-first.ensures)

pub returns-in_err-fresh : goal.returns-in_err-fresh
returns-in_err-fresh c =
    let p = err_from_is_err_and c.from_residual-in_err-fresh.result c.from_residual-in_err-fresh.ensures.1 in
    rw (p.1, p.2, c.in_ok-read_number.ensures, c.in_ok-schema.ensures, c.in_ok-filters.ensures, c.in_ok-results.ensures, c.in_ok-documents.ensures, c.in_ok-window.ensures, c.in_ok-most_docs.ensures, c.in_ok-max_warming.ensures, c.in_ok-cold.ensures, c.in_ok-most_clauses.ensures, c.in_ok-warmers.ensures, c.in_ok-df.ensures, c.in_ok-first.ensures) (stops c.in_err-fresh.field-0.0 _ _ c.in_err-fresh.ensures)

pub returns : goal.returns
returns c = rw (c.in_ok-read_number.ensures, c.in_ok-schema.ensures, c.in_ok-filters.ensures, c.in_ok-results.ensures, c.in_ok-documents.ensures, c.in_ok-window.ensures, c.in_ok-most_docs.ensures, c.in_ok-max_warming.ensures, c.in_ok-cold.ensures, c.in_ok-most_clauses.ensures, c.in_ok-warmers.ensures, c.in_ok-df.ensures, c.in_ok-first.ensures, c.in_ok-fresh.ensures) refl
