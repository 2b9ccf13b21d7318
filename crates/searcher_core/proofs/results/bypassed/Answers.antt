use Rattle.std.proofs.Common.{inl, inr, refl}
use Rattle.view_cells.specs.Seats.{own_list}
use Rattle.searcher_cells.proofs.Owning.{on_err}
use Rattle.searcher_core.proofs.Calling.{all_refused}
use Rattle.searcher_core.proofs.results.bypassed.Goals as goal

pub returns-in_err-entry-clause-no_memory : goal.returns-in_err-entry-clause-no_memory
returns-in_err-entry-clause-no_memory g c l = on_err c.from_residual.result (inr (inl (c.requires.past, refl, c.in_err-entry.ensures.no_memory)))

pub returns-in_err-entry-2-clause-no_memory : goal.returns-in_err-entry-2-clause-no_memory
returns-in_err-entry-2-clause-no_memory g c l =
    on_err c.from_residual-in_err-entry-2.result
    (inr (inl (
      c.requires.past,
      refl,
      all_refused (g.P.Reads.view c.args.probe.now) c.args.request.now.filters c.in_ok-entry.notes.items (own_list c.args.filters.now) (own_list c.made.new.filters)
          c.in_ok-entry.ensures.made.notes_are c.in_ok-entry.ensures.list,
    )))
