use Rattle.std.proofs.Common.{◌≡◌, length, map, take, drop, inl, inr, sym, ap, subst, ◌∙◌, All}
use Rattle.view_cells.specs.Seats.{own_list, view_of}
use Rattle.searcher_cells.proofs.Owning.{on_err}
use Rattle.searcher_core.specs.RequestCalls.{FiltersAfter, PageCalls, RefusedPage, RefusedResult, ResultCall, page_of}
use Rattle.searcher_core.proofs.Resting.{both_seats}
use Rattle.std.specs.Arc.{arc_value}
use Rattle.result_cache.specs.declared.entry.Entry.{Entry}
use Rattle.segment_postings.specs.Numbered.{IsLive, Numbered}
use Rattle.searcher_core.specs.Seating.{AreSeatsOf, See}
use Rattle.searcher_core.specs.Shows.{Shows}
use Rattle.searcher_core.specs.declared.seats.Seats.{Seats}
use Rattle.searcher_core.specs.Meeting.{docs_at}
use Rattle.searcher_core.specs.Searches.{hits_of}
use Rattle.searcher_core.proofs.Pages.{docs_are, found_is, numbers_live}
use Rattle.searcher_core.proofs.serving.serve.Goals as goal

-- the seats are at caches of the view that the probe reads
they_see : (w : Shows) (v : Numbered) (s : Seats) → AreSeatsOf w s → v ≡ w.view → See v s
they_see w v s of is = record {
  filters = ap (λ x. x.view) of.filters ∙ sym is;
  results = ap (λ x. x.view) of.results ∙ sym is;
  documents = ap (λ x. x.view) of.documents ∙ sym is;
}

pub documents-requires-clause-live : goal.documents-requires-clause-live
documents-requires-clause-live g c =
    let v = g.P.Reads.view c.args.probe.now in
    let numbers = c.page_of-numbers.result.now in
    subst (λ w. All (IsLive w) numbers) (sym c.in_ok-given.ensures.stays.view)
    (numbers_live v c.args.request.now (arc_value c.in_ok-given.given.entry) c.live-live.ensures.numbered c.in_ok-given.ensures.given.entry_is numbers
    (c.page_of-numbers.ensures ∙ ap (λ ns. take c.args.request.now.rows (drop c.args.request.now.start ns)) (c.get.ensures ∙ ap (λ (e : Entry). e.ids) c.deref.ensures)))

pub returns-clause-found : goal.returns-clause-found
returns-clause-found g c =
    let v = g.P.Reads.view c.args.probe.now in
    ap (λ (e : Entry). e.found) c.deref-2.ensures
    ∙ subst (λ w. (arc_value c.in_ok-given.given.entry).found ≡ length (hits_of w c.args.request.now)) c.requires.view
    (found_is v c.args.request.now (arc_value c.in_ok-given.given.entry) c.live-live.ensures.numbered c.in_ok-given.ensures.given.entry_is)

pub returns-clause-docs : goal.returns-clause-docs
returns-clause-docs g c =
    let v = g.P.Reads.view c.args.probe.now in
    let numbers = c.page_of-numbers.result.now in
    c.in_ok-docs.ensures.docs ∙ ap (λ w. docs_at w numbers) c.in_ok-given.ensures.stays.view
    ∙ docs_are v c.args.request.now (arc_value c.in_ok-given.given.entry) c.live-live.ensures.numbered c.in_ok-given.ensures.given.entry_is numbers
    (c.page_of-numbers.ensures ∙ ap (λ ns. take c.args.request.now.rows (drop c.args.request.now.start ns)) (c.get.ensures ∙ ap (λ (e : Entry). e.ids) c.deref.ensures))
    ∙ ap (λ w. take c.args.request.now.rows (drop c.args.request.now.start (hits_of w c.args.request.now))) c.requires.view

pub result_of-requires-clause-view : goal.result_of-requires-clause-view
result_of-requires-clause-view g c κs within = they_see c.args.searcher.now (g.P.Reads.view c.args.probe.now) c.args.seats.now c.requires.door c.requires.view

pub documents-requires-clause-seen : goal.documents-requires-clause-seen
documents-requires-clause-seen g c =
    c.in_ok-given.ensures.stays.view ∙ c.requires.view ∙ sym (ap (λ x. x.view) (c.in_ok-given.ensures.seats.documents.view ∙ c.requires.door.documents))

pub returns-in_err-given-clause-no_memory : goal.returns-in_err-given-clause-no_memory
returns-in_err-given-clause-no_memory g c =
    let old = c.args.seats.now in
    let new = c.result_of.new.seats in
    on_err c.from_residual.result (inl (record {
      result =
          subst (λ v. RefusedResult v c.args.searcher.now.sizes c.args.request.now (own_list old.results) (own_list new.results) (own_list old.filters) (own_list new.filters)) c.requires.view
          (subst (λ z. RefusedResult (g.P.Reads.view c.args.probe.now) z c.args.request.now (own_list old.results) (own_list new.results) (own_list old.filters) (own_list new.filters)) c.sizes-sizes.ensures.sizes
          c.in_err-given.ensures.no_memory);
      documents = c.in_err-given.ensures.documents;
    }))

pub returns-in_err-docs-clause-door : goal.returns-in_err-docs-clause-door
returns-in_err-docs-clause-door g c = record {
  filters = c.in_ok-given.ensures.seats.filters;
  results = c.in_ok-given.ensures.seats.results;
  documents = both_seats c.in_ok-given.ensures.seats.documents c.in_err-docs.ensures.back.seat;
}

pub returns-clause-door : goal.returns-clause-door
returns-clause-door g c = record {
  filters = c.in_ok-given.ensures.seats.filters;
  results = c.in_ok-given.ensures.seats.results;
  documents = both_seats c.in_ok-given.ensures.seats.documents c.in_ok-docs.ensures.back.seat;
}

pub returns-in_err-docs-clause-no_memory : goal.returns-in_err-docs-clause-no_memory
returns-in_err-docs-clause-no_memory g c =
    let v = g.P.Reads.view c.args.probe.now in
    let w = c.args.searcher.now in
    let old = c.args.seats.now in
    let new = c.result_of.new.seats in
    let r = c.args.request.now in
    let given = c.in_ok-given.given in
    let by_sizes = subst (λ z. ResultCall v z r given.result (own_list old.results) (own_list new.results)) c.sizes-sizes.ensures.sizes c.in_ok-given.ensures.result in
    let numbers = c.page_of-numbers.result.now in
    let seen = c.in_ok-given.ensures.stays.view in
    let page =
    ap (λ x. docs_at x numbers) seen
    ∙ docs_are v r (arc_value given.entry) c.live-live.ensures.numbered c.in_ok-given.ensures.given.entry_is numbers
    (c.page_of-numbers.ensures ∙ ap (λ ns. take r.rows (drop r.start ns)) (c.get.ensures ∙ ap (λ (e : Entry). e.ids) c.deref.ensures))
    ∙ ap (λ x. page_of x r) c.requires.view in
    on_err c.from_residual-in_err-docs.result (inr (record {
      note = given.result;
      notes = given.filters.items;
      note_is = c.in_ok-given.ensures.given.result_is;
      notes_are = c.in_ok-given.ensures.given.notes_are;
      result = subst (λ x. ResultCall x w.sizes r given.result (own_list old.results) (own_list new.results)) c.requires.view by_sizes;
      filters = subst (λ x. FiltersAfter x r given.result given.filters.items (own_list old.filters) (own_list new.filters)) c.requires.view c.in_ok-given.ensures.filters;
      documents =
          subst (λ l. RefusedPage w.view (page_of w.view r) l (own_list c.documents.new.seat)) c.in_ok-given.ensures.documents
          (subst (λ ds. RefusedPage w.view ds (own_list new.documents) (own_list c.documents.new.seat)) page
          (subst (λ x. RefusedPage x (docs_at (g.P.Reads.view c.result_of.new.probe) numbers) (own_list new.documents) (own_list c.documents.new.seat)) (seen ∙ c.requires.view)
          c.in_err-docs.ensures.no_memory));
    }))

pub returns-clause-calls : goal.returns-clause-calls
returns-clause-calls g c =
    let v = g.P.Reads.view c.args.probe.now in
    let w = c.args.searcher.now in
    let old = c.args.seats.now in
    let new = c.result_of.new.seats in
    let r = c.args.request.now in
    let given = c.in_ok-given.given in
    let by_sizes = subst (λ z. ResultCall v z r given.result (own_list old.results) (own_list new.results)) c.sizes-sizes.ensures.sizes c.in_ok-given.ensures.result in
    record {
      result = subst (λ x. ResultCall x w.sizes r given.result (own_list old.results) (own_list new.results)) c.requires.view by_sizes;
      filters =
          subst (λ ns. FiltersAfter w.view r given.result ns (own_list old.filters) (own_list new.filters)) (sym c.from_vec.ensures)
          (subst (λ x. FiltersAfter x r given.result given.filters.items (own_list old.filters) (own_list new.filters)) c.requires.view c.in_ok-given.ensures.filters);
      documents =
          subst (λ l. PageCalls w.view (map arc_value c.in_ok-docs.docs.items) c.in_ok-docs.doc_hits l (own_list c.documents.new.seat)) c.in_ok-given.ensures.documents
          (subst (λ x. PageCalls x (map arc_value c.in_ok-docs.docs.items) c.in_ok-docs.doc_hits (own_list new.documents) (own_list c.documents.new.seat)) (c.in_ok-given.ensures.stays.view ∙ c.requires.view)
          c.in_ok-docs.ensures.list);
    }
