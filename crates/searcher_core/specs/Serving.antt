-- By which calls the lists of a door's seats go on where a request is served.
use Rattle.std.specs.Prelude.{◌≡◌, ◌⊎◌, List, map}
use Rattle.std.specs.Arc.{arc_value}
use Rattle.request_form.specs.declared.request.Request.{Request}
use Rattle.search_model.specs.declared.notes.Note.{Note}
use Rattle.search_model.specs.Noting.{AreNotesAfter, IsNote}
use Rattle.view_cells.specs.Seats.{own_list}
use Rattle.searcher_core.specs.Noting.{may_cache}
use Rattle.searcher_core.specs.RequestCalls.{FiltersAfter, ResultCall, RefusedResult, PageCalls, RefusedPage, page_of}
use Rattle.searcher_core.specs.Shows.{Shows}
use Rattle.searcher_core.specs.declared.seats.Seats.{Seats}
use Rattle.searcher_core.specs.declared.served.Served.{Served}

-- the calls that are made for the request, answered as the notes tell
pub record HasServed (w : Shows) (r : Request) (s : Served) (old new : Seats) : Type 0 where
  pub result : ResultCall w.view w.sizes r s.result (own_list old.results) (own_list new.results)
  pub filters : FiltersAfter w.view r s.result s.filters (own_list old.filters) (own_list new.filters)
  pub documents : PageCalls w.view (map arc_value s.docs.items) s.doc_hits (own_list old.documents) (own_list new.documents)

-- memory was wanting before there was a result
pub record HasNoResult (w : Shows) (r : Request) (old new : Seats) : Type 0 where
  pub result : RefusedResult w.view w.sizes r (own_list old.results) (own_list new.results) (own_list old.filters) (own_list new.filters)
  pub documents : own_list new.documents ≡ own_list old.documents

-- memory was wanting for the page
pub record HasNoPage (w : Shows) (r : Request) (old new : Seats) : Type 0 where
  pub note : Note
  pub notes : List Note
  pub note_is : IsNote r.q_cached note
  pub notes_are : AreNotesAfter note (may_cache r.filters) notes
  pub result : ResultCall w.view w.sizes r note (own_list old.results) (own_list new.results)
  pub filters : FiltersAfter w.view r note notes (own_list old.filters) (own_list new.filters)
  pub documents : RefusedPage w.view (page_of w.view r) (own_list old.documents) (own_list new.documents)

-- the first of these calls, and the end of what was owned
abbrev pub HasRefused : Shows → Request → Seats → Seats → Type 0
HasRefused w r old new = HasNoResult w r old new ⊎ HasNoPage w r old new
