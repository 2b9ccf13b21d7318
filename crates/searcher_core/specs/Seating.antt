-- The seats of a caller at the three caches of a searcher.
use Rattle.std.specs.Prelude.{◌≡◌}
use Rattle.segment_postings.specs.Numbered.{Numbered}
use Rattle.view_cells.specs.Seats.{IsSameSeat, view_of}
use Rattle.searcher_cells.specs.Making.{sight}
use Rattle.searcher_core.specs.Shows.{Shows}
use Rattle.searcher_core.specs.declared.seats.Seats.{Seats}

-- they are seats at caches of this searcher's view, of its sizes, with so many seats
pub record AreSeatsOf (w : Shows) (s : Seats) : Type 0 where
  pub filters : view_of s.filters ≡ sight w.view w.sizes.filters w.seats
  pub results : view_of s.results ≡ sight w.view w.sizes.results w.seats
  pub documents : view_of s.documents ≡ sight w.view w.sizes.documents w.seats

-- each is the same seat of the same cache
pub record AreSameSeats (s t : Seats) : Type 0 where
  pub filters : IsSameSeat s.filters t.filters
  pub results : IsSameSeat s.results t.results
  pub documents : IsSameSeat s.documents t.documents

-- For private clauses: they are seats at caches of this view.
pub record See (v : Numbered) (s : Seats) : Type 0 where
  pub filters : (view_of s.filters).view ≡ v
  pub results : (view_of s.results).view ≡ v
  pub documents : (view_of s.documents).view ≡ v
