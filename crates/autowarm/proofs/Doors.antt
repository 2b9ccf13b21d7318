-- The seats of one door, from call to call.
use Rattle.std.proofs.Common.{◌∙◌}
use Rattle.searcher_core.specs.Seating.{AreSameSeats, AreSeatsOf}
use Rattle.searcher_core.specs.Shows.{Shows}
use Rattle.searcher_core.specs.declared.seats.Seats.{Seats}
use Rattle.searcher_core.proofs.Resting.{both_seats}

pub both_doors : {s t u : Seats} → AreSameSeats s t → AreSameSeats t u → AreSameSeats s u
both_doors a b = record {
  filters = both_seats a.filters b.filters;
  results = both_seats a.results b.results;
  documents = both_seats a.documents b.documents;
}

pub still_seats : {w : Shows} {s t : Seats} → AreSeatsOf w s → AreSameSeats s t → AreSeatsOf w t
still_seats of same = record {
  filters = same.filters.view ∙ of.filters;
  results = same.results.view ∙ of.results;
  documents = same.documents.view ∙ of.documents;
}
