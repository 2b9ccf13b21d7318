-- The only door of a searcher: how it stays so, and that it is all doors.
use Rattle.std.proofs.Common.{◌≡◌, ℕ, zero, suc, List, [], ◌∷◌, Some, None, refl, sym, subst, ◌∙◌, arith}
use Rattle.std.specs.Prelude.{slice_get}
use Rattle.std.proofs.lemmas.Option.{same_Some}
use Rattle.view_cells.specs.declared.seat.Seat.{Seat}
use Rattle.view_cells.specs.Seats.{IsIdle, IsSameSeat, table_of, view_of}
use Rattle.view_cells.specs.Closing.{AllIdle, AreTogether, IsInRow}
use Rattle.searcher_core.specs.Doors.{AreCounted, AreNew}
use Rattle.searcher_core.specs.Seating.{AreSameSeats}
use Rattle.searcher_core.specs.declared.searcher.Door.{Door}
use Rattle.searcher_core.specs.declared.seats.Seats.{Seats}
use Rattle.searcher_books.specs.Closing.{AreAllDoors}
use Rattle.searcher_rows.specs.Only.{IsOnly, IsOnlySeat}

-- what holds of an element holds of each of the list of it alone
alone : {X : Type 0} (P : ℕ → X → Type 0) (x : X) → P 0 x → (i : ℕ) (y : X) → slice_get (x ∷ []) i ≡ Some y → P i y
alone P x p zero y e = subst (P 0) (same_Some x y e) p
alone P x p (suc i) y e = let no : None ≡ Some y = e in absurd (cc)

module _ {T W E : Type 0} where
  only_row : (s : Seat T W E) → IsIdle s → IsOnlySeat s → AllIdle (s ∷ [])
  only_row s idle only = record {
    each = alone (IsInRow 1) s (record { idle = idle; number = only.number; count = only.count });
    together = λ i j u t e f. alone (λ _ v. AreTogether v t) s (alone (λ _ v. AreTogether s v) s (record { table = refl; view = refl }) j t f) i u e;
  }

  still_only : (s t : Seat T W E) → IsSameSeat s t → IsOnlySeat s → IsOnlySeat t
  still_only s t same only = record { number = same.number ∙ only.number; count = same.count ∙ only.count }

-- a new door with the number 0, of one door
pub new_only : (d : Door) → AreNew 0 d.seats → AreCounted 1 d.seats → IsOnly d
new_only d new counted = record {
  filters = record { number = new.filter_number; count = counted.filters };
  results = record { number = new.result_number; count = counted.results };
  documents = record { number = new.document_number; count = counted.documents };
}

pub same_only : (d e : Door) → AreSameSeats d.seats e.seats → IsOnly d → IsOnly e
same_only d e same only = record {
  filters = still_only d.seats.filters e.seats.filters same.filters only.filters;
  results = still_only d.seats.results e.seats.results same.results only.results;
  documents = still_only d.seats.documents e.seats.documents same.documents only.documents;
}

pub all_doors : (d : Door) → IsOnly d → AreAllDoors (d ∷ [])
all_doors d only = record {
  some = omega arith;
  filters = only_row d.seats.filters d.seats.filters_rest.placed.idle only.filters;
  results = only_row d.seats.results d.seats.results_rest.placed.idle only.results;
  documents = only_row d.seats.documents d.seats.documents_rest only.documents;
}
