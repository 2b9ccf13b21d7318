-- Doors that have the seats of three caches, in their order.
use Rattle.std.proofs.Common.{◌≡◌, ℕ, List, map, Some, ap, subst, sym, ◌∙◌}
use Rattle.std.specs.Prelude.{Result, Ok, Err, IfOk, slice_get}
use Rattle.std.specs.Option.{option_map}
use Rattle.std.specs.Arc.{arc_value}
use Rattle.std.specs.List.{AllByRecursion}
use Rattle.std.proofs.lemmas.Option.{slice_get-map}
use Rattle.view_cells.specs.Seats.{AreSeats}
use Rattle.searcher_cells.specs.Making.{sight}
use Rattle.searcher_core.specs.declared.searcher.Door.{Door}
use Rattle.searcher_core.specs.Doors.{AreDoors, AreNew, AreTogether, IsNewDoor}
use Rattle.searcher_core.specs.Seating.{AreSeatsOf}
use Rattle.searcher_core.specs.Shows.{Shows}
use Rattle.searcher_core.proofs.Resting.{nothing_called, one_at}

mapped : {A B : Type 0} (f : A → B) (xs : List A) (i : ℕ) (x : A) → slice_get xs i ≡ Some x → slice_get (map f xs) i ≡ Some (f x)
mapped f xs i x is = slice_get-map f xs i ∙ ap (option_map f) is

module _ (w : Shows) (doors : List Door) (same : AllByRecursion (λ d. arc_value d.searcher ≡ w) doors)
    (fs : AreSeats (sight w.view w.sizes.filters w.seats) w.seats (map (λ d. d.seats.filters) doors))
    (rs : AreSeats (sight w.view w.sizes.results w.seats) w.seats (map (λ d. d.seats.results) doors))
    (ds : AreSeats (sight w.view w.sizes.documents w.seats) w.seats (map (λ d. d.seats.documents) doors)) where
  new_door : (i : ℕ) (d : Door) → slice_get doors i ≡ Some d → IsNewDoor w i d
  new_door i d is =
      let f = fs.each i d.seats.filters (mapped (λ (e : Door). e.seats.filters) doors i d is) in
      let r = rs.each i d.seats.results (mapped (λ (e : Door). e.seats.results) doors i d is) in
      let o = ds.each i d.seats.documents (mapped (λ (e : Door). e.seats.documents) doors i d is) in
      record {
        searcher = one_at (λ (e : Door). arc_value e.searcher ≡ w) doors same i d is;
        seats = record { filters = f.view; results = r.view; documents = o.view };
        counted = record { filters = f.count; results = r.count; documents = o.count };
        unused = record {
          filter_number = f.number;
          result_number = r.number;
          document_number = o.number;
          filter_calls = nothing_called (sight w.view w.sizes.filters w.seats) w.seats i d.seats.filters f;
          result_calls = nothing_called (sight w.view w.sizes.results w.seats) w.seats i d.seats.results r;
          document_calls = nothing_called (sight w.view w.sizes.documents w.seats) w.seats i d.seats.documents o;
        };
      }

  pub doors_are : AreDoors w doors
  doors_are = record {
    each = new_door;
    together = λ i j d e hd he. record {
      filters = fs.one_table i j d.seats.filters e.seats.filters (mapped (λ (x : Door). x.seats.filters) doors i d hd) (mapped (λ (x : Door). x.seats.filters) doors j e he);
      results = rs.one_table i j d.seats.results e.seats.results (mapped (λ (x : Door). x.seats.results) doors i d hd) (mapped (λ (x : Door). x.seats.results) doors j e he);
      documents = ds.one_table i j d.seats.documents e.seats.documents (mapped (λ (x : Door). x.seats.documents) doors i d hd) (mapped (λ (x : Door). x.seats.documents) doors j e he);
    };
  }
