use Rattle.std.proofs.Common.{◌≡◌, ℕ, List, [], ◌∷◌, ap, sym, subst, rules}
use Rattle.std.specs.Prelude.{slice_get}
use Rattle.std.specs.Arc.{arc_value}
use Rattle.std.specs.Vec.Iter.{into_iter_items}
use Rattle.searcher_core.specs.declared.searcher.Door.{Door}
use Rattle.searcher_core.specs.Doors.{IsNewDoor}
use Rattle.searcher_core.specs.Seating.{AreSeatsOf}
use Rattle.searcher_core.specs.Shows.{Shows}
use Rattle.index_rows.proofs.door.KeptDoor.new.Goals as goal

seats_of : (w : Shows) (i : ℕ) (d : Door) → IsNewDoor w i d → AreSeatsOf (arc_value d.searcher) d.seats
seats_of w i d new = subst (λ v. AreSeatsOf v d.seats) (sym new.searcher) new.seats

pub invariant_of-result : goal.invariant_of-result
invariant_of-result c =
    let first : c.in_ok-doors.doors.items ≡ c.in-Some.door ∷ into_iter_items c.next.new.self = search rules in
    seats_of _ 0 c.in-Some.door (c.in_ok-doors.ensures.doors.each 0 c.in-Some.door (ap (λ (ds : List Door). slice_get ds 0) first))
