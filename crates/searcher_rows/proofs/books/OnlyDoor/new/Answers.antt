use Rattle.std.proofs.Common.{◌≡◌, List, ◌∷◌, ap, sym, subst, rules}
use Rattle.std.specs.Prelude.{slice_get}
use Rattle.std.specs.Arc.{arc_value}
use Rattle.std.specs.Vec.Iter.{into_iter_items}
use Rattle.searcher_core.specs.declared.searcher.Door.{Door}
use Rattle.searcher_core.specs.Seating.{AreSeatsOf}
use Rattle.searcher_rows.proofs.OnlyDoors.{new_only}
use Rattle.searcher_rows.proofs.books.OnlyDoor.new.Goals as goal

pub invariant_of-result : goal.invariant_of-result
invariant_of-result c =
    let d : Door = c.in-Some.door in
    let first : c.in_ok-doors.doors.items ≡ d ∷ into_iter_items c.next.new.self = search rules in
    let new = c.in_ok-doors.ensures.doors.each 0 d (ap (λ (ds : List Door). slice_get ds 0) first) in
    (subst (λ v. AreSeatsOf v d.seats) (sym new.searcher) new.seats, new_only d new.unused new.counted)
