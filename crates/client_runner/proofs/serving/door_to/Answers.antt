use Rattle.std.proofs.Common.{◌≡◌, List, [], ◌∷◌, ap, rules}
use Rattle.std.specs.Prelude.{slice_get}
use Rattle.std.specs.Vec.Iter.{into_iter_items}
use Rattle.searcher_core.specs.declared.searcher.Door.{Door}
use Rattle.client_runner.proofs.serving.door_to.Goals as goal

pub returns : goal.returns
returns c =
    let first : c.in_ok-doors.doors.items ≡ c.in-Some.door ∷ into_iter_items c.next.new.self = search rules in
    c.in_ok-doors.ensures.doors.each 0 c.in-Some.door (ap (λ (ds : List Door). slice_get ds 0) first)
