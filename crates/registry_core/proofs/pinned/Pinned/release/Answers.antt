use Rattle.registry_core.proofs.Holdings.{same_seat, releases_one}
use Rattle.registry_core.proofs.pinned.Pinned.release.Goals as goal

pub returns : goal.returns
returns g c =
    let p = c.args.self in
    record {
      released = c.release.ensures;
      prolongs = (releases_one p.pin c.release.result g.D.Shown.list p.free c.release.ensures).0;
      seat = same_seat p.lock;
    }
