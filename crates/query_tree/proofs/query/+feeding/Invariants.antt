use Rattle.std.proofs.Common.{◌≡◌, fold, take}
use Rattle.std.specs.List.{flat_map}
use Rattle.query_tree.specs.Feed.{query_fed}
use Rattle.query_tree.proofs.query.+feeding.Given as goal

-- the hasher was fed the queries so far
abbrev pub invariant-feed_all-loop-query : goal.invariant-feed_all-loop-query
invariant-feed_all-loop-query g l = l.state ≡ fold g.H.Hasher.write l.initial.state (flat_map query_fed (take l.query-index l.queries))
