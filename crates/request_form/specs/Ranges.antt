-- What each request is that reads.
use Rattle.std.specs.Prelude.{◌≢◌, ◌≤◌}
use Rattle.std.specs.List.{AllPairs}
use Rattle.request_form.specs.declared.request.Filter.{Filter}
use Rattle.request_form.specs.declared.request.Request.{Request}

-- two filters have two queries
abbrev pub Differ : Filter → Filter → Type 0
Differ f g = f.query ≢ g.query

pub record IsRequest (r : Request) : Type 0 where
  pub start : r.start ≤ 2147483647
  pub rows : r.rows ≤ 2147483647
  pub filters : AllPairs Differ r.filters
