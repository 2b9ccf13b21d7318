use Rattle.std.proofs.Common.{◌≡◌, ◌≤◌, ◌+◌, drop, codes}
use Rattle.request_form.specs.Params.{values_of}
use Rattle.request_form.specs.Requests.{filters_of, query_in}
use Rattle.request_form.specs.Filtering.{Knows}
use Rattle.request_form.proofs.Filters.{adding}
use Rattle.request_form.proofs.request.read_filters.Given as goal

-- the filters so far, and those of the parameters that are left
abbrev pub invariant-loop-param : goal.invariant-loop-param
invariant-loop-param l = record {
  whole : adding (query_in l.schema.list l.df l.op l.most) (l.which + 1) (values_of (codes "fq") (drop l.param-index l.params)) l.filters.items
      ≡ filters_of l.schema.list l.df l.op l.most l.params;
  known : Knows l.seen l.filters.items;
  within : l.which ≤ l.param-index;
}
