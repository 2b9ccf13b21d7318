-- The request by which a result is regenerated.
use Rattle.std.specs.Prelude.{map, pos, true, false}
use Rattle.field_schema.specs.declared.field.FieldList.TheVariants.{All}
use Rattle.query_tree.specs.declared.query.Query.{Query}
use Rattle.request_form.specs.declared.request.Filter.{Filter}
use Rattle.request_form.specs.declared.request.Request.{Request}
use Rattle.result_cache.specs.declared.key.ResultKey.{ResultKey}

-- a filter that is evaluated without its cache
abbrev pub past_caches : Query → Filter
past_caches q = record { query = q; cached = false; cost = pos 0 }

-- the key's query, filters and sort; its result is kept, and no page of it is asked for
abbrev pub request_of : ResultKey → Request
request_of key = record {
  q = key.q;
  q_cached = true;
  filters = map past_caches key.filters;
  sort = key.sort;
  start = 0;
  rows = 0;
  fields = All;
}
