-- Which request a list of parameters reads to, and its first fault.
use Rattle.std.specs.Prelude.{ℕ, ◌+◌, List, [], ◌∷◌, map, filter, Bool, true, false, not, if◌then◌else◌, Option, Result, Ok, Err, codes, unwrap_or}
use Rattle.std.specs.Option.{option_map_or}
use Rattle.field_schema.specs.declared.field.Field.{Field}
use Rattle.query_tree.specs.declared.sort.SortKey.{SortKey}
use Rattle.query_tree.specs.Order.{query_eq}
use Rattle.query_lexemes.specs.declared.fault.QueryFault.{QueryFault}
use Rattle.query_text.specs.declared.op.Op.{Op}
use Rattle.query_text.specs.declared.reader.Parsed.{Parsed}
use Rattle.query_text.specs.declared.sort_text.SortFault.{SortFault}
use Rattle.query_text.specs.Readings.{indexed}
use Rattle.query_text.specs.Reads as query_text
use Rattle.query_text.specs.Sorts.{and_then, is_no_sort_memory, sort_of}
use Rattle.request_form.specs.declared.fault.RequestFault.{RequestFault}
use Rattle.request_form.specs.declared.fault.RequestFault.TheVariants as fault
use Rattle.request_form.specs.declared.params.Param.{Param}
use Rattle.request_form.specs.declared.request.Defaults.{Defaults}
use Rattle.request_form.specs.declared.request.Filter.{Filter}
use Rattle.request_form.specs.declared.request.Request.{Request}
use Rattle.request_form.specs.Params.{value_of, values_of}
use Rattle.request_form.specs.Values.{count_of, fields_of, op_of}

-- want of memory is no fault of the parameters
abbrev pub is_no_memory : RequestFault → Bool
is_no_memory (fault.BadCount param) = false
is_no_memory (fault.BadFlag param) = false
is_no_memory (fault.Query which e) = false
is_no_memory (fault.Sort e) = false
is_no_memory fault.NoMemory = true
is_no_memory (fault.DeleteQuery e) = false

-- ---- the sort

-- a sort's fault as a request's; want of memory is never inside another fault
abbrev pub sort_told : Result (List SortKey) SortFault → Result (List SortKey) RequestFault
sort_told (Ok keys) = Ok keys
sort_told (Err e) = Err (if is_no_sort_memory e then fault.NoMemory else fault.Sort e)

-- the sort, which is empty where nothing is said
abbrev pub sort_by_params : List Field → List Param → Result (List SortKey) RequestFault
sort_by_params fields ps = sort_told (sort_of fields (unwrap_or (value_of (codes "sort") ps) []))

-- ---- queries

-- a query's fault as a request's
abbrev pub query_told : (QueryFault → RequestFault) → Result Parsed QueryFault
    → Result Parsed RequestFault
query_told tell (Ok p) = Ok p
query_told tell (Err e) = Err (if query_text.is_no_memory e then fault.NoMemory else tell e)

-- the field of values that name none: the request's, which is none where no indexed field has that
-- name, or else the configuration's
abbrev pub default_field : List Field → Defaults → List Param → Option ℕ
default_field fields d ps =
    option_map_or (λ name. indexed name fields) (value_of (codes "df") ps) d.df

-- what the text of `q`, which is 0, or of the n-th `fq` reads to
abbrev pub query_in : List Field → Option ℕ → Op → ℕ → ℕ → List ℕ → Result Parsed RequestFault
query_in fields df o most which text =
    query_told (fault.Query which) (query_text.reading fields df o most text)

-- the main query; the blank one where nothing is said
abbrev pub main_query : List Field → Option ℕ → Op → ℕ → List Param → Result Parsed RequestFault
main_query fields df o most ps =
    query_in fields df o most 0 (unwrap_or (value_of (codes "q") ps) [])

-- ---- filters

abbrev pub filter_of : Parsed → Filter
filter_of p = record { query = p.query; cached = p.cached; cost = p.cost }

-- the filters of the n-th text and those behind it, or the first fault
abbrev pub filters_in : (ℕ → List ℕ → Result Parsed RequestFault) → ℕ → List (List ℕ)
    → Result (List Filter) RequestFault
filters_in reads n [] = Ok []
filters_in reads n (text ∷ texts) =
    and_then (reads n text) (λ p.
    and_then (filters_in reads (n + 1) texts) (λ others. Ok (filter_of p ∷ others)))

-- each query once, where it stands first
abbrev pub once : List Filter → List Filter
once [] = []
once (f ∷ fs) = f ∷ filter (λ g. not (query_eq f.query g.query)) (once fs)

-- the filters, each `fq` in its turn
abbrev pub filters_of : List Field → Option ℕ → Op → ℕ → List Param
    → Result (List Filter) RequestFault
filters_of fields df o most ps =
    and_then (filters_in (query_in fields df o most) 1 (values_of (codes "fq") ps))
    (λ all. Ok (once all))

-- ---- the request

-- the request, or its first fault: of `start`, `rows`, `sort`, `q.op`, `q` and then each `fq`
unfoldable pub request_of : List Field → Defaults → List Param → Result Request RequestFault
request_of fields d ps =
    and_then (count_of (codes "start") 0 ps) (λ start.
    and_then (count_of (codes "rows") 10 ps) (λ rows.
    and_then (sort_by_params fields ps) (λ sort.
    and_then (op_of ps) (λ o.
    and_then (main_query fields (default_field fields d ps) o d.most ps) (λ q.
    and_then (filters_of fields (default_field fields d ps) o d.most ps) (λ filters.
    Ok (record {
      q = q.query;
      q_cached = q.cached;
      filters = filters;
      sort = sort;
      start = start;
      rows = rows;
      fields = fields_of ps;
    })))))))
