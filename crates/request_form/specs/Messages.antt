-- The messages of refused queries, commits and deletes.
use Rattle.std.specs.Prelude.{ℕ, List, ◌++◌, ◌==◌, if◌then◌else◌, codes, decimal}
use Rattle.query_lexemes.specs.declared.fault.QueryFault.{QueryFault}
use Rattle.query_lexemes.specs.declared.fault.QueryFault.TheVariants as query
use Rattle.query_text.specs.declared.sort_text.SortFault.{SortFault}
use Rattle.query_text.specs.declared.sort_text.SortFault.TheVariants as sort
use Rattle.request_form.specs.declared.fault.RequestFault.{RequestFault}
use Rattle.request_form.specs.declared.fault.RequestFault.TheVariants as fault

-- a fault's name and its place in the text
abbrev pub at_place : List ℕ → ℕ → List ℕ
at_place name at = name ++ codes " at " ++ decimal at

abbrev pub query_message : QueryFault → List ℕ
query_message (query.Syntax at) = at_place (codes "Syntax") at
query_message (query.UnknownField at) = at_place (codes "UnknownField") at
query_message (query.BadNumber at) = at_place (codes "BadNumber") at
query_message (query.Unsupported at) = at_place (codes "Unsupported") at
query_message (query.BadLocal at) = at_place (codes "BadLocal") at
query_message (query.TooDeep at) = at_place (codes "TooDeep") at
query_message (query.TooManyClauses at) = at_place (codes "TooManyClauses") at
query_message query.NoMemory = codes "NoMemory"

abbrev pub sort_message : SortFault → List ℕ
sort_message (sort.BadSort at) = at_place (codes "BadSort") at
sort_message (sort.UnknownField at) = at_place (codes "UnknownField") at
sort_message (sort.NotSortable at) = at_place (codes "NotSortable") at
sort_message sort.NoMemory = codes "NoMemory"

-- the text in which the fault is: that of `q`, or of the n-th `fq`
abbrev pub query_name : ℕ → List ℕ
query_name which = if which == 0 then codes "q" else codes "fq " ++ decimal which

-- what a refused request is told
abbrev pub request_message : RequestFault → List ℕ
request_message (fault.BadCount param) = codes "BadCount " ++ param
request_message (fault.BadFlag param) = codes "BadFlag " ++ param
request_message (fault.Query which e) = query_name which ++ codes ": " ++ query_message e
request_message (fault.Sort e) = codes "sort: " ++ sort_message e
request_message fault.NoMemory = codes "NoMemory"
request_message (fault.DeleteQuery e) = codes "query: " ++ query_message e
