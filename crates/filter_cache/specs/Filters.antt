-- Sets of documents as values of a cache.
use Rattle.std.specs.Prelude.{ℕ, ◌+◌, Bool, true}
use Rattle.std.specs.FinSet.{len}
use Rattle.doc_sets.specs.Sets.{Numbers}
use Rattle.query_tree.specs.declared.query.Query.{Query}
use Rattle.query_tree.specs.Order.{query_eq}
use Rattle.cache_machine.specs.declared.look.Look.{Look}
use Rattle.cache_machine.specs.Machine.{Cache, look_answer, after_look, finished}

-- filters with their sets, and by seat the filter that its caller is computing
abbrev pub Filters : Type 0
Filters = Cache Query Numbers

-- what an entry weighs: 1, and 1 for each document of its set
abbrev pub filter_weight : Numbers → ℕ
filter_weight s = 1 + len s

-- every set serves
abbrev pub any_set : Numbers → Bool
any_set s = true

-- the machine's calls at filters

abbrev pub filter_answer : Query → Filters → Look Query Numbers
filter_answer key c = look_answer query_eq any_set key c

abbrev pub after_filter_look : Query → ℕ → Filters → Filters
after_filter_look key seat c = after_look query_eq any_set key seat c

abbrev pub filter_finished : ℕ → Numbers → Filters → Filters
filter_finished seat s c = finished query_eq filter_weight seat s true c
