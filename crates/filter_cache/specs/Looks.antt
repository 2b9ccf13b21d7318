-- What a look-up of a filter is answered, as the machine's answer.
use Rattle.std.specs.Arc.{arc_value}
use Rattle.doc_sets.specs.Sets.{Numbers}
use Rattle.query_tree.specs.declared.query.Query.{Query}
use Rattle.cache_machine.specs.declared.look.Look.{Look}
use Rattle.cache_machine.specs.declared.look.Look.TheVariants as answer
use Rattle.filter_cache.specs.declared.filter_cells.FilterLook.{FilterLook}
use Rattle.filter_cache.specs.declared.filter_cells.FilterLook.TheVariants.{Hit, Join, Own}

abbrev pub look_of : FilterLook → Look Query Numbers
look_of (Hit shared) = answer.Hit (arc_value shared)
look_of (Join key owner) = answer.Join key owner
look_of Own = answer.Own
