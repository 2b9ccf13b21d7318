-- What a look-up of a result is answered, as the machine's answer.
use Rattle.std.specs.Arc.{arc_value}
use Rattle.cache_machine.specs.declared.look.Look.{Look}
use Rattle.cache_machine.specs.declared.look.Look.TheVariants as answer
use Rattle.result_cache.specs.declared.key.ResultKey.{ResultKey}
use Rattle.result_cache.specs.declared.entry.Entry.{Entry}
use Rattle.result_cache.specs.declared.result_cells.ResultLook.{ResultLook}
use Rattle.result_cache.specs.declared.result_cells.ResultLook.TheVariants.{Hit, Join, Own}

abbrev pub look_of : ResultLook → Look ResultKey Entry
look_of (Hit shared) = answer.Hit (arc_value shared)
look_of (Join key owner) = answer.Join key owner
look_of Own = answer.Own
