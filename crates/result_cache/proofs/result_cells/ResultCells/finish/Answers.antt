use Rattle.result_cache.specs.Keys.{result_key_eq-same}
use Rattle.result_cache.proofs.result_cells.ResultCells.finish.Goals as goal

pub finish-requires-clause-same : goal.finish-requires-clause-same
finish-requires-clause-same c = result_key_eq-same
