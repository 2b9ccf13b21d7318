use Rattle.query_tree.specs.QueryLaws.{query_eq-same}
use Rattle.filter_cache.proofs.filter_cells.FilterCells.finish.Goals as goal

pub finish-requires-clause-same : goal.finish-requires-clause-same
finish-requires-clause-same c = query_eq-same
