use Rattle.std.proofs.Common.{◌≡◌, ◌++◌, map, None}
use Rattle.std.specs.List.{AllByRecursion}
use Rattle.std.specs.Vec.Iter.{into_iter_items}
use Rattle.searcher_table.specs.Passes.{announced_of, table_of as table_of_pass}
use Rattle.searcher_table.specs.Registrars.{table_of, seen_of, back_of, own_of, IsSameRegistrar}
use Rattle.searcher_table.specs.Closing.{left_by}
use Rattle.searcher_table.proofs.registrar.Registrar.take_all.Given as goal

abbrev pub invariant-loop-pass : goal.invariant-loop-pass
invariant-loop-pass g l = record {
  registrar : IsSameRegistrar l.initial.self l.self;
  seen : seen_of l.self ≡ seen_of l.initial.self;
  back : back_of l.self ++ map own_of (into_iter_items l.pass-iterator) ≡ left_by l.initial.self l.fn.passes.items;
  table : AllByRecursion (λ t. table_of_pass t ≡ table_of l.initial.self) (into_iter_items l.pass-iterator);
  none : AllByRecursion (λ t. announced_of t ≡ None) (into_iter_items l.pass-iterator);
}
