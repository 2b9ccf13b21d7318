use Rattle.std.proofs.Common.{◌≡◌, ◌≢◌, ◌+◌, length, [], Some}
use Rattle.std.specs.Arc.{arc_value}
use Rattle.std.specs.List.{AllByRecursion}
use Rattle.std.specs.Vec.Iter.{into_iter_items}
use Rattle.searcher_table.specs.declared.board.Task.TheVariants.{Filled}
use Rattle.searcher_table.specs.Claims.{HasBegun}
use Rattle.searcher_table.proofs.fill.fill.Given as goal

abbrev pub invariant-loop-door : goal.invariant-loop-door
invariant-loop-door g l = record {
  table : l.place.table_id ≡ l.initial.place.table_id;
  bare : l.place.me.1 ≡ [];
  begun : HasBegun (arc_value l.fn.table).shared.key l.initial.place.me.0 l.place.me.0 (Filled l.fn.slot l.count);
  left : length (into_iter_items l.door-iterator) + l.count ≡ (arc_value l.fn.table).shared.key.callers;
  settings : AllByRecursion (λ d. g.D.Shown.setting d ≡ (arc_value l.fn.table).shared.key.setting.value) (into_iter_items l.door-iterator);
  unused : AllByRecursion (λ d. g.D.Shown.list d ≡ []) (into_iter_items l.door-iterator);
  shown : (x : g.row.D-Docs.Denot) × AllByRecursion (λ d. g.D.Shown.docs d ≡ x) l.fn.doors.items × AllByRecursion (λ d. g.D.Shown.docs d ≡ x) (into_iter_items l.door-iterator) × (l.count ≢ 0 → l.place.me.0.filling ≡ Some x);
}
