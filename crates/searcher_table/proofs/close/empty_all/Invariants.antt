use Rattle.std.proofs.Common.{◌≡◌, ◌≤◌, ◌+◌, ◌*◌, length, vec_capacity}
use Rattle.std.specs.Arc.{arc_value}
use Rattle.std.specs.Vec.Iter.{into_iter_items}
use Rattle.searcher_table.specs.Words.{limits}
use Rattle.searcher_table.specs.Spares.{AreRooms}
use Rattle.searcher_table.specs.Closing.{AreRowsTo, HasGoneOn}
use Rattle.searcher_table.proofs.close.empty_all.Given as goal

abbrev pub invariant-loop-row : goal.invariant-loop-row
invariant-loop-row g l = record {
  table : l.place.table_id ≡ l.initial.place.table_id;
  gone : HasGoneOn (arc_value l.fn.table).shared.key l.initial.place.me.0 l.place.me.0 (64 * l.slot);
  rooms : AreRooms l.fn.callers (into_iter_items l.row-iterator);
  left : length (into_iter_items l.row-iterator) + l.slot ≡ (limits (arc_value l.fn.table).shared.key).slots;
  count : length l.closed.items ≡ l.slot;
  room : (limits (arc_value l.fn.table).shared.key).slots ≤ vec_capacity l.closed;
  rows : AreRowsTo g.D.Shown.setting g.D.Shown.docs g.D.Shown.list (arc_value l.fn.table).shared.key l.initial.place.me.0.seen l.closed.items;
}
