use Rattle.std.proofs.Common.{◌≡◌, ◌≤◌, ◌+◌, ◌-◌, length, vec_capacity}
use Rattle.std.specs.Arc.{arc_value}
use Rattle.searcher_table.specs.Doors.{cell_of, held_in}
use Rattle.searcher_table.specs.Closing.{IsRowTo, HasGoneOn}
use Rattle.searcher_table.proofs.close.empty_slot.Given as goal

abbrev pub invariant-loop-caller : goal.invariant-loop-caller
invariant-loop-caller g l = record {
  table : l.place.table_id ≡ l.initial.place.table_id;
  some : 1 ≤ l.caller;
  gone : HasGoneOn (arc_value l.fn.table).shared.key l.initial.place.me.0 l.place.me.0 (cell_of l.fn.slot l.caller);
  row : IsRowTo g.D.Shown.setting g.D.Shown.docs g.D.Shown.list (arc_value l.fn.table).shared.key l.initial.place.me.0.seen (held_in l.initial.place.me.0.seen l.fn.slot) (l.caller - 1) l.row.items;
  few : length l.row.items + 1 ≤ l.caller;
  room : l.fn.callers ≤ vec_capacity l.row;
}
