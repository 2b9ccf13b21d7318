-- A pin is the same with another door: what is told of it says nothing of that.
use Rattle.std.proofs.Common.{◌≡◌, ◌≤◌, ◌<◌, [], ◌∷◌, count_by, Some, None}
use Rattle.std.proofs.Props.{props}
use Rattle.std.specs.Arc.{arc_value}
use Rattle.std.specs.Borrow.{RattleType}
use Rattle.registry_machine.specs.Callers.{mine}
use Rattle.searcher_table.specs.declared.board.Task.TheVariants.{Idle}
use Rattle.searcher_table.specs.declared.board.Cell.TheVariants.{Empty}
use Rattle.searcher_table.specs.declared.pin.Pin.{Pin}
use Rattle.registry_machine.specs.contracts.entry.Entry as entry
use Rattle.searcher_table.specs.contracts.board.Plan as plan
use Rattle.searcher_table.specs.contracts.board.Cell as cell
use Rattle.searcher_table.specs.contracts.board.Own as own
use Rattle.searcher_table.specs.contracts.board.Hand as hand
use Rattle.searcher_table.specs.contracts.board.Task as task
use base.Stored.{Coded-set}
use Rattle.searcher_table.specs.Counts.{is_acquire, pinned}
use Rattle.searcher_table.specs.Doors.{cell_of}
use Rattle.searcher_table.specs.Warming.{IsOpenFor}
use Rattle.searcher_table.specs.Pins.{with_door}

module _ (D U W X L : RattleType) (t : Pin D.Denot U.Denot W.Denot X.Denot L.Denot) where
  abbrev IsTold : Type 0
  IsTold = (t.place.table_id ≡ (arc_value t.table).shared.table_id) × (t.place.table_id.words ≡ 1168) × (t.place.me.0.plan ≡ Some (arc_value t.table).shared.key) × (t.place.me.0.caller ≡ t.caller) × ((1 ≤ t.caller) × (t.caller ≤ 64))
      × (t.place.me.0.mine ≡ mine t.caller t.place.me.0.seen) × (t.made ≡ count_by is_acquire t.place.me.0.mine) × (t.budget ≡ (arc_value t.table).shared.key.budget) × (t.made ≤ t.budget) × (pinned t.caller t.place.me.0.mine ≡ Some t.generation)
      × (IsOpenFor (arc_value t.table).shared.key t.place.me.0.seen t.slot t.generation) × (t.slot < 70) × (t.place.me.0.hand ≡ None) × (t.place.me.0.task ≡ Idle) × (t.place.me.0.back ≡ []) × (t.place.me.1 ≡ (cell_of t.slot t.caller, Empty) ∷ [])

  told_once : IsProp IsTold
  told_once = hlevel (props, Coded-set (plan.the_row W).coded, Coded-set (entry.the_row U X L).coded, Coded-set (cell.the_row D U).coded, Coded-set (own.the_row U X L).coded, Coded-set (hand.the_row U).coded, Coded-set task.the_row.coded)

  abbrev told : IsTold
  told = (
    t.at_table,
    t.sized,
    t.told,
    t.numbered,
    t.ranged,
    t.own,
    t.tried,
    t.most,
    t.within,
    t.holds,
    t.opened,
    t.below,
    t.empty_handed,
    t.idle,
    t.none_back,
    t.out,
  )

  abbrev with_told : D.Denot → IsTold → Pin D.Denot U.Denot W.Denot X.Denot L.Denot
  with_told d f = record {
    caller = t.caller;
    made = t.made;
    budget = t.budget;
    generation = t.generation;
    ticket = t.ticket;
    slot = t.slot;
    door = d;
    place = t.place;
    table = t.table;
    at_table = f.0;
    sized = f.1;
    told = f.2;
    numbered = f.3;
    ranged = f.4;
    own = f.5;
    tried = f.6;
    most = f.7;
    within = f.8;
    holds = f.9;
    opened = f.10;
    below = f.11;
    empty_handed = f.12;
    idle = f.13;
    none_back = f.14;
    out = f.15;
  }

  pub same_pin : (d : D.Denot) (f : IsTold) → with_told d f ≡ with_door t d
  same_pin d f i = with_told d (told_once f told i)
