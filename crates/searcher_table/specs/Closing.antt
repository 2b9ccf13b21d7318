-- What contracts say of a table that was given up.
use Rattle.std.specs.Prelude.{◌≡◌, ◌≢◌, ℕ, ◌+◌, ◌≤◌, List, [], ◌++◌, length, map, count_by, slice_get, Option, Some, None}
use Rattle.std.specs.Arc.{arc_value}
use Rattle.std.specs.List.{AllByRecursion}
use Rattle.std.specs.declared.alloc.Global.{Global}
use Rattle.std.specs.declared.vec.Vec.{Vec}
use Rattle.registry_machine.specs.declared.entry.Entry.{Entry}
use Rattle.registry_machine.specs.Callers.{mine}
use Rattle.registry_machine.specs.Machine.{State}
use Rattle.registry_machine.specs.Legal.{Legal, state_of}
use Rattle.searcher_table.specs.declared.board.Own.{Own}
use Rattle.searcher_table.specs.declared.board.Plan.{Plan}
use Rattle.searcher_table.specs.declared.board.Known.{Known}
use Rattle.searcher_table.specs.declared.board.Task.TheVariants.{Emptied}
use Rattle.searcher_table.specs.declared.close.Ended.{Ended}
use Rattle.searcher_table.specs.declared.pass.Pass.{Pass}
use Rattle.searcher_table.specs.declared.registrar.Registrar.{Registrar}
use Rattle.searcher_table.specs.Words.{limits}
use Rattle.searcher_table.specs.Counts.{opens, frees}
use Rattle.searcher_table.specs.Doors.{cell_of, told_in, held_in, IsDoorLeft}
use Rattle.searcher_table.specs.Views.{HasNoPlaceSince}
use Rattle.searcher_table.specs.Rule.{AreBack}
use Rattle.searcher_table.specs.Claims.{IsOpener}
use Rattle.searcher_table.specs.Registrars.{table_of, plan_of, seen_of, back_of, own_of, IsSameRegistrar}

module _ {D U W X L : Type 0} where
  -- ---- the history and the callers' lists

  -- the callers whose passes are back once these are, each with its entries
  abbrev pub left_by : Registrar D U W X L → List (Pass D U W X L) → List (Own U X L)
  left_by r passes = back_of r ++ map own_of passes

  -- it has these passes more that it took back
  pub record HasTakenAll (s t : Registrar D U W X L) (gone : List (Pass D U W X L)) : Type 0 where
    pub registrar : IsSameRegistrar s t
    pub seen : seen_of t ≡ seen_of s
    pub back : back_of t ≡ left_by s gone

  -- the whole history of the table, and each caller with the entries that its pass left
  abbrev pub history_of : Ended D U W X L → List (Entry U X L)
  history_of e = e.place.me.0.seen

  abbrev pub left_in_it : Ended D U W X L → List (Own U X L)
  left_in_it e = e.place.me.0.back

  -- what the table was made with, and how the registry stands at its end
  abbrev pub plan_at : Ended D U W X L → Plan W
  plan_at e = (arc_value e.table).shared.key

  abbrev pub state_at : Ended D U W X L → State
  state_at e = state_of (limits (plan_at e)) (history_of e)

  -- the registrar's table was given up: its history is legal and goes on from what the registrar had seen by no entry with a place, the entries that each pass left are its caller's, and nobody pins anything
  pub record HasClosed (r : Registrar D U W X L) (passes : List (Pass D U W X L)) (e : Ended D U W X L) : Type 0 where
    pub table : e.place.table_id ≡ table_of r
    pub plan : plan_at e ≡ plan_of r
    pub legal : Legal (limits (plan_at e)) (history_of e)
    pub seen : HasNoPlaceSince (history_of e) (seen_of r)
    pub left : left_in_it e ≡ left_by r passes
    pub own : AllByRecursion (λ o. mine o.caller (history_of e) ≡ o.mine) (left_in_it e)
    pub unpinned : (caller : ℕ) → (state_at e).pins caller ≡ None

  -- each slot but the current generation's is free, and each generation before it was freed once
  pub record AreEachOnce (e : Ended D U W X L) : Type 0 where
    pub slots : (slot g : ℕ) → (state_at e).slots slot ≡ Some g → (state_at e).current ≡ Some g
    pub once : (g : ℕ) → 1 ≤ count_by (opens g) (history_of e) → (state_at e).current ≢ Some g → count_by (frees g) (history_of e) ≡ 1

  -- ---- doors

  module _ (setting : D → W) (docs : D → X) (deeds : D → List L) (p : Plan W) (log : List (Entry U X L)) where
    -- these are the first so many callers' doors to a slot's last generation, as these callers left them; none where there was no generation
    abbrev pub IsRowTo : Option ℕ → ℕ → List D → Type 0
    IsRowTo None count doors = doors ≡ []
    IsRowTo (Some g) count doors = (length doors ≡ count) × ((i : ℕ) (d : D) → slice_get doors i ≡ Some d → IsDoorLeft setting docs deeds p (told_in log g (i + 1)) d)

    -- the rows of the first slots are those of all callers' doors
    abbrev pub AreRowsTo : List (Vec D Global) → Type 0
    AreRowsTo rows = (slot : ℕ) (row : Vec D Global) → slice_get rows slot ≡ Some row → IsRowTo (held_in log slot) p.callers row.items

    -- the door of a slot's caller, or none where there was no generation
    abbrev pub IsDoorOr : Option ℕ → ℕ → Option D → Type 0
    IsDoorOr None caller found = found ≡ None
    IsDoorOr (Some g) caller found = (d : D) × (found ≡ Some d) × IsDoorLeft setting docs deeds p (told_in log g caller) d

  -- a row for each slot, with the doors that are left there
  pub record AreDoorsLeft (setting : D → W) (docs : D → X) (deeds : D → List L) (e : Ended D U W X L) (rows : List (Vec D Global)) : Type 0 where
    pub count : length rows ≡ (limits (plan_at e)).slots
    pub each : AreRowsTo setting docs deeds (plan_at e) (history_of e) rows
    pub current : (slot g : ℕ) → (state_at e).slots slot ≡ Some g → held_in (history_of e) slot ≡ Some g

module _ {W U X L : Type 0} where
  -- the registrar's seat of a table that was given up, which has emptied no cell from this one on
  pub record IsCloser (p : Plan W) (k : Known W U X L) (cell : ℕ) : Type 0 where
    pub count : ℕ
    pub opener : IsOpener p k (Emptied count)
    pub few : count ≤ cell
    pub back : AreBack p k.back

  -- it has emptied cells up to this one, and knows what it knew
  pub record HasGoneOn (p : Plan W) (k n : Known W U X L) (cell : ℕ) : Type 0 where
    pub closer : IsCloser p n cell
    pub seen : n.seen ≡ k.seen
    pub back : n.back ≡ k.back

module _ {D W U X L : Type 0} (setting : D → W) (docs : D → X) (deeds : D → List L) (p : Plan W) (k n : Known W U X L) (slot : ℕ) where
  pub record HasTakenDoor (caller : ℕ) (found : Option D) : Type 0 where
    pub gone : HasGoneOn p k n (cell_of slot caller + 1)
    pub door : IsDoorOr setting docs deeds p k.seen (held_in k.seen slot) caller found

  pub record HasEmptied (callers : ℕ) (doors : List D) : Type 0 where
    pub gone : HasGoneOn p k n (cell_of slot callers + 1)
    pub row : IsRowTo setting docs deeds p k.seen (held_in k.seen slot) callers doors
