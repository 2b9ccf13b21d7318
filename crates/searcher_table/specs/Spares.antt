-- References to one table, and rows that are empty.
use Rattle.std.specs.Prelude.{◌≡◌, ℕ, ◌≤◌, List, [], slice_get, vec_capacity, Some}
use Rattle.std.specs.Arc.{arc_value}
use Rattle.std.specs.List.{AllByRecursion}
use Rattle.std.specs.declared.alloc.Global.{Global}
use Rattle.std.specs.declared.vec.Vec.{Vec}
use Rattle.atomic_table.specs.Seated.{TableId}
use Rattle.searcher_table.specs.declared.board.Link.{Link}

-- each is a reference to this table
abbrev pub AreAt : {D U W X L : Type 0} → TableId → List (Link D U W X L) → Type 0
AreAt {D} {U} {W} {X} {L} table links = (i : ℕ) (l : Link D U W X L) → slice_get links i ≡ Some l → (arc_value l.table).shared.table_id ≡ table

-- each row is empty, and has room for so many
abbrev pub AreRooms : {D : Type 0} → ℕ → List (Vec D Global) → Type 0
AreRooms {D} count rows = AllByRecursion (λ row. (row.items ≡ []) × (count ≤ vec_capacity row)) rows
