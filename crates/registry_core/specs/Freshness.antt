-- What contracts say of a searcher that is warming.
use Rattle.std.specs.Prelude.{◌≡◌, ℕ, List, Some}
use Rattle.atomic_table.specs.Seated.{TableId}
use Rattle.registry_machine.specs.declared.entry.Entry.{Entry}
use Rattle.registry_core.specs.declared.change.Change.{Change}
use Rattle.registry_core.specs.declared.fresh.Fresh.{Fresh}

module _ {D U S X L : Type 0} where
  -- the generation that was opened
  abbrev pub generation_of : Fresh D U S X L → ℕ
  generation_of f = f.opening.generation

  -- the place of its opening
  abbrev pub place_of : Fresh D U S X L → ℕ
  place_of f = f.opening.at

  -- what its opening has seen
  abbrev pub seen_of : Fresh D U S X L → List (Entry (Change U) X L)
  seen_of f = f.opening.seat.me.0.seen

  -- the table at which it was opened
  abbrev pub table_of : Fresh D U S X L → TableId
  table_of f = f.opening.seat.table_id

  -- one warming, which now has this from where it was warmed
  pub record HasNoted (s t : Fresh D U S X L) (generation ticket : ℕ) : Type 0 where
    pub opening : t.opening ≡ s.opening
    pub own : t.own ≡ s.own
    pub from : t.from ≡ Some (generation, ticket)

  -- the same warming, with this door
  abbrev pub with_own : Fresh D U S X L → D → Fresh D U S X L
  with_own f door = record f { own = door }
