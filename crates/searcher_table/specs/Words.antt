-- The words of a table, and what its machine allows.
use Rattle.std.specs.Prelude.{◌≡◌, ℕ, ◌+◌, ◌*◌, ◌/◌, ◌%◌, ◌≤◌, List, slice_index, Option, Some, None}
use Rattle.std.specs.Int.{bit_at}
use Rattle.registry_machine.specs.Machine.{Limits}
use Rattle.searcher_table.specs.declared.board.Call.{Call}
use Rattle.searcher_table.specs.declared.board.Call.TheVariants.{Open, Update}
use Rattle.searcher_table.specs.declared.board.Asked.{Asked}
use Rattle.searcher_table.specs.declared.board.Cell.{Cell}
use Rattle.searcher_table.specs.declared.board.Cell.TheVariants.{Full, Said}
use Rattle.searcher_table.specs.declared.board.Plan.{Plan}

abbrev pub word_count : ℕ
word_count = 1168

-- the word that says what is current, and the one of a slot
abbrev pub current_word : ℕ
current_word = 8

abbrev pub slot_word : ℕ → ℕ
slot_word slot = 64 + 8 * slot

-- the mask word of a slot, and its bit there
abbrev pub mask_word : ℕ → ℕ
mask_word slot = 24 + 8 * (slot / 64)

abbrev pub bit_of : List ℕ → ℕ → ℕ
bit_of words slot = bit_at (slice_index words (mask_word slot)) (slot % 64)

-- the current word: the generation in 25 bits, its slot in 7, and the count of its acquires in 32
abbrev pub packed : ℕ → ℕ → ℕ → ℕ
packed generation slot count = generation * 549755813888 + slot * 4294967296 + count

-- the word in which a caller announces
abbrev pub call_word : ℕ → ℕ
call_word caller = 640 + 8 * caller

-- the number of a call
abbrev pub code_of : Call → ℕ
code_of Open = 1
code_of Update = 2

-- what a caller's word is while this is announced
abbrev pub code : {U : Type 0} → Option (Asked U) → ℕ
code None = 0
code (Some asked) = code_of asked.call

-- the cell says what is announced
abbrev pub IsSaid : {D U : Type 0} → Cell D U → Type 0
IsSaid {D} {U} cell = (asked : Asked U) × (cell ≡ Said asked)

-- the cell has a door
abbrev pub IsFull : {D U : Type 0} → Cell D U → Type 0
IsFull {D} {U} cell = (door : D) × (cell ≡ Full door)

-- that door
abbrev pub door_in : {D U : Type 0} → Cell D U → Option D
door_in (Full door) = Some door
door_in _ = None

-- the last generation that can be opened
abbrev pub last_generation : ℕ
last_generation = 33554431

-- what a table can be made with
pub record HasSizes {W : Type 0} (p : Plan W) : Type 0 where
  pub callers : p.callers ≤ 64
  pub warming : p.max_warming ≤ 4
  pub generation : (1 ≤ p.first_generation) × (p.first_generation ≤ last_generation)
  pub budget : p.budget ≤ 67108863

-- each caller may keep a slot, each warming generation has one, and so has the current one; one is left
abbrev pub limits : {W : Type 0} → Plan W → Limits
limits p = record {
  max_warming = p.max_warming;
  slots = p.callers + p.max_warming + 2;
  first_generation = p.first_generation;
  last_generation = last_generation;
}
