-- For private clauses alone: the two forms of a set.
use Rattle.std.specs.Prelude.{ℕ, ◌*◌, ◌<◌, ◌≤◌, List, length}
use Rattle.std.specs.FinSet.{from_list}
use Rattle.doc_sets.specs.Sets.{Numbers, IsAscending}
use Rattle.doc_sets.specs.BitRows.{numbers_of, Reaches}
use Rattle.doc_sets.specs.declared.doc_set.Form.{Form}
use Rattle.doc_sets.specs.declared.doc_set.Form.TheVariants.{Listed, Bits}

-- the members, ascending
abbrev pub numbers_in : Form → List ℕ
numbers_in (Listed numbers) = numbers.items
numbers_in (Bits words) = numbers_of words.items

-- the set that the form keeps
abbrev pub set_of : Form → Numbers
set_of form = from_list (numbers_in form)

-- a list strictly ascends, and no row is longer than that of a full set
abbrev pub IsForm : Form → Type 0
IsForm (Listed numbers) = IsAscending numbers.items
IsForm (Bits words) = length words.items ≤ 4096

-- at 4 bytes a number and 8 a word, no row that reaches all numbers takes fewer bytes than their list
abbrev pub IsShortList : List ℕ → Type 0
IsShortList numbers = (words : ℕ) → Reaches words numbers → length numbers ≤ 2 * words

-- the row takes fewer bytes than the list of its numbers
abbrev pub IsShortRow : List ℕ → Type 0
IsShortRow words = 2 * length words < length (numbers_of words)

-- the form that takes fewer bytes, and the list where both take the same
abbrev pub IsSmaller : Form → Type 0
IsSmaller (Listed numbers) = IsShortList numbers.items
IsSmaller (Bits words) = IsShortRow words.items
