-- Short histories of the machine, on which it is tried.
use Rattle.std.specs.Prelude.{ℕ, List, [], ◌∷◌, ◌++◌}
use Rattle.registry_machine.specs.declared.entry.Entry.{Entry}
use Rattle.registry_machine.specs.declared.entry.Entry.TheVariants.{Open, TooMany, Finish, Superseded, Acquire, Release}
use Rattle.registry_machine.specs.Machine.{Limits}

-- contents, shown documents and lists are numbers here
abbrev pub Call : Type 0
Call = Entry ℕ ℕ ℕ

-- two generations may be warming, there are three slots, and the generations are 1 to 3
abbrev pub small : Limits
small = record { max_warming = 2; slots = 3; first_generation = 1; last_generation = 3 }

-- the same, but one may be warming, or there is one generation
abbrev pub room_for_one : Limits
room_for_one = record small { max_warming = 1 }

abbrev pub one_generation : Limits
one_generation = record small { last_generation = 1 }

-- caller 1 opens a generation in a slot
abbrev pub open_in : ℕ → ℕ → Call
open_in g slot = Open 1 0 g slot 0

abbrev pub finish : ℕ → Call
finish g = Finish g []

abbrev pub superseded : ℕ → ℕ → Call
superseded g by = Superseded g by []

abbrev pub acquire : ℕ → ℕ → ℕ → Call
acquire c g k = Acquire c g k

abbrev pub release : ℕ → ℕ → Call
release c g = Release c g []

abbrev pub too_many : List ℕ → Call
too_many gs = TooMany 1 0 gs

-- generation 1 is current
abbrev pub one_current : List Call
one_current = open_in 1 0 ∷ finish 1 ∷ []

-- generation 2 is current, and generation 1 was before
abbrev pub two_current : List Call
two_current = one_current ++ open_in 2 1 ∷ finish 2 ∷ []

-- generation 1 is current, and generation 2 is warming
abbrev pub one_warming : List Call
one_warming = one_current ++ open_in 2 1 ∷ []

-- generation 1 is current, and generations 2 and 3 are warming
abbrev pub two_warming : List Call
two_warming = one_current ++ open_in 2 1 ∷ open_in 3 2 ∷ []

-- the later of two warming generations is registered first
abbrev pub overtaken : List Call
overtaken = two_warming ++ finish 3 ∷ []

-- caller 2 pins generation 1
abbrev pub one_pinned : List Call
one_pinned = one_current ++ acquire 2 1 0 ∷ []

-- generation 2 is current, and caller 2 still pins generation 1
abbrev pub old_pinned : List Call
old_pinned = one_pinned ++ open_in 2 1 ∷ finish 2 ∷ []
