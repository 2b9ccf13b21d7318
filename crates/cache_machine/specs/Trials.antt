-- Small caches on which the machine is tried: keys are numbers, and a value is a list's length with the number that were found.
use Rattle.std.specs.Prelude.{ℕ, ◌+◌, Bool, true, false, ◌||◌, ◌==◌, List, [], ◌∷◌, nat_eq, nat_le, Option, Some, None}
use Rattle.cache_machine.specs.declared.look.Look.TheVariants.{Hit, Join, Own}
use Rattle.cache_machine.specs.Machine.{Cache}
use Rattle.cache_machine.specs.Runs.{Call, Answer, look, finish, give_up, recent, looked, done, keys, Allows, IsRun}

abbrev pub Listed : Type 0
Listed = ℕ × ℕ

abbrev pub Entries : Type 0
Entries = List (ℕ × Listed)

-- a list of so many, of so many that were found
abbrev pub listed : ℕ → ℕ → Listed
listed n found = (n, found)

abbrev pub weight : Listed → ℕ
weight v = 1 + v.0

-- the list is long enough, or whole
abbrev pub serves : ℕ → Listed → Bool
serves need v = nat_le need v.0 || (v.0 == v.1)

-- two entries: key 1 has two of nine, key 2 all four
abbrev pub two : Entries
two = (1, listed 2 9) ∷ (2, listed 4 4) ∷ []

abbrev pub two_turned : Entries
two_turned = (2, listed 4 4) ∷ (1, listed 2 9) ∷ []

-- at most two entries, of any weight
abbrev pub holding : Entries → List (Option ℕ) → Cache ℕ Listed
holding es pending = record {
  kept = record { size = 2; greatest = None; entries = es };
  pending = pending;
}

-- at most two entries, which weigh at most 8
abbrev pub weighing : Entries → List (Option ℕ) → Cache ℕ Listed
weighing es pending = record {
  kept = record { size = 2; greatest = Some 8; entries = es };
  pending = pending;
}

abbrev pub idle : List (Option ℕ)
idle = None ∷ None ∷ []

-- seat 0 owns the key
abbrev pub owned : ℕ → List (Option ℕ)
owned k = Some k ∷ None ∷ []

-- seat 1 owns it too
abbrev pub owned_twice : ℕ → List (Option ℕ)
owned_twice k = Some k ∷ Some k ∷ []

-- seat 1 alone owns it
abbrev pub owned_by_other : ℕ → List (Option ℕ)
owned_by_other k = None ∷ Some k ∷ []

-- these entries, and nobody owns a key
abbrev pub unowned : Entries → Cache ℕ Listed
unowned es = holding es idle

-- the same, where the weight is bounded
abbrev pub weighed : Entries → Cache ℕ Listed
weighed es = weighing es idle

-- these entries, and seat 0 owns the key
abbrev pub owning : ℕ → Entries → Cache ℕ Listed
owning k es = holding es (owned k)

-- the call may be answered so
abbrev pub Allowed : Cache ℕ Listed → Call ℕ Listed → Answer ℕ Listed → Cache ℕ Listed → Type 0
Allowed = Allows nat_eq weight

abbrev pub Refused : Cache ℕ Listed → Call ℕ Listed → Answer ℕ Listed → Cache ℕ Listed → Type 0
Refused c call answer next = Allowed c call answer next → ⊥

-- the calls of seat 1 that look for a key which needs so many
abbrev pub asks : ℕ → ℕ → Call ℕ Listed
asks k need = look k (serves need) 1

-- seat 0 gives the value of its key
abbrev pub gives : Listed → Call ℕ Listed
gives v = finish 0 v true

-- it gives one that may not be kept
abbrev pub gives_unkept : Listed → Call ℕ Listed
gives_unkept v = finish 0 v false

-- it gives one of one, or so many of nine
abbrev pub gives_one : Call ℕ Listed
gives_one = gives (listed 1 1)

abbrev pub gives_one_unkept : Call ℕ Listed
gives_one_unkept = gives_unkept (listed 1 1)

abbrev pub gives_four : Call ℕ Listed
gives_four = gives (listed 4 9)

abbrev pub gives_seven : Call ℕ Listed
gives_seven = gives (listed 7 9)

abbrev pub gives_eight : Call ℕ Listed
gives_eight = gives (listed 8 9)

abbrev pub hit : Listed → Answer ℕ Listed
hit v = looked (Hit v)

abbrev pub join : ℕ → ℕ → Answer ℕ Listed
join k owner = looked (Join k owner)

abbrev pub own : Answer ℕ Listed
own = looked Own

-- a key is owned, joined, finished, hit and told
abbrev pub story : List (Call ℕ Listed × Answer ℕ Listed)
story =
    (asks 7 2, own) ∷ (look 7 (serves 2) 0, join 7 1)
    ∷ (finish 1 (listed 2 5) true, done) ∷ (look 7 (serves 2) 0, hit (listed 2 5))
    ∷ (look 7 (serves 3) 0, own) ∷ (give_up 0, done) ∷ (recent 3, keys (7 ∷ [])) ∷ []

abbrev pub StoryIsRun : Type 0
StoryIsRun = IsRun nat_eq weight story (holding [] idle) (holding ((7, listed 2 5) ∷ []) idle)

-- key 3 with one of one
abbrev pub three : ℕ × Listed
three = (3, listed 1 1)

-- after it was stored in place of the least recently used
abbrev pub three_and_first : Entries
three_and_first = three ∷ (1, listed 2 9) ∷ []

-- in place of the most recently used
abbrev pub three_and_last : Entries
three_and_last = three ∷ (2, listed 4 4) ∷ []

-- key 1 has another list
abbrev pub longer_first : Entries
longer_first = (1, listed 4 9) ∷ (2, listed 4 4) ∷ []

-- key 1 twice
abbrev pub first_twice : Entries
first_twice = (1, listed 4 9) ∷ (1, listed 2 9) ∷ []

abbrev pub three_alone : Entries
three_alone = three ∷ []

-- key 3 with seven of nine, which weigh 8
abbrev pub heavy_alone : Entries
heavy_alone = (3, listed 7 9) ∷ []
