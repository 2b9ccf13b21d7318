-- What each kind of step tells the seat that makes it, and how views are split and joined.
use Rattle.std.specs.Prelude.{◌≡◌, ◌≢◌, ◌⊎◌, ℕ, ◌+◌, ◌<◌, ◌≤◌, ◌/◌, ◌%◌, ◌==◌, if◌then◌else◌, true, false, List, [], ◌∷◌, ◌++◌, length, count_by, Option, Some, None}
use Rattle.std.specs.Int.{trailing_zeros}
use Rattle.std.specs.List.{AllByRecursion}
use mir.Syntax.{w64}
use mathlib.Core.Option.{some}
use Rattle.atomic_table.specs.Table.{Me, Step, rest}
use Rattle.registry_machine.specs.declared.entry.Entry.{Entry}
use Rattle.registry_machine.specs.declared.entry.Entry.TheVariants.{Open, TooMany, GenerationsSpent, Update, Finish, Superseded, Acquire, NotYet, Release, Free}
use Rattle.registry_machine.specs.Machine.{Limits}
use Rattle.registry_machine.specs.Legal.{Legal, state_of}
use Rattle.registry_machine.specs.Callers.{mine}
use Rattle.searcher_table.specs.declared.board.Call.{Call}
use Rattle.searcher_table.specs.declared.board.Call.TheVariants.{Open as ToOpen, Update as ToUpdate}
use Rattle.searcher_table.specs.declared.board.Asked.{Asked}
use Rattle.searcher_table.specs.declared.board.Cell.{Cell}
use Rattle.searcher_table.specs.declared.board.Cell.TheVariants.{Full, Said}
use Rattle.searcher_table.specs.declared.board.Plan.{Plan}
use Rattle.searcher_table.specs.declared.board.Hand.{Hand}
use Rattle.searcher_table.specs.declared.board.Known.{Known}
use Rattle.searcher_table.specs.declared.board.Task.{Task}
use Rattle.searcher_table.specs.declared.board.Task.TheVariants.{Idle, Found, Claimed, Filled, Filling, Unsettled, Duty, Emptied}
use Rattle.searcher_table.specs.declared.board.Fresh.{Fresh}
use Rattle.searcher_table.specs.Words.{slot_word, limits}
use Rattle.searcher_table.specs.Tasks.{IsOver}
use Rattle.searcher_table.specs.Doors.{cell_of, told_in, held_in, IsDoorLeft, IsLeft}
use Rattle.searcher_table.specs.Counts.{releases, pinned}
use Rattle.searcher_table.specs.Views.{StartsWith, HasNoPlaceSince, GoesOn}

-- what is begun by the release that found this word of a slot: the slot is to be freed where its generation is settled and this was the last release
abbrev pub duty_by : ℕ → ℕ → ℕ → Task
duty_by word slot g = if word / 4294967296 == word % 4294967296 + 2 then Duty slot g else Idle

-- what the publication that found this current word has begun: what was current is to be settled
abbrev pub left_by : ℕ → Task
left_by word = if word / 549755813888 == 0 then Idle else Unsettled (word / 4294967296 % 128) (word / 549755813888) (word % 4294967296)

-- and the settling that found so many releases: the slot is to be freed where there were as many acquires
abbrev pub settled_by : ℕ → ℕ → ℕ → ℕ → Task
settled_by found slot g total = if found == total then Duty slot g else Idle

module _ {U X L : Type 0} where
  -- the current word tells that nothing is current, or the current generation, its slot and its acquires
  pub record TellsNone (l : Limits) (log : List (Entry U X L)) (word : ℕ) : Type 0 where
    pub none : (state_of l log).current ≡ None
    pub early : word < 549755813888

  pub record TellsGeneration (l : Limits) (log : List (Entry U X L)) (word : ℕ) : Type 0 where
    pub current : (state_of l log).current ≡ Some (word / 549755813888)
    pub opened : (state_of l log).slots (word / 4294967296 % 128) ≡ Some (word / 549755813888)
    pub below : word / 4294967296 % 128 < 70
    pub count : (state_of l log).acquired (word / 549755813888) ≡ word % 4294967296
    pub some : 549755813888 ≤ word
    pub few : word % 4294967296 < 4294967295

  abbrev pub TellsCurrent : Limits → List (Entry U X L) → ℕ → Type 0
  TellsCurrent l log word = TellsNone l log word ⊎ TellsGeneration l log word

  -- what an acquire by this caller has, where this was the current word: the current generation and the number of its acquires before
  abbrev pub acquire_of : ℕ → ℕ → Entry U X L
  acquire_of c word = if word / 549755813888 == 0 then NotYet c else Acquire c (word / 549755813888) (word % 4294967296)

module _ {W U X L : Type 0} where
  -- the entry of an opening in this slot that shows these documents
  abbrev pub opening_of : Plan W → List (Entry U X L) → Hand U → ℕ → X → Entry U X L
  opening_of p seen h slot shown = Open h.caller h.asked.content ((state_of (limits p) seen).last_opened + 1) slot shown

  -- the entry of a call that opens nothing: an update's, or the refusal of an opening
  abbrev pub refusal_of : Plan W → List (Entry U X L) → Hand U → Entry U X L
  refusal_of p seen h =
      let gs : List ℕ = (state_of (limits p) seen).warming in
      if length gs == p.max_warming then TooMany h.caller h.asked.content gs else GenerationsSpent h.caller h.asked.content

  abbrev pub answer_of : Call → Plan W → List (Entry U X L) → Hand U → Entry U X L
  answer_of ToUpdate p seen h = Update h.caller h.asked.content
  answer_of ToOpen p seen h = refusal_of p seen h

  -- ---- splits and joins

  -- a seat with none of these rights, which has seen this
  abbrev pub bystander : Option (Plan W) → List (Entry U X L) → Known W U X L
  bystander plan seen = record {
    plan = plan;
    caller = 0;
    mine = [];
    announced = None;
    hand = None;
    task = Idle;
    fresh = None;
    seen = seen;
    told = [];
    steps = 0;
    registrar = false;
    next = 0;
    back = [];
    filling = None;
  }

  -- what was announced or opened goes to a seat of its own, which has seen as much
  abbrev pub kept_back : Known W U X L → Known W U X L
  kept_back k = record k { hand = None; fresh = None }

  abbrev pub handed_out : Known W U X L → Known W U X L
  handed_out k = record (bystander k.plan k.seen) { hand = k.hand; fresh = k.fresh }

  -- a seat of its own has seen as much
  abbrev pub still : Known W U X L → Known W U X L
  still k = k

  abbrev pub told_of : Known W U X L → Known W U X L
  told_of k = bystander k.plan k.seen

  -- the next caller's pass goes to a seat of its own
  abbrev pub keeps_others : Known W U X L → Known W U X L
  keeps_others k = record k { next = k.next + 1 }

  abbrev pub dealt_out : Known W U X L → Known W U X L
  dealt_out k = record (bystander k.plan []) { caller = k.next }

  -- a seat that takes in another is told what that one had seen, and has its announced call, or what it opened
  abbrev pub joined : Known W U X L → Known W U X L → Known W U X L
  joined k other = record k { hand = other.hand; fresh = other.fresh; told = other.seen }

  -- a pass that is taken back leaves what it had seen and its caller's entries
  abbrev pub taken_back : Known W U X L → Known W U X L → Known W U X L
  taken_back k other = record k { told = other.seen; back = k.back ++ record { caller = other.caller; mine = other.mine } ∷ [] }

  -- a seat that was joined into another
  abbrev pub spent : Known W U X L
  spent = bystander None []

  -- ---- steps on words

  -- the seat has seen the history so far, in which its caller's entries are its own, and this is pending
  abbrev pub looked : Known W U X L → List (Entry U X L) → (ℕ → Option (Asked U)) → Known W U X L
  looked k log pending = record k { seen = log; told = []; mine = mine k.caller log; announced = pending k.caller; steps = k.steps + 1 }

  -- the history begins with what the seat had seen and was told, and is legal; the registrar had seen each entry with a place
  pub record Covers (k : Known W U X L) (log : List (Entry U X L)) : Type 0 where
    pub seen : StartsWith log k.seen
    pub told : StartsWith log k.told
    pub legal : (p : Plan W) → k.plan ≡ Some p → Legal (limits p) log
    pub places : k.registrar ≡ true → HasNoPlaceSince log k.seen

  module _ {D : Type 0} where
    -- the history so far was seen
    pub record Looked (step : Step (Cell D U)) (before : Me (Cell D U) (Known W U X L)) (found : ℕ) (new : Me (Cell D U) (Known W U X L)) : Type 0 where
      pub log : List (Entry U X L)
      pub pending : ℕ → Option (Asked U)
      pub covers : Covers before.0 log
      pub calls : 1 ≤ before.0.caller → GoesOn before.0.caller before.0.mine before.0.announced (mine before.0.caller log) (pending before.0.caller)
      pub after : new ≡ (looked before.0 log pending, before.1)

    -- and the current word told what is current
    pub record Peeked (step : Step (Cell D U)) (before : Me (Cell D U) (Known W U X L)) (found : ℕ) (new : Me (Cell D U) (Known W U X L)) : Type 0 where
      pub looked : Looked step before found new
      pub tells : (p : Plan W) → before.0.plan ≡ Some p → TellsCurrent (limits p) looked.log found

    -- this was announced, and the caller has no entry more
    pub record HasAnnounced (asked : Asked U) (before new : Me (Cell D U) (Known W U X L)) : Type 0 where
      pub log : List (Entry U X L)
      pub pending : ℕ → Option (Asked U)
      pub covers : Covers before.0 log
      pub mine : mine before.0.caller log ≡ before.0.mine
      pub pending_is : pending before.0.caller ≡ Some asked
      pub after : new ≡ (record (looked before.0 log pending) { hand = Some (record { caller = before.0.caller; asked = asked }) }, before.1)

    abbrev pub Announced : Step (Cell D U) → Me (Cell D U) (Known W U X L) → ℕ → Me (Cell D U) (Known W U X L) → Type 0
    Announced step before found after = (asked : Asked U) → step.said ≡ some (Said asked) → HasAnnounced asked before after

    -- nothing is announced any more, and the caller has no entry more
    pub record Withdrawn (step : Step (Cell D U)) (before : Me (Cell D U) (Known W U X L)) (stored : ℕ) (new : Me (Cell D U) (Known W U X L)) : Type 0 where
      pub log : List (Entry U X L)
      pub pending : ℕ → Option (Asked U)
      pub covers : Covers before.0 log
      pub mine : mine before.0.caller log ≡ before.0.mine
      pub none : pending before.0.caller ≡ None
      pub after : new ≡ (record (looked before.0 log pending) { hand = None }, before.1)

    -- the history so far was seen, and the seat has this task and may publish this
    pub record HasTurned (task : Task) (fresh : Option Fresh) (before new : Me (Cell D U) (Known W U X L)) : Type 0 where
      pub log : List (Entry U X L)
      pub pending : ℕ → Option (Asked U)
      pub covers : Covers before.0 log
      pub after : new ≡ (record (looked before.0 log pending) { hand = None; task = task; fresh = fresh }, before.1)

    -- this entry stands behind a history that covers what the seat had seen and was told; it has this task and may publish this
    pub record HasExecuted (e : Entry U X L) (task : Task) (fresh : Option Fresh) (before new : Me (Cell D U) (Known W U X L)) : Type 0 where
      pub log : List (Entry U X L)
      pub pending : ℕ → Option (Asked U)
      pub covers : Covers before.0 log
      pub legal : (p : Plan W) → before.0.plan ≡ Some p → Legal (limits p) (log ++ e ∷ [])
      pub after : new ≡ (record (looked before.0 (log ++ e ∷ []) pending) { hand = None; task = task; fresh = fresh }, before.1)

    -- the call in hand has its entry
    abbrev pub Executed : Step (Cell D U) → Me (Cell D U) (Known W U X L) → ℕ → Me (Cell D U) (Known W U X L) → Type 0
    Executed step before stored after = (h : Hand U) (p : Plan W) → before.0.hand ≡ Some h → before.0.plan ≡ Some p
        → HasExecuted (answer_of h.asked.call p before.0.seen h) before.0.task before.0.fresh before after

    -- the opening in hand has the next generation, in the slot that was filled, with the documents that its doors show
    abbrev pub Opened : Step (Cell D U) → Me (Cell D U) (Known W U X L) → ℕ → Me (Cell D U) (Known W U X L) → Type 0
    Opened step before found after = (h : Hand U) (p : Plan W) (slot n : ℕ) (shown : X) → before.0.hand ≡ Some h → before.0.plan ≡ Some p → before.0.task ≡ Filled slot n → before.0.filling ≡ Some shown
        → HasExecuted (opening_of p before.0.seen h slot shown) Idle (Some (record { generation = (state_of (limits p) before.0.seen).last_opened + 1; slot = slot })) before after

    -- the caller has this entry last, behind those that it had and, where what it had announced was executed meanwhile, that call's one
    pub record HasMade (e : Entry U X L) (task : Task) (before new : Me (Cell D U) (Known W U X L)) : Type 0 where
      pub entered : HasExecuted e task before.0.fresh before new
      pub calls : 1 ≤ before.0.caller → GoesOn before.0.caller before.0.mine before.0.announced (mine before.0.caller entered.log) (entered.pending before.0.caller)

    -- the seat has what lay in the cell
    abbrev pub HasOut : ℕ → Cell D U → Me (Cell D U) (Known W U X L) → Me (Cell D U) (Known W U X L) → Type 0
    HasOut cell x before new = new.1 ≡ (cell, x) ∷ before.1

    -- and that is a door that shows these documents, and is left with these deeds
    pub record HasDoor (setting : D → W) (docs : D → X) (deeds : D → List L) (cell : ℕ) (told : Option X × List L) (before new : Me (Cell D U) (Known W U X L)) : Type 0 where
      pub door : D
      pub out : HasOut cell (Full door) before new
      pub is_door : (p : Plan W) → before.0.plan ≡ Some p → IsDoorLeft setting docs deeds p told door

    -- the current word counts one acquire more, and where it had a generation, the caller has its door to it
    pub record Acquired (setting : D → W) (docs : D → X) (deeds : D → List L) (step : Step (Cell D U)) (before : Me (Cell D U) (Known W U X L)) (found : ℕ) (new : Me (Cell D U) (Known W U X L)) : Type 0 where
      pub made : HasMade (acquire_of before.0.caller found) before.0.task before (new.0, before.1)
      pub tells : (p : Plan W) → before.0.plan ≡ Some p → TellsCurrent (limits p) made.entered.log found
      pub early : found / 549755813888 ≡ 0 → new.1 ≡ before.1
      pub lent : found / 549755813888 ≢ 0 → HasDoor setting docs deeds (cell_of (found / 4294967296 % 128) before.0.caller) (told_in new.0.seen (found / 549755813888) before.0.caller) before new

    -- the generation that the caller pinned is released with its door's deeds, the door is at home, and its slot is to be freed where the word says so
    abbrev pub Released : (D → List L) → Step (Cell D U) → Me (Cell D U) (Known W U X L) → ℕ → Me (Cell D U) (Known W U X L) → Type 0
    Released deeds step before found after = (slot g : ℕ) (d : D) → step.word ≡ slot_word slot → pinned before.0.caller before.0.mine ≡ Some g → before.1 ≡ (cell_of slot before.0.caller, Full d) ∷ []
        → HasMade (Release before.0.caller g (deeds d)) (duty_by found slot g) before (after.0, before.1) × (after.1 ≡ rest before.1)

    -- the slot is free again
    abbrev pub Freed : Step (Cell D U) → Me (Cell D U) (Known W U X L) → ℕ → Me (Cell D U) (Known W U X L) → Type 0
    Freed step before found after = (slot g : ℕ) → before.0.task ≡ Duty slot g → HasMade (Free g) Idle before after

    -- ---- a slot for an opening

    -- a free slot was found: the first one of mask word 0, or where it has none, one of the other word
    pub record Scanned (step : Step (Cell D U)) (before : Me (Cell D U) (Known W U X L)) (found : ℕ) (new : Me (Cell D U) (Known W U X L)) : Type 0 where
      pub slot : ℕ
      pub turned : HasTurned (Found slot) before.0.fresh before new
      pub other : found ≡ 0 → 64 ≤ slot
      pub first : found ≢ 0 → slot ≡ trailing_zeros w64 found

    -- and then the first one of that word
    pub record ScannedOn (step : Step (Cell D U)) (before : Me (Cell D U) (Known W U X L)) (found : ℕ) (new : Me (Cell D U) (Known W U X L)) : Type 0 where
      pub some : found ≢ 0
      pub turned : HasTurned (Found (64 + trailing_zeros w64 found)) before.0.fresh before new

    -- the slot that was found is claimed
    abbrev pub Took : Step (Cell D U) → Me (Cell D U) (Known W U X L) → ℕ → Me (Cell D U) (Known W U X L) → Type 0
    Took step before found after = (slot : ℕ) → before.0.task ≡ Found slot → HasTurned (Claimed slot) before.0.fresh before after

    -- and its word is 0; it is open for none
    pub record HasWiped (slot : ℕ) (before new : Me (Cell D U) (Known W U X L)) : Type 0 where
      pub turned : HasTurned (Filled slot 0) before.0.fresh before new
      pub free : (p : Plan W) → before.0.plan ≡ Some p → (slot < (limits p).slots) × ((state_of (limits p) turned.log).slots slot ≡ None)

    abbrev pub Wiped : Step (Cell D U) → Me (Cell D U) (Known W U X L) → ℕ → Me (Cell D U) (Known W U X L) → Type 0
    Wiped step before stored after = (slot : ℕ) → before.0.task ≡ Claimed slot → HasWiped slot before after

    -- the next caller's cell is the registrar's
    pub record HasReached (slot n : ℕ) (before new : Me (Cell D U) (Known W U X L)) : Type 0 where
      pub turned : HasTurned (Filling slot n) before.0.fresh before (new.0, before.1)
      pub old : Cell D U
      pub out : HasOut (cell_of slot (n + 1)) old before new

    abbrev pub Reached : Step (Cell D U) → Me (Cell D U) (Known W U X L) → ℕ → Me (Cell D U) (Known W U X L) → Type 0
    Reached step before found after = (slot n : ℕ) → before.0.task ≡ Filled slot n → HasReached slot n before after

    -- and it is at home again, with a door that shows these documents
    abbrev pub filling_with : Me (Cell D U) (Known W U X L) → X → Me (Cell D U) (Known W U X L)
    filling_with before shown = (record before.0 { filling = Some shown }, rest before.1)

    abbrev pub Laid : (D → X) → Step (Cell D U) → Me (Cell D U) (Known W U X L) → ℕ → Me (Cell D U) (Known W U X L) → Type 0
    Laid docs step before found after = (slot n : ℕ) (d : D) → before.0.task ≡ Filling slot n → before.1 ≡ (cell_of slot (n + 1), Full d) ∷ [] → HasTurned (Filled slot (n + 1)) before.0.fresh (filling_with before (docs d)) after

    -- ---- the end of a warming

    -- the warming generation is current, its entry has this list, and what was current is to be settled
    pub record HasPublished (list : List L) (f : Fresh) (found : ℕ) (before new : Me (Cell D U) (Known W U X L)) : Type 0 where
      pub executed : HasExecuted (Finish f.generation list) (left_by found) None before new
      pub tells : (p : Plan W) → before.0.plan ≡ Some p → TellsCurrent (limits p) executed.log found

    abbrev pub Published : List L → Step (Cell D U) → Me (Cell D U) (Known W U X L) → ℕ → Me (Cell D U) (Known W U X L) → Type 0
    Published list step before found after = (f : Fresh) → before.0.fresh ≡ Some f → HasPublished list f found before after

    -- a greater one is current, the entry of the one that was warming has this list, and its slot is to be settled
    abbrev pub Superseding : List L → Step (Cell D U) → Me (Cell D U) (Known W U X L) → ℕ → Me (Cell D U) (Known W U X L) → Type 0
    Superseding list step before stored after = (f : Fresh) (p : Plan W) (by : ℕ) → before.0.fresh ≡ Some f → before.0.plan ≡ Some p → (state_of (limits p) before.0.seen).current ≡ Some by
        → HasExecuted (Superseded f.generation by list) (Unsettled f.slot f.generation 0) None before after

    -- the acquires of the generation are told to its slot's word, which had counted its releases
    pub record HasTold (slot g total found : ℕ) (before new : Me (Cell D U) (Known W U X L)) : Type 0 where
      pub turned : HasTurned (settled_by found slot g total) before.0.fresh before new
      pub released : count_by (releases g) turned.log ≡ found

    abbrev pub Settled : Step (Cell D U) → Me (Cell D U) (Known W U X L) → ℕ → Me (Cell D U) (Known W U X L) → Type 0
    Settled step before found after = (slot g total : ℕ) → before.0.task ≡ Unsettled slot g total → HasTold slot g total found before after

    -- ---- the end of a table

    -- the table is given up: no slot is kept but for what is current or warming, and the passes that were taken back have all their callers' entries
    pub record HasGivenUp (p : Plan W) (before new : Me (Cell D U) (Known W U X L)) : Type 0 where
      pub turned : HasTurned (Emptied 0) before.0.fresh before new
      pub over : IsOver (state_of (limits p) turned.log)
      pub own : AllByRecursion (λ o. mine o.caller turned.log ≡ o.mine) before.0.back

    abbrev pub GaveUp : Step (Cell D U) → Me (Cell D U) (Known W U X L) → ℕ → Me (Cell D U) (Known W U X L) → Type 0
    GaveUp step before found after = (p : Plan W) → before.0.plan ≡ Some p → HasGivenUp p before after

    -- the seat has what lay in the cell for good: a door as its caller left it, or nothing where the slot was opened for none. The history has not grown
    pub record HasTakenOut (setting : D → W) (docs : D → X) (deeds : D → List L) (p : Plan W) (k : ℕ) (before new : Me (Cell D U) (Known W U X L)) : Type 0 where
      pub turned : HasTurned (Emptied (k + 1)) before.0.fresh before (new.0, before.1)
      pub same : turned.log ≡ before.0.seen
      pub old : Cell D U
      pub out : HasOut k old before new
      pub left : IsLeft setting docs deeds p (held_in before.0.seen (k / 64)) (λ g. told_in before.0.seen g (k % 64 + 1)) old

    abbrev pub TookOut : (D → W) → (D → X) → (D → List L) → Step (Cell D U) → Me (Cell D U) (Known W U X L) → ℕ → Me (Cell D U) (Known W U X L) → Type 0
    TookOut setting docs deeds step before stored after = (p : Plan W) → before.0.plan ≡ Some p → HasTakenOut setting docs deeds p stored before after
