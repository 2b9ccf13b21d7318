-- The rule of a table: what holds between any two steps.
use Rattle.std.specs.Prelude.{◌≡◌, ◌⊎◌, ℕ, ◌+◌, ◌<◌, ◌≤◌, true, List, [], length, map, count_by, slice_index, Option, Some, None}
use Rattle.std.specs.List.{AllByRecursion}
use mathlib.Core.Option.{some}
use lib.ListN.{get_elem?}
use Rattle.atomic_table.specs.Table.{State}
use Rattle.registry_machine.specs.declared.entry.Entry.{Entry}
use Rattle.registry_machine.specs.Machine.{Limits, is_in}
use Rattle.registry_machine.specs.Legal.{Legal, state_of}
use Rattle.registry_machine.specs.Callers.{mine}
use Rattle.searcher_table.specs.declared.board.Asked.{Asked}
use Rattle.searcher_table.specs.declared.board.Cell.{Cell}
use Rattle.searcher_table.specs.declared.board.Plan.{Plan}
use Rattle.searcher_table.specs.declared.board.Hand.{Hand}
use Rattle.searcher_table.specs.declared.board.Own.{Own}
use Rattle.searcher_table.specs.declared.board.Known.{Known}
use Rattle.searcher_table.specs.declared.board.Task.{Task}
use Rattle.searcher_table.specs.declared.board.Task.TheVariants.{Idle, Back}
use Rattle.searcher_table.specs.declared.board.Fresh.{Fresh}
use Rattle.searcher_table.specs.Tasks.{emptied, IsWarming, Three}
use Rattle.searcher_table.specs.Doors.{told_in, held_in, Four}
use Rattle.searcher_table.specs.Words.{word_count, current_word, packed, call_word, code, HasSizes, limits}
use Rattle.searcher_table.specs.Counts.{is_acquire, is_not_yet, releases, pinned, NamesCaller}
use Rattle.searcher_table.specs.Views.{StartsWith, HasNoPlaceSince, GoesOn}

-- what is no function of the history: what each caller has announced, whose seat its pass is and whose its announced call, which seat is the registrar's, the first caller with no pass yet, what each caller has begun with a slot, and the registrar as caller 0, whose seat can publish a warming generation, and what the doors show that the registrar lays
pub record World (U X L : Type 0) : Type 0 where
  pub log : List (Entry U X L)
  pub pending : ℕ → Option (Asked U)
  pub pass_at : ℕ → ℕ
  pub hand_at : ℕ → ℕ
  pub registrar_at : ℕ
  pub next : ℕ
  pub tasks : ℕ → Task
  pub fresh_at : ℕ → ℕ
  pub filling : Option X

-- the first seat, which has the passes of all callers until they are dealt
abbrev pub opened : {W U X L : Type 0} → Plan W → Known W U X L
opened p = record {
  plan = Some p;
  caller = 0;
  mine = [];
  announced = None;
  hand = None;
  task = Idle;
  fresh = None;
  seen = [];
  told = [];
  steps = 0;
  registrar = true;
  next = 1;
  back = [];
  filling = None;
}

-- a caller whose pass was taken back has begun nothing, and pins nothing
pub record IsDone {U X L : Type 0} (tasks : ℕ → Task) (o : Own U X L) : Type 0 where
  pub low : 1 ≤ o.caller
  pub task : tasks o.caller ≡ Back
  pub unpinned : pinned o.caller o.mine ≡ None

module _ {U X L : Type 0} (w : World U X L) (id : ℕ) where
  -- the seat has the right to a pending call
  pub record IsHand (h : Hand U) : Type 0 where
    pub here : w.hand_at h.caller ≡ id
    pub pending : w.pending h.caller ≡ Some h.asked

  -- the seat has the right to a warming generation
  pub record IsFresh (l : Limits) (f : Fresh) : Type 0 where
    pub here : w.fresh_at f.generation ≡ id
    pub warming : IsWarming (state_of l w.log) f

  -- a pass that was taken back has all its caller's entries, and nothing is pending
  pub record IsBack (o : Own U X L) : Type 0 where
    pub here : w.pass_at o.caller ≡ id
    pub dealt : o.caller < w.next
    pub mine : mine o.caller w.log ≡ o.mine
    pub none : w.pending o.caller ≡ None
    pub done : IsDone w.tasks o

module _ {W U X L : Type 0} (w : World U X L) (id : ℕ) where
  -- the seat of a caller's pass knows its entries and what it has announced, but for one that was executed meanwhile
  pub record IsPass (k : Known W U X L) : Type 0 where
    pub here : w.pass_at k.caller ≡ id
    pub dealt : k.caller < w.next
    pub calls : GoesOn k.caller k.mine k.announced (mine k.caller w.log) (w.pending k.caller)
    pub task : k.task ≡ w.tasks k.caller

  -- the registrar has seen each entry with a place, and knows who has no pass yet; once cells are emptied, it has seen all
  pub record IsRegistrar (k : Known W U X L) : Type 0 where
    pub here : w.registrar_at ≡ id
    pub seen : HasNoPlaceSince w.log k.seen
    pub next : k.next ≡ w.next
    pub nobody : k.caller ≡ 0
    pub task : k.task ≡ w.tasks 0
    pub filling : k.filling ≡ w.filling
    pub final : (n : ℕ) → emptied k.task ≡ Some n → k.seen ≡ w.log

-- the pass of each caller was taken back
abbrev pub callers_of : {U X L : Type 0} → List (Own U X L) → List ℕ
callers_of back = map (λ o. o.caller) back

abbrev pub AreBack : {W U X L : Type 0} → Plan W → List (Own U X L) → Type 0
AreBack p back = (c : ℕ) → 1 ≤ c → c ≤ p.callers → is_in c (callers_of back) ≡ true

-- what a seat knows is true
pub record Fits {W U X L : Type 0} (p : Plan W) (w : World U X L) (id : ℕ) (k : Known W U X L) : Type 0 where
  pub plan : (q : Plan W) → k.plan ≡ Some q → q ≡ p
  pub seen : StartsWith w.log k.seen
  pub told : StartsWith w.log k.told
  pub pass : 1 ≤ k.caller → IsPass w id k
  pub hand : (h : Hand U) → k.hand ≡ Some h → IsHand w id h
  pub fresh : (f : Fresh) → k.fresh ≡ Some f → IsFresh w id (limits p) f
  pub registrar : k.registrar ≡ true → IsRegistrar w id k
  pub back : AllByRecursion (IsBack w id) k.back

-- Part one: the callers' words, what each seat has seen and what is its own. Once cells are emptied, all passes were taken back.
pub record One {W U X L : Type 0} (p : Plan W) (w : World U X L) (words : List ℕ) (views : List (Known W U X L)) : Type 0 where
  pub calls : (c : ℕ) → 1 ≤ c → c ≤ 64 → slice_index words (call_word c) ≡ code (w.pending c)
  pub fits : (id : ℕ) (k : Known W U X L) → get_elem? views id ≡ some k → Fits p w id k
  pub undealt : (c : ℕ) → w.next ≤ c → (w.pending c ≡ None) × (mine c w.log ≡ []) × (w.tasks c ≡ Idle)
  pub first : 1 ≤ w.next
  pub few : w.next ≤ p.callers + 1
  pub over : (n c : ℕ) → emptied (w.tasks 0) ≡ Some n → 1 ≤ c → c ≤ p.callers → w.tasks c ≡ Back

-- Nothing is current, and the current word counts the acquires that came too early.
pub record CountsTooEarly {U X L : Type 0} (l : Limits) (log : List (Entry U X L)) (word : ℕ) : Type 0 where
  pub none : (state_of l log).current ≡ None
  pub counted : word ≡ count_by is_not_yet log

-- The current word has the current generation, its slot and its acquires.
pub record IsPacked {U X L : Type 0} (l : Limits) (log : List (Entry U X L)) (word : ℕ) : Type 0 where
  pub generation : ℕ
  pub slot : ℕ
  pub current : (state_of l log).current ≡ Some generation
  pub opened : (state_of l log).slots slot ≡ Some generation
  pub word_is : word ≡ packed generation slot ((state_of l log).acquired generation)

abbrev pub SaysCurrent : {U X L : Type 0} → Limits → List (Entry U X L) → ℕ → Type 0
SaysCurrent l log word = CountsTooEarly l log word ⊎ IsPacked l log word

-- Part two: the current word, and that no caller acquires more often than it may.
pub record Two {W U X L : Type 0} (p : Plan W) (log : List (Entry U X L)) (words : List ℕ) : Type 0 where
  pub sizes : HasSizes p
  pub current : SaysCurrent (limits p) log (slice_index words current_word)
  pub named : AllByRecursion NamesCaller log
  pub within : (c : ℕ) → count_by is_acquire (mine c log) ≤ p.budget

-- how often each generation was released
abbrev pub released : {U X L : Type 0} → List (Entry U X L) → ℕ → ℕ
released log g = count_by (releases g) log

-- There is one legal history.
pub record Kept {D W U X L : Type 0} (setting : D → W) (docs : D → X) (deeds : D → List L) (p : Plan W) (s : State (Cell D U) (Known W U X L)) : Type 0 where
  pub words : length s.words ≡ word_count
  pub world : World U X L
  pub legal : Legal (limits p) world.log
  pub one : One p world s.words s.views
  pub two : Two p world.log s.words
  pub three : Three p (state_of (limits p) world.log) (released world.log) (world.tasks 0) world.tasks s.words
  pub four : Four setting docs deeds p (state_of (limits p) world.log) (told_in world.log) (held_in world.log) (world.tasks 0) world.filling s.homes
