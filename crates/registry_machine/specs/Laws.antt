-- What holds of every legal history, law by law, over any contents U, documents D and lists L.
use Rattle.std.specs.Prelude.{◌≡◌, ◌≢◌, ℕ, ◌+◌, ◌-◌, ◌<◌, ◌≤◌, List, [], ◌∷◌, ◌++◌, length, take, filter, filter_map, Bool, true, not, Some, None, slice_get}
use Rattle.std.specs.List.{range_with_len, last_or}
use Rattle.registry_machine.specs.declared.entry.Entry.{Entry}
use Rattle.registry_machine.specs.declared.entry.Entry.TheVariants.{Open}
use Rattle.registry_machine.specs.Entries.{has_place, opens, registers, ends, acquires, ticket_of, frees}
use Rattle.registry_machine.specs.Machine.{Limits, is_in, after}
use Rattle.registry_machine.specs.Legal.{IsAllowed, Legal, state_of}
use Rattle.registry_machine.specs.Places.{rank, Stands}
use Rattle.registry_machine.specs.Callers.{mine, Prolongs}

abbrev pub History : (U D L : Type 0) → Type 0
History U D L = List (Entry U D L)

module _ (U D L : Type 0) where
  -- ---- growing

  -- the state after one more entry is that after the entry
  abbrev pub StatesGrow : Type 0
  StatesGrow =
      (l : Limits) (h : History U D L) (e : Entry U D L) →
      state_of l (h ++ e ∷ []) ≡ after (state_of l h) e

  -- an entry that is allowed may be added
  abbrev pub HistoriesGrow : Type 0
  HistoriesGrow =
      (l : Limits) (h : History U D L) (e : Entry U D L) →
      Legal l h → IsAllowed l (state_of l h) e → Legal l (h ++ e ∷ [])

  -- each entry was allowed after those before it
  abbrev pub EachWasAllowed : Type 0
  EachWasAllowed =
      (l : Limits) (h : History U D L) (n : ℕ) (e : Entry U D L) →
      Legal l h → slice_get h n ≡ Some e → IsAllowed l (state_of l (take n h)) e

  -- what a legal history begins with is legal
  abbrev pub PrefixesAreLegal : Type 0
  PrefixesAreLegal = (l : Limits) (h more : History U D L) → Legal l (h ++ more) → Legal l h

  -- an allowed entry doesn't change what the test says
  abbrev pub IsKept : Limits → (History U D L → Bool) → Type 0
  IsKept l p =
      (h : History U D L) (e : Entry U D L) →
      Legal l (h ++ e ∷ []) → p h ≡ true → p (h ++ e ∷ []) ≡ true

  -- what holds of no entries, and is kept by each, holds of whatever a legal history begins with
  abbrev pub KeptHoldsOfPrefixes : Type 0
  KeptHoldsOfPrefixes =
      (l : Limits) (p : History U D L → Bool) → p [] ≡ true → IsKept l p →
      (h more : History U D L) → Legal l (h ++ more) → p h ≡ true

  -- ---- states

  -- the generation registered last is current
  abbrev pub LastRegisteredIsCurrent : Type 0
  LastRegisteredIsCurrent =
      (l : Limits) (h : History U D L) →
      (state_of l h).current ≡ last_or None (filter_map registers h)

  -- those opened and not ended are warming, in the order of their openings
  abbrev pub UnendedAreWarming : Type 0
  UnendedAreWarming =
      (l : Limits) (h : History U D L) → Legal l h →
      (state_of l h).warming ≡ filter (λ g. not (is_in g (filter_map ends h))) (filter_map opens h)

  -- the acquires of each generation are counted
  abbrev pub AcquiresAreCounted : Type 0
  AcquiresAreCounted =
      (l : Limits) (h : History U D L) (g : ℕ) →
      (state_of l h).acquired g ≡ length (filter_map (ticket_of g) h)

  -- the openings are counted
  abbrev pub OpeningsAreCounted : Type 0
  OpeningsAreCounted =
      (l : Limits) (h : History U D L) → Legal l h →
      (state_of l h).last_opened ≡ l.first_generation - 1 + length (filter_map opens h)

  -- ---- openings

  -- the i-th opening has the i-th generation
  abbrev pub OpeningsAreNumbered : Type 0
  OpeningsAreNumbered =
      (l : Limits) (h : History U D L) → Legal l h →
      filter_map opens h ≡
      range_with_len (l.first_generation - 1 + 1) (length (filter_map opens h))

  -- a later opening has a greater generation
  abbrev pub OpenedAscend : Type 0
  OpenedAscend =
      (l : Limits) (h : History U D L) (m n g x : ℕ) → Legal l h →
      Stands opens h m g → Stands opens h n x → m < n → g < x

  -- generations are opened once
  abbrev pub GenerationsOpenOnce : Type 0
  GenerationsOpenOnce =
      (l : Limits) (h : History U D L) (m n g : ℕ) → Legal l h →
      Stands opens h m g → Stands opens h n g → m ≡ n

  -- ---- ends

  -- generations end once
  abbrev pub GenerationsEndOnce : Type 0
  GenerationsEndOnce =
      (l : Limits) (h : History U D L) (m n g : ℕ) → Legal l h →
      Stands ends h m g → Stands ends h n g → m ≡ n

  -- each end has an opening before it
  abbrev pub EndedWereOpened : Type 0
  EndedWereOpened =
      (l : Limits) (h : History U D L) (n g : ℕ) → Legal l h →
      Stands ends h n g → (m : ℕ) × (m < n) × Stands opens h m g

  -- and stands behind it
  abbrev pub EndsStandBehind : Type 0
  EndsStandBehind =
      (l : Limits) (h : History U D L) (m n g : ℕ) → Legal l h →
      Stands opens h m g → Stands ends h n g → m < n

  -- a later registration has a greater generation
  abbrev pub RegisteredAscend : Type 0
  RegisteredAscend =
      (l : Limits) (h : History U D L) (m n g x : ℕ) → Legal l h →
      Stands registers h m g → Stands registers h n x → m < n → g < x

  -- ---- tickets

  -- the tickets of a generation are 0, 1, 2 and so on
  abbrev pub TicketsCountUp : Type 0
  TicketsCountUp =
      (l : Limits) (h : History U D L) (g : ℕ) → Legal l h →
      filter_map (ticket_of g) h ≡ range_with_len 0 ((state_of l h).acquired g)

  -- tickets are given once
  abbrev pub TicketsAreGivenOnce : Type 0
  TicketsAreGivenOnce =
      (l : Limits) (h : History U D L) (m n g k : ℕ) → Legal l h →
      Stands acquires h m (g, k) → Stands acquires h n (g, k) → m ≡ n

  -- of one generation the lower ticket was given first
  abbrev pub LowerTicketsComeFirst : Type 0
  LowerTicketsComeFirst =
      (l : Limits) (h : History U D L) (m n g j k : ℕ) → Legal l h →
      Stands acquires h m (g, j) → Stands acquires h n (g, k) → j < k → m < n

  -- acquired generations never descend
  abbrev pub AcquiredNeverDescend : Type 0
  AcquiredNeverDescend =
      (l : Limits) (h : History U D L) (m n g x j k : ℕ) → Legal l h →
      Stands acquires h m (g, j) → Stands acquires h n (x, k) → m < n → g ≤ x

  -- ---- places

  -- places never descend
  abbrev pub PlacesNeverDescend : Type 0
  PlacesNeverDescend = (h : History U D L) (m n : ℕ) → m ≤ n → rank h m ≤ rank h n

  -- and they rise over each entry that has one
  abbrev pub PlacesRise : Type 0
  PlacesRise =
      (h : History U D L) (m n : ℕ) (e : Entry U D L) →
      slice_get h m ≡ Some e → has_place e ≡ true → m < n → rank h m < rank h n

  -- entries with one place are one
  abbrev pub PlacesHaveOneIndex : Type 0
  PlacesHaveOneIndex =
      (h : History U D L) (m n : ℕ) (d e : Entry U D L) →
      slice_get h m ≡ Some d → has_place d ≡ true → slice_get h n ≡ Some e → has_place e ≡ true →
      rank h m ≡ rank h n → m ≡ n

  -- each place below their number is that of an entry
  abbrev pub EachPlaceHasAnEntry : Type 0
  EachPlaceHasAnEntry =
      (h : History U D L) (p : ℕ) → p < rank h (length h) →
      (n : ℕ) × (e : Entry U D L) × (slice_get h n ≡ Some e) × (has_place e ≡ true) × (rank h n ≡ p)

  -- ---- slots

  -- the entry at this index opens the generation in the slot
  abbrev pub IsOpenedIn : History U D L → ℕ → ℕ → ℕ → Type 0
  IsOpenedIn h n g slot =
      (caller : ℕ) × (u : U) × (d : D) × (slice_get h n ≡ Some (Open caller u g slot d))

  -- after the first n entries the caller pins the generation
  abbrev pub IsPinnedAfter : Limits → History U D L → ℕ → ℕ → ℕ → Type 0
  IsPinnedAfter l h n caller g = (state_of l (take n h)).pins caller ≡ Some g

  -- each opening's slot was free
  abbrev pub OpenedSlotsWereFree : Type 0
  OpenedSlotsWereFree =
      (l : Limits) (h : History U D L) (n g slot : ℕ) → Legal l h →
      IsOpenedIn h n g slot → (state_of l (take n h)).slots slot ≡ None

  -- while a caller pins a generation, the slot of its opening is open for it
  abbrev pub PinnedSlotsStayOpen : Type 0
  PinnedSlotsStayOpen =
      (l : Limits) (h : History U D L) (m n g slot caller : ℕ) → Legal l h →
      IsOpenedIn h m g slot → m < n → IsPinnedAfter l h n caller g →
      (state_of l (take n h)).slots slot ≡ Some g

  -- and no opening takes it
  abbrev pub PinnedSlotsAreNotTaken : Type 0
  PinnedSlotsAreNotTaken =
      (l : Limits) (h : History U D L) (m n g x slot other caller : ℕ) → Legal l h →
      IsOpenedIn h m g slot → m < n → IsPinnedAfter l h n caller g →
      IsOpenedIn h n x other → other ≢ slot

  -- generations are freed once
  abbrev pub GenerationsAreFreedOnce : Type 0
  GenerationsAreFreedOnce =
      (l : Limits) (h : History U D L) (m n g : ℕ) → Legal l h →
      Stands frees h m g → Stands frees h n g → m ≡ n

  -- ---- callers

  -- a caller's own entries are joined as what it has seen is
  abbrev pub OwnEntriesJoin : Type 0
  OwnEntriesJoin =
      (caller : ℕ) (seen more : History U D L) →
      mine caller (seen ++ more) ≡ mine caller seen ++ mine caller more

  -- its own entries since are those before and those added
  abbrev pub OwnEntriesAreAdded : Type 0
  OwnEntriesAreAdded =
      (caller : ℕ) (seen since own : History U D L) →
      Prolongs caller seen since own → mine caller since ≡ mine caller seen ++ own

  -- what a caller has seen prolongs itself by nothing
  abbrev pub SeenProlongsItself : Type 0
  SeenProlongsItself = (caller : ℕ) (seen : History U D L) → Prolongs caller seen seen []

  -- and calls one after another prolong what it had seen before the first
  abbrev pub ProlongingsJoin : Type 0
  ProlongingsJoin =
      (caller : ℕ) (seen since later own more : History U D L) →
      Prolongs caller seen since own → Prolongs caller since later more →
      Prolongs caller seen later (own ++ more)
