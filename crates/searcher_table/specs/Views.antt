-- What a seat knows of the history, and of its caller's calls.
use Rattle.std.specs.Prelude.{◌≡◌, ◌⊎◌, ℕ, List, [], ◌∷◌, ◌++◌, false, Option, Some, None}
use Rattle.std.specs.List.{AllByRecursion}
use Rattle.registry_machine.specs.declared.entry.Entry.{Entry}
use Rattle.registry_machine.specs.declared.entry.Entry.TheVariants.{Open, TooMany, GenerationsSpent, Update}
use Rattle.registry_machine.specs.Entries.{caller_of, content_of, has_place}
use Rattle.searcher_table.specs.declared.board.Call.{Call}
use Rattle.searcher_table.specs.declared.board.Call.TheVariants.{Open as ToOpen, Update as ToUpdate}
use Rattle.searcher_table.specs.declared.board.Asked.{Asked}

-- the history begins with what was seen
abbrev pub StartsWith : {A : Type 0} → List A → List A → Type 0
StartsWith {A} log seen = (rest : List A) × (log ≡ seen ++ rest)

module _ {U X L : Type 0} where
  -- the call that an entry is of: an opening may also be refused
  abbrev pub call_of : Entry U X L → Option Call
  call_of (Open c u g s docs) = Some ToOpen
  call_of (TooMany c u gs) = Some ToOpen
  call_of (GenerationsSpent c u) = Some ToOpen
  call_of (Update c u) = Some ToUpdate
  call_of _ = None

  -- the entry is the caller's call that was announced
  pub record Answers (c : ℕ) (asked : Asked U) (e : Entry U X L) : Type 0 where
    pub caller : caller_of e ≡ Some c
    pub content : content_of e ≡ Some asked.content
    pub call : call_of e ≡ Some asked.call

  -- since it was seen, the history has grown by no entry with a place
  pub record HasNoPlaceSince (log seen : List (Entry U X L)) : Type 0 where
    pub rest : List (Entry U X L)
    pub grown : log ≡ seen ++ rest
    pub quiet : AllByRecursion (λ e. has_place e ≡ false) rest

  -- a caller had these entries and had announced this; now it has those, and that is announced
  module _ (c : ℕ) (had : List (Entry U X L)) (asked_then : Option (Asked U)) (has : List (Entry U X L)) (asked_now : Option (Asked U)) where
    pub record IsStill : Type 0 where
      pub mine : has ≡ had
      pub announced : asked_now ≡ asked_then

    -- what was announced has its entry, and nothing is announced any more
    pub record WasExecuted : Type 0 where
      pub asked : Asked U
      pub entry : Entry U X L
      pub announced : asked_then ≡ Some asked
      pub answers : Answers c asked entry
      pub mine : has ≡ had ++ entry ∷ []
      pub none : asked_now ≡ None

    abbrev pub GoesOn : Type 0
    GoesOn = IsStill ⊎ WasExecuted
