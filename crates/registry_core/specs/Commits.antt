-- What contracts say of commits that open a searcher.
use Rattle.std.specs.Prelude.{◌≡◌, ℕ, [], None, Result, Ok, Err}
use Rattle.registry_machine.specs.declared.entry.Entry.TheVariants.{Open, TooMany, GenerationsSpent}
use Rattle.searcher_table.specs.declared.shown.Shown.{Ghosts}
use Rattle.searcher_table.specs.declared.tokens.Opening.{Opening}
use Rattle.searcher_table.specs.declared.tokens.OpenRefusal.{OpenRefusal}
use Rattle.searcher_table.specs.declared.tokens.OpenRefusal.TheVariants.{TooMany as AsTooMany, GenerationsSpent as AsSpent}
use Rattle.searcher_table.specs.Warming.{listed}
use Rattle.searcher_table.specs.Views.{StartsWith}
use Rattle.searcher_table.specs.Passes as pass
use Rattle.registry_core.specs.declared.caller.Caller.{Caller}
use Rattle.registry_core.specs.declared.change.Change.{Change}
use Rattle.registry_core.specs.declared.commit.CommitRefusal.{CommitRefusal}
use Rattle.registry_core.specs.declared.commit.CommitRefusal.TheVariants.{TooMany as WereTooMany, GenerationsSpent as WereSpent, NoMemory}
use Rattle.registry_core.specs.declared.fresh.Fresh.{Fresh}
use Rattle.registry_core.specs.declared.writer.Writer as writer
use Rattle.registry_core.specs.Journal.{updates_of}
use Rattle.registry_core.specs.Making.{IsNewDoor}
use Rattle.registry_core.specs.Freshness as fresh
use Rattle.registry_core.specs.Callers.{number_of, seen_of, HasProlonged, HasEntered}

-- what a commit announces for its line
abbrev pub for_line : {U : Type 0} → ℕ → Change U
for_line line = record { line = line; update = None }

module _ {D U S X L : Type 0} where
  -- what a commit is answered
  abbrev pub answer_of : Result (Opening D (Change U) S X L × D) OpenRefusal → Result (ℕ × Fresh D U S X L) CommitRefusal
  answer_of (Ok o) = Ok (o.0.at, record { opening = o.0; own = o.1; from = None })
  answer_of (Err (AsTooMany at gens)) = Err (WereTooMany at gens)
  answer_of (Err (AsSpent at)) = Err (WereSpent at)

module _ {D U W S X L : Type 0} where
  -- the setting of the core
  abbrev pub setting_of : Caller D U W S X L → S
  setting_of t = (pass.plan_of t.pass).setting.value

  -- the warming is one of the caller's core
  abbrev pub IsFreshAt : Caller D U W S X L → Fresh D U S X L → Type 0
  IsFreshAt t f = fresh.table_of f ≡ pass.table_of t.pass

  -- the next generation was opened, by the caller's entry alone: its documents are right after the updates before it. Its own door shows them, with the core's setting, and nothing is noted yet
  pub record HasCommitted (is : Ghosts D S X L) (w : writer.Ghosts W D U S X L) (s t : Caller D U W S X L) (line at : ℕ) (f : Fresh D U S X L) : Type 0 where
    pub slot : ℕ
    pub shown : X
    pub entered : HasEntered s t (Open (number_of s) (for_line line) (fresh.generation_of f) slot shown) at
    pub right : w.shows (updates_of entered.before) shown
    pub own : IsNewDoor is (setting_of s) shown f.own
    pub from : f.from ≡ None
    pub place : fresh.place_of f ≡ at
    pub covers : StartsWith (seen_of t) (fresh.seen_of f)
    pub here : IsFreshAt t f

  -- as many generations were warming as may be, and these are told; or there was room, and the last generation was spent. Either has its entry. Or memory was wanting, and it has none
  abbrev pub IsNotCommitted : Caller D U W S X L → Caller D U W S X L → ℕ → CommitRefusal → Type 0
  IsNotCommitted s t line (WereTooMany at gens) = HasEntered s t (TooMany (number_of s) (for_line line) (listed gens)) at
  IsNotCommitted s t line (WereSpent at) = HasEntered s t (GenerationsSpent (number_of s) (for_line line)) at
  IsNotCommitted s t line NoMemory = HasProlonged s t []
