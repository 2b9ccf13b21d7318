-- What each kind of step tells the pass that makes it, and how what passes know is split and joined.
use Rattle.std.specs.Prelude.{◌≡◌, ℕ, ◌+◌, ◌<◌, false, List, [], ◌∷◌, ◌++◌, All}
use Rattle.warming_jobs.specs.declared.board.Known.{Known}
use Rattle.warming_jobs.specs.declared.board.Taken.{Taken}
use Rattle.warming_jobs.specs.Takes.{Take, jobs_in, taken_by, Ascends, IsLater}

module _ {J : Type 0} where
  -- what one puller has taken
  abbrev pub by_one : ℕ → List J → List (Taken J)
  by_one n jobs = record { by = n; jobs = jobs } ∷ []

  -- what the first of these has taken
  abbrev pub first_jobs : List (Taken J) → List J
  first_jobs [] = []
  first_jobs (t ∷ ts) = t.jobs

  -- the first of these has taken one job more
  abbrev pub one_more : J → List (Taken J) → List (Taken J)
  one_more job [] = []
  one_more job (t ∷ ts) = record t { jobs = t.jobs ++ job ∷ [] } ∷ ts

  abbrev pub Pushed : Known J → J → Known J → Type 0
  Pushed before job after = after ≡ record before { pushed = before.pushed ++ job ∷ [] }

  -- the job is of a later generation than those that this puller has taken
  pub record Took (generation : J → ℕ) (before : Known J) (job : J) (after : Known J) : Type 0 where
    pub known : after ≡ record before { taken = one_more job before.taken }
    pub later : IsLater generation job (first_jobs before.taken)

  -- Jobs were taken in some order, and these are left. Generations ascend in it, and this puller took what it knows of.
  pub record HadTurns (generation : J → ℕ) (k : Known J) (left : List J) : Type 0 where
    pub takes : List (Take J)
    pub own : All (λ t. t.jobs ≡ taken_by t.by takes) k.taken
    pub ascends : Ascends generation (jobs_in takes ++ left)

  -- the next puller is dealt
  abbrev pub dealer : Known J → Known J
  dealer k = record k { dealt = k.dealt + 1 }

  abbrev pub newcomer : Known J → Known J
  newcomer k = record { pushes = false; pushed = []; dealt = 0; taken = by_one k.dealt [] }

  -- the pusher has what the puller has taken
  abbrev pub joined : Known J → Known J → Known J
  joined k puller = record k { taken = puller.taken ++ k.taken }

  -- a puller that was joined into the pusher
  abbrev pub spent : Known J
  spent = record { pushes = false; pushed = []; dealt = 0; taken = [] }

  -- what was pushed is what was taken, in this order, and then what is left
  pub record IsSettled (generation : J → ℕ) (k : Known J) (left : List J) : Type 0 where
    pub takes : List (Take J)
    pub pushed : k.pushed ≡ jobs_in takes ++ left
    pub ascends : Ascends generation k.pushed
    pub by_pullers : All (λ t. t.by < k.dealt) takes
    pub each : All (λ t. t.jobs ≡ taken_by t.by takes) k.taken
