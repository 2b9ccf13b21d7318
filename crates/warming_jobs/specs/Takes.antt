-- Jobs as they were taken, and the order of generations.
use Rattle.std.specs.Prelude.{ℕ, ◌<◌, ◌==◌, if◌then◌else◌, ◌≡◌, List, [], ◌∷◌, ◌++◌, map, All, AllPairs}

-- the puller of this number took this job
pub record Take (J : Type 0) : Type 0 where
  pub by : ℕ
  pub job : J

module _ {J : Type 0} where
  -- the jobs, in the order in which they were taken
  abbrev pub jobs_in : List (Take J) → List J
  jobs_in takes = map (λ t. t.job) takes

  -- those that the puller of this number took
  abbrev pub taken_by : ℕ → List (Take J) → List J
  taken_by n [] = []
  taken_by n (t ∷ ts) = if t.by == n then t.job ∷ taken_by n ts else taken_by n ts

  -- the jobs in this list end with these
  abbrev pub IsTheEndOf : List J → List J → Type 0
  IsTheEndOf jobs last = (first : List J) × (jobs ≡ first ++ last)

  module _ (generation : J → ℕ) where
    -- each job is of a later generation than those before it
    abbrev pub Ascends : List J → Type 0
    Ascends jobs = AllPairs (λ early late. generation early < generation late) jobs

    -- the job is of a later generation than all of these
    abbrev pub IsLater : J → List J → Type 0
    IsLater job jobs = All (λ early. generation early < generation job) jobs
