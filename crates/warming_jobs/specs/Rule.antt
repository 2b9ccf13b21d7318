-- The rule of the queue: what holds between any two steps.
use Rattle.std.specs.Prelude.{◌≡◌, ℕ, ◌<◌, true, List, [], ◌++◌, All}
use mathlib.Core.Option.{some}
use lib.ListN.{get_elem?}
use Rattle.warming_jobs.specs.declared.board.Known.{Known}
use Rattle.warming_jobs.specs.declared.board.Taken.{Taken}
use Rattle.warming_jobs.specs.Takes.{Take, jobs_in, taken_by, Ascends}

-- the pass of a new queue, which pushes
abbrev pub opened : {J : Type 0} → Known J
opened = record { pushes = true; pushed = []; dealt = 0; taken = [] }

module _ {J : Type 0} where
  -- the jobs were taken so by so many pullers, each of which is one pass's
  module _ (takes : List (Take J)) (pullers : ℕ) (owner : ℕ → ℕ) where
    -- the puller's number is this pass's own, and the pass knows what it took
    pub record OwnsTaken (pass : ℕ) (t : Taken J) : Type 0 where
      pub own : owner t.by ≡ pass
      pub number : t.by < pullers
      pub jobs : t.jobs ≡ taken_by t.by takes

  -- the jobs were taken so by so many pullers, and these are left
  module _ (takes : List (Take J)) (left : List J) (pullers pusher : ℕ) where
    -- one pass pushes, and it knows what was pushed and how many pullers there are
    pub record KnowsPushed (pass : ℕ) (k : Known J) : Type 0 where
      pub alone : pass ≡ pusher
      pub dealt : k.dealt ≡ pullers
      pub pushed : k.pushed ≡ jobs_in takes ++ left

    pub record Fits (owner : ℕ → ℕ) (pass : ℕ) (k : Known J) : Type 0 where
      pub pushing : k.pushes ≡ true → KnowsPushed pass k
      pub pulling : All (OwnsTaken takes pullers owner pass) k.taken

  -- What was pushed is what was taken, in this order, and then what the queue holds. Generations ascend in it.
  pub record InTurn (generation : J → ℕ) (left : List J) (knows : List (Known J)) : Type 0 where
    pub takes : List (Take J)
    pub pullers : ℕ
    pub pusher : ℕ
    pub owner : ℕ → ℕ
    pub ascends : Ascends generation (jobs_in takes ++ left)
    pub by_pullers : All (λ t. t.by < pullers) takes
    pub each :
        (pass : ℕ) (k : Known J) → get_elem? knows pass ≡ some k →
        Fits takes left pullers pusher owner pass k
