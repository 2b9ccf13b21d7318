-- What became of all jobs that were pushed.
use Rattle.std.specs.Prelude.{◌≡◌, ℕ, ◌<◌, List, ◌++◌, length, All, slice_get, slice_index_or, Some}
use Rattle.warming_jobs.specs.declared.board.Jobs.{Jobs}
use Rattle.warming_jobs.specs.declared.board.Known.{Known}
use Rattle.warming_jobs.specs.declared.board.Taken.{Taken}
use Rattle.warming_jobs.specs.declared.pusher.Pusher.{Pusher}
use Rattle.warming_jobs.specs.declared.puller.Puller.{Puller}
use Rattle.warming_jobs.specs.Takes.{Take, jobs_in, taken_by, Ascends}
use Rattle.warming_jobs.specs.Passes.{queue_of, pusher_queue, puller_queue, pushed_of, pullers_of, taken_of}

module _ {J : Type 0} where
  -- the puller of this queue with this number
  pub record IsPuller (jobs : Jobs J) (n : ℕ) (p : Puller J) : Type 0 where
    pub queue : puller_queue p ≡ queue_of jobs
    pub number : p.number ≡ n

  -- the pusher of this queue and all its pullers, in the order of their numbers
  pub record AreAll (jobs : Jobs J) (pusher : Pusher J) (pullers : List (Puller J)) : Type 0 where
    pub queue : pusher_queue pusher ≡ queue_of jobs
    pub count : length pullers ≡ pullers_of pusher
    pub each : (i : ℕ) (p : Puller J) → slice_get pullers i ≡ Some p → IsPuller jobs i p

  module _ (generation : J → ℕ) (pusher : Pusher J) where
    -- What was pushed is what the pullers took, in this order, each job by one of them, and then what is left. Generations
    -- ascend in it.
    pub record IsHandedOut (pullers : List (Puller J)) (left : List J) : Type 0 where
      pub takes : List (Take J)
      pub pushed : pushed_of pusher ≡ jobs_in takes ++ left
      pub each :
          (i : ℕ) (p : Puller J) → slice_get pullers i ≡ Some p →
          taken_of p ≡ taken_by i takes
      pub by_pullers : All (λ t. t.by < length pullers) takes
      pub ascends : Ascends generation (pushed_of pusher)

  -- a pass that has what all pullers took, in the order of their numbers
  pub record HasAll (k : Known J) : Type 0 where
    pub count : length k.taken ≡ k.dealt
    pub each : (i : ℕ) (d : Taken J) → i < length k.taken → (slice_index_or k.taken i d).by ≡ i
