-- What contracts say of the queue, the pusher and the pullers.
use Rattle.std.specs.Prelude.{◌≡◌, ℕ, List, ◌++◌, [], ◌∷◌}
use Rattle.atomic_table.specs.Seated.{TableId}
use Rattle.crossbeam_queue.specs.Fifo.{Held}
use Rattle.crossbeam_queue.specs.Passes.{view, ruled_capacity}
use Rattle.warming_jobs.specs.declared.board.Jobs.{Jobs}
use Rattle.warming_jobs.specs.declared.pusher.Pusher.{Pusher}
use Rattle.warming_jobs.specs.declared.puller.Puller.{Puller}
use Rattle.warming_jobs.specs.Takes.{IsTheEndOf}
use Rattle.warming_jobs.specs.Steps.{first_jobs, HadTurns}

module _ {J : Type 0} where
  -- the queue itself, that of the pusher and that of a puller
  abbrev pub queue_of : Jobs J → TableId
  queue_of jobs = jobs.queue.table.shared.table_id

  abbrev pub pusher_queue : Pusher J → TableId
  pusher_queue p = p.pass.table_id

  abbrev pub puller_queue : Puller J → TableId
  puller_queue p = p.pass.table_id

  -- how many jobs the queue holds at most
  abbrev pub capacity_of : Jobs J → ℕ
  capacity_of jobs = ruled_capacity jobs.queue

  -- the jobs that were pushed, in their order
  abbrev pub pushed_of : Pusher J → List J
  pushed_of p = (view p.pass).pushed

  -- how many pullers the queue was made with
  abbrev pub pullers_of : Pusher J → ℕ
  pullers_of p = (view p.pass).dealt

  -- the jobs that this puller has taken, in their order
  abbrev pub taken_of : Puller J → List J
  taken_of p = first_jobs (view p.pass).taken

  -- the pusher p of one queue is now q
  pub record IsSamePusher (p q : Pusher J) : Type 0 where
    pub queue : pusher_queue q ≡ pusher_queue p
    pub pullers : pullers_of q ≡ pullers_of p

  -- the puller p of one queue is now q
  pub record IsSamePuller (p q : Puller J) : Type 0 where
    pub queue : puller_queue q ≡ puller_queue p
    pub number : q.number ≡ p.number

  -- the pusher p has pushed this job and is now q
  pub record HasPushed (p q : Pusher J) (job : J) : Type 0 where
    pub same : IsSamePusher p q
    pub pushed : pushed_of q ≡ pushed_of p ++ job ∷ []

  -- the puller p has taken this job and is now q
  pub record HasTaken (p q : Puller J) (job : J) : Type 0 where
    pub same : IsSamePuller p q
    pub taken : taken_of q ≡ taken_of p ++ job ∷ []

  -- at a step of the call the queue was empty: jobs had been taken in some order, this puller's among them, and none was
  -- left
  abbrev pub FoundNone : (J → ℕ) → Puller J → Type 0
  FoundNone generation p = Held 0 (HadTurns generation (view p.pass))

  -- at a step of the call the queue was full, and held the jobs that were pushed last
  abbrev pub FoundFull : Jobs J → Pusher J → Type 0
  FoundFull jobs p = Held (capacity_of jobs) (IsTheEndOf (pushed_of p))
