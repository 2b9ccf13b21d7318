-- What a new queue comes with.
use Rattle.std.specs.Prelude.{◌≡◌, ℕ, List, [], length, slice_get, Some}
use Rattle.atomic_table.specs.Seated.{TableId}
use Rattle.warming_jobs.specs.declared.pusher.Pusher.{Pusher}
use Rattle.warming_jobs.specs.declared.puller.Puller.{Puller}
use Rattle.warming_jobs.specs.Passes.{pusher_queue, puller_queue, pushed_of, pullers_of, taken_of}

module _ {J : Type 0} (id : TableId) where
  -- the pusher of this queue, which has so many pullers and of which nothing was pushed
  pub record IsNewPusher (count : ℕ) (p : Pusher J) : Type 0 where
    pub queue : pusher_queue p ≡ id
    pub pullers : pullers_of p ≡ count
    pub pushed : pushed_of p ≡ []

  -- the puller of this queue with this number, which has taken nothing
  pub record IsNewPuller (n : ℕ) (p : Puller J) : Type 0 where
    pub queue : puller_queue p ≡ id
    pub number : p.number ≡ n
    pub taken : taken_of p ≡ []

  -- so many pullers, numbered from 0 on
  pub record AreNewPullers (many : ℕ) (ps : List (Puller J)) : Type 0 where
    pub count : length ps ≡ many
    pub each : (i : ℕ) (p : Puller J) → slice_get ps i ≡ Some p → IsNewPuller i p
