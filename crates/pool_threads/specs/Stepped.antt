-- A worker's step under the lock is its core's, and what the worker does next is what the core returned.
use Rattle.std.specs.Prelude.{◌≡◌, ◌⊎◌, ℕ, Option, None, option_to_list}
use Rattle.meet_place.specs.Seats.{SeatView, Adds}
use Rattle.pool_core.specs.Moves.{IsMade, jobs_of}
use Rattle.pool_core.specs.Placed.{pool_record}
use Rattle.pool_core.specs.Shown.{Shown}
use Rattle.pool_core.specs.declared.calls.PoolCall.{PoolCall}
use Rattle.pool_core.specs.declared.calls.PoolCall.TheVariants as core
use Rattle.pool_core.specs.declared.calls.PoolAnswer.{PoolAnswer}
use Rattle.pool_core.specs.declared.calls.PoolAnswer.TheVariants as answer
use Rattle.pool_core.specs.declared.deeds.PoolDeed.{PoolDeed}
use Rattle.pool_threads.specs.declared.jobs.Job.{Job}
use Rattle.pool_threads.specs.declared.steps.Next.{Next}
use Rattle.pool_threads.specs.declared.steps.Next.TheVariants as next
use Rattle.pool_threads.specs.declared.steps.WorkerCall.{WorkerCall}
use Rattle.pool_threads.specs.declared.steps.WorkerCall.TheVariants as worker
use Rattle.pool_threads.specs.Mirrored.{given_tag}
use Rattle.pool_threads.specs.NextFits.{ReadyNext, FollowNext, IdleNext}

-- the core's call
abbrev pub core_call : WorkerCall → PoolCall ℕ
core_call worker.Ready = core.Ready
core_call worker.Follow = core.Follow
core_call (worker.Finish a) = core.Finish a
core_call worker.IdleEnd = core.IdleEnd
core_call worker.Leave = core.Leave

module _ {C : Type 0} where
  -- the worker does next what the core returned, with its seat as it is after the step
  abbrev pub IsTold : (after : SeatView (PoolDeed ℕ)) → PoolAnswer ℕ → Next C (SeatView (PoolDeed ℕ)) → Type 0
  IsTold after (answer.BeReady t a) n = ReadyNext after a n
  IsTold after (answer.Followed t a) n = FollowNext after a n
  IsTold after (answer.Idled t a) n = IdleNext after a n
  IsTold after (answer.Finished t) n = n ≡ next.Ended after
  IsTold after answer.Left n = n ≡ next.Gone
  IsTold after a n = ⊥

  -- the core made the step of this call of the seat; if that wrote a record, its receipt came to the list's end
  pub record IsStep (old new : Shown ℕ) (seat : SeatView (PoolDeed ℕ)) (call : PoolCall ℕ)
      (n : Next C (SeatView (PoolDeed ℕ))) : Type 0 where
    pub said : PoolAnswer ℕ
    pub after : SeatView (PoolDeed ℕ)
    pub made : IsMade old seat.number call said new
    pub number : after.number ≡ seat.number
    pub adds : Adds seat.list after.list (option_to_list (pool_record (λ x. x) seat.number call said))
    pub told : IsTold after said n

  -- or it was refused: the seat is as it was, and no job has moved
  abbrev pub Works : (old new : Shown ℕ) → SeatView (PoolDeed ℕ) → PoolCall ℕ → Next C (SeatView (PoolDeed ℕ)) → Type 0
  Works old new seat call n =
      IsStep old new seat call n ⊎ ((n ≡ next.Refused seat) × (jobs_of new.pool ≡ jobs_of old.pool))

  -- the core made the step of a start that failed, and the job that the worker was started with comes back, if there is
  -- one; or the step was refused, and no job has moved
  abbrev pub Fails : (old new : Shown ℕ) → SeatView (PoolDeed ℕ) → Option (Job C) → Type 0
  Fails old new seat job =
      ((ticket : ℕ) × (first : Option ℕ) × IsMade old seat.number core.StartFailed (answer.NotStarted ticket first) new
      × (given_tag job ≡ first))
      ⊎ ((job ≡ None) × (jobs_of new.pool ≡ jobs_of old.pool))
