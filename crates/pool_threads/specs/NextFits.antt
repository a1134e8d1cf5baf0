-- How a worker's step under the lock ends.
use Rattle.std.specs.Prelude.{◌≡◌, ℕ, ⊤, ◌≤◌}
use Rattle.meet_place.specs.Seats.{SeatView}
use Rattle.pool_core.specs.declared.answers.Ready.{Ready}
use Rattle.pool_core.specs.declared.answers.Ready.TheVariants.{Run, Waits, Exit}
use Rattle.pool_core.specs.declared.answers.Followed.{Followed}
use Rattle.pool_core.specs.declared.answers.Followed.TheVariants.{Run as FollowRun, Exit as FollowExit, NotYet}
use Rattle.pool_core.specs.declared.answers.IdleEnd.{IdleEnd}
use Rattle.pool_core.specs.declared.answers.IdleEnd.TheVariants.{Exit as IdleExits, Stay, Late}
use Rattle.pool_core.specs.declared.deeds.PoolDeed.{PoolDeed}
use Rattle.pool_threads.specs.declared.steps.Next.{Next}
use Rattle.pool_threads.specs.declared.steps.Next.TheVariants as next
use Rattle.pool_threads.specs.Worthy.{EndsRunning}
use Rattle.pool_threads.specs.Working.{IsAfter}

module _ {C : Type 0} where
  -- the seat after its step, which begins to run the job that it got
  abbrev pub NextFits : SeatView (PoolDeed ℕ) → Next C (SeatView (PoolDeed ℕ)) → Type 0
  NextFits old (next.Run seat job) = IsAfter old seat × EndsRunning seat.list job.tag
  NextFits old (next.Waits seat) = IsAfter old seat
  NextFits old (next.Ended seat) = IsAfter old seat
  NextFits old (next.Stays seat) = (seat.number ≡ old.number) × (old.room ≤ seat.room)
  NextFits old next.Gone = ⊤
  NextFits old (next.Refused seat) = IsAfter old seat

  module _ {S : Type 0} where
    -- the seat as it is, and the job of the tag that the core's answer to `ready` told
    abbrev pub ReadyNext : S → Ready ℕ → Next C S → Type 0
    ReadyNext old (Run ticket tag) (next.Run seat job) = (seat ≡ old) × (job.tag ≡ tag)
    ReadyNext old Waits (next.Waits seat) = seat ≡ old
    ReadyNext old Exit next.Gone = ⊤
    ReadyNext old answer n = ⊥

    -- to `follow`
    abbrev pub FollowNext : S → Followed ℕ → Next C S → Type 0
    FollowNext old (FollowRun ticket tag) (next.Run seat job) = (seat ≡ old) × (job.tag ≡ tag)
    FollowNext old NotYet (next.Stays seat) = seat ≡ old
    FollowNext old FollowExit next.Gone = ⊤
    FollowNext old answer n = ⊥

    -- to `idle_end`
    abbrev pub IdleNext : S → IdleEnd → Next C S → Type 0
    IdleNext old Stay (next.Stays seat) = seat ≡ old
    IdleNext old Late (next.Stays seat) = seat ≡ old
    IdleNext old IdleExits next.Gone = ⊤
    IdleNext old answer n = ⊥
