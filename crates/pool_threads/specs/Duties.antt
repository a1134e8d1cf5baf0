-- What a worker does next, and the room that its list has for that.
use Rattle.std.specs.Prelude.{ℕ, ⊤, ◌<◌, ◌≤◌}
use Rattle.meet_place.specs.Seats.{SeatView}
use Rattle.pool_core.specs.declared.deeds.PoolDeed.{PoolDeed}
use Rattle.pool_threads.specs.declared.steps.Next.{Next}
use Rattle.pool_threads.specs.declared.steps.Next.TheVariants as next
use Rattle.pool_threads.specs.declared.home.Duty.{Duty}
use Rattle.pool_threads.specs.declared.home.Duty.TheVariants as duty
use Rattle.pool_threads.specs.Worthy.{EndsRunning}

module _ {C : Type 0} where
  -- to be ready and leave takes one receipt, to record an answer and leave two, to be handed a job and record its
  -- answer and leave three
  abbrev pub DutyFits : Duty C (SeatView (PoolDeed ℕ)) → Type 0
  DutyFits (duty.BeReady seat) = 0 < seat.room
  DutyFits (duty.Run seat job) = (2 ≤ seat.room) × EndsRunning seat.list job.tag
  DutyFits (duty.Await seat) = 3 ≤ seat.room

  -- what came of being ready, or of a look whether there is a job, is such a duty
  abbrev pub IsStepped : Next C (SeatView (PoolDeed ℕ)) → Type 0
  IsStepped (next.Run seat job) = (2 ≤ seat.room) × EndsRunning seat.list job.tag
  IsStepped (next.Waits seat) = 3 ≤ seat.room
  IsStepped (next.Stays seat) = 3 ≤ seat.room
  IsStepped other = ⊤
