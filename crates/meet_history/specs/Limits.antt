-- Which places there are.
use Rattle.std.specs.Prelude.{◌≤◌}
use Rattle.meet_tickets.specs.Limits.{most_seats, most_records, last_ticket}
use Rattle.meet_tickets.specs.Meeting.{FitsBound}
use Rattle.meet_history.specs.declared.one_thread.setup.Setup.{Setup}

-- a place's numbers are in their limits
pub record IsInLimits (setup : Setup) : Type 0 where
  pub seats : (1 ≤ setup.seats) × (setup.seats ≤ most_seats)
  pub cap : (1 ≤ setup.cap) × (setup.cap ≤ most_records)
  pub first : (1 ≤ setup.first) × (setup.first ≤ last_ticket)
  pub bound : FitsBound setup.kind.order setup.kind.bound
