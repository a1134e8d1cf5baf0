-- What a worker's step under the lock leaves.
use Rattle.std.specs.Prelude.{◌≡◌, ℕ, ◌+◌, ◌≤◌}
use Rattle.meet_place.specs.Seats.{SeatView}
use Rattle.pool_core.specs.declared.deeds.PoolDeed.{PoolDeed}

-- the same seat after one step at most
pub record IsAfter (old new : SeatView (PoolDeed ℕ)) : Type 0 where
  pub number : new.number ≡ old.number
  pub room : old.room ≤ new.room + 1
