-- Proof of `PoolShared::checkpoint`, src/checkpoints.rt. Folds the records away, counts them for the seat, and answers
-- how many were folded away since the first.
use Rattle.std.proofs.Common.{◌≡◌, ◌+◌, ◌≤◌, ℕ, arith}
use Rattle.meet_place.specs.Seats.{SeatView, Checkpoints}
use Rattle.pool_threads.proofs.shared.PoolShared.checkpoint.Goals as goal
use Rattle.pool_threads.proofs.shared.PoolShared.checkpoint.Goals.{in-Ok, in-Err}

-- what a checkpoint counts is no more than what was ever folded away
counts : {D : Type 0} (gone before many : ℕ) (old new : SeatView D) → gone ≡ before + many → Checkpoints many old new
    → (more : ℕ) × (more ≤ gone) × Checkpoints more old new
counts gone before many old new is h = (many, omega (arith, is), h)

pub returns-clause-seat : goal.returns-clause-seat
returns-clause-seat g c = elim c.match-cut.branch [
  | in-Ok b ↦ rw b.result-is (counts _ _ _ _ _ b.in-Ok.ensures.gone b.in-Ok.ensures.counted)
  | in-Err b ↦ rw b.result-is tt
]
