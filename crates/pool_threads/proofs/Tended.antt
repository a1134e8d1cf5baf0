-- A seat that looked at a book, and then let go of receipts, tended its pool.
use Rattle.std.proofs.Common.{ℕ, Ok, Err}
use Rattle.std.specs.Prelude.{Result, IfOk}
use Rattle.meet_tickets.specs.declared.refusals.Refusal.{Refusal}
use Rattle.meet_place.specs.Seats.{SeatView, Checkpoints}

module _ {D A : Type 0} (old new : SeatView D) where
  -- some records were folded away
  pub some_more : (more : ℕ) (r : Result A Refusal) → IfOk r (λ _. Checkpoints more old new)
      → IfOk r (λ _. (more : ℕ) × Checkpoints more old new)
  some_more more (Ok done) counted = (more, counted)
  some_more more (Err why) counted = counted
