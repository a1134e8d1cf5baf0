-- Proof of `cut`, src/checkpoints.rt. Folds the records of a place away, and counts them for the seat.
use Rattle.std.proofs.Common.{◌≡◌, ◌+◌, ◌≤◌, ℕ, None, Ok, Err, length, arith}
use Rattle.std.specs.Prelude.{Result, IfOk}
use Rattle.meet_tickets.specs.declared.refusals.Refusal.{Refusal}
use Rattle.meet_book.specs.Booked.{Booked}
use Rattle.meet_book.specs.Booking.{cut_refusal}
use Rattle.meet_place.specs.Seats.{SeatView, Checkpoints}
use Rattle.meet_sync.proofs.checkpoints.cut.Goals as goal

-- what a checkpoint counts is no more than what was ever folded away
counts : (O : Type 0) {B D : Type 0} (gone_of : B → ℕ) (old new : SeatView D) (r : Result ℕ Refusal)
    → IfOk r (λ n. (b : Booked O B D) × (n ≡ gone_of b.base + length b.records)
    × (cut_refusal (gone_of b.base) b ≡ None) × Checkpoints (length b.records) old new)
    → IfOk r (λ n. (more : ℕ) × (more ≤ n) × Checkpoints more old new)
counts O gone_of old new (Ok n) (b, is, admitted, counted) = (length b.records, omega (arith, is), counted)
counts O gone_of old new (Err why) h = h

pub returns-clause-counted : goal.returns-clause-counted
returns-clause-counted g c =
    counts _ g.O.Object.gone_of c.args.seat.now c.locked_cut.new.seat c.locked_cut.result c.locked_cut.ensures.gone
