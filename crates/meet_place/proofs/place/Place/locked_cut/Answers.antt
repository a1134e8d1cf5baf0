-- Proof of `Place::locked_cut`, src/place.rt. A checkpoint of a seat: folds the records away, under one hold of the
-- lock, and answers how many were folded away since the first.
use Rattle.std.proofs.Common.{◌≡◌, ◌+◌, ℕ, None, Ok, Err, length}
use Rattle.std.specs.Prelude.{Result, IfOk}
use Rattle.meet_tickets.specs.declared.refusals.Refusal.{Refusal}
use Rattle.meet_book.specs.Booked.{Booked}
use Rattle.meet_book.specs.Booking.{cut_refusal}
use Rattle.meet_place.specs.Seats.{SeatView, Checkpoints}
use Rattle.meet_place.proofs.Folded.{refused}
use Rattle.meet_place.proofs.place.Place.locked_cut.Goals as goal

module _ {O B D : Type 0} (gone_of : B → ℕ) (book : Booked O B D) (old new : SeatView D) where
  folded : (r : Result ℕ Refusal) → IfOk r (λ n. n ≡ gone_of book.base + length book.records)
      → IfOk r (λ _. cut_refusal (gone_of book.base) book ≡ None)
      → IfOk r (λ _. Checkpoints (length book.records) old new)
      → IfOk r (λ n. (b : Booked O B D) × (n ≡ gone_of b.base + length b.records)
      × (cut_refusal (gone_of b.base) b ≡ None) × Checkpoints (length b.records) old new)
  folded (Ok n) is admitted counted = (book, is, admitted, counted)
  folded (Err why) is admitted counted = is

pub returns-clause-gone : goal.returns-clause-gone
returns-clause-gone g c =
    folded g.O.Object.gone_of c.deref_mut.result.now c.args.seat.now c.cut.new.seat c.cut.result c.cut.ensures.gone c.cut.ensures.admitted
    c.cut.ensures.counted

pub returns-clause-why : goal.returns-clause-why
returns-clause-why g c = refused g.O.Object.gone_of c.deref_mut.result.now c.cut.result c.cut.ensures.why
