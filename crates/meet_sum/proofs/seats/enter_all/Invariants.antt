-- What stays true from turn to turn of `enter_all`, src/seats.rt.
use Rattle.std.proofs.Common.{◌≡◌, ℕ, take, [], vec_len}
use Rattle.meet_tickets.specs.Limits.{most_seats}
use Rattle.meet_sum.specs.Seats.{seat_sum, HasSeats}
use Rattle.meet_sum.proofs.seats.enter_all.Given as goal

-- the records so far are noted
abbrev pub invariant-loop-entry : goal.invariant-loop-entry
invariant-loop-entry l = record {
  every : vec_len l.sums ≡ most_seats;
  noted : (opened all : ℕ) → HasSeats (seat_sum [] [] opened all []) l.fn.sums.items
      → HasSeats (seat_sum (take l.entry-index l.more) [] opened all []) l.sums.items;
}
