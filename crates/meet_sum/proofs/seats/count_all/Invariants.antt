-- What stays true from turn to turn of `count_all`, src/seats.rt.
use Rattle.std.proofs.Common.{◌≡◌, ℕ, take, List, [], vec_len}
use Rattle.meet_tickets.specs.declared.records.Record.{Record}
use Rattle.meet_tickets.specs.declared.records.Deed.{Deed}
use Rattle.meet_tickets.specs.Limits.{most_seats}
use Rattle.meet_sum.specs.Seats.{seat_sum, HasSeats}
use Rattle.meet_sum.proofs.seats.count_all.Given as goal

-- the records so far are counted
abbrev pub invariant-loop-entry : goal.invariant-loop-entry
invariant-loop-entry l = record {
  every : vec_len l.sums ≡ most_seats;
  counted : (before : List (Record Deed)) (opened all : ℕ) → HasSeats (seat_sum before [] opened all []) l.fn.sums.items
      → HasSeats (seat_sum before (take l.entry-index l.more) opened all []) l.sums.items;
}
