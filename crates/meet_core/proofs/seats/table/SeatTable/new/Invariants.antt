-- What stays true from turn to turn of `SeatTable::new`, src/seats/table.rt.
use Rattle.std.proofs.Common.{◌≡◌, replicate, vec_len, vec_capacity}
use Rattle.meet_tickets.specs.declared.lines.Hold.TheVariants.{Free}
use Rattle.meet_core.proofs.seats.table.SeatTable.new.Given as goal

-- so many seats are there, and the room is that of all
abbrev pub invariant-loop : goal.invariant-loop
invariant-loop g l = record {
  filled : l.holds.items ≡ replicate l.counter Free;
  some : vec_len l.holds ≡ l.counter;
  room : vec_capacity l.holds ≡ l.count;
}
