-- What stays true from turn to turn of `add_seats`, src/seats/table.rt.
use Rattle.std.proofs.Common.{◌≡◌, ◌+◌, ◌++◌, replicate, false, vec_len, vec_capacity}
use Rattle.meet_tickets.specs.declared.lines.Hold.TheVariants.{Free}
use Rattle.meet_core.proofs.seats.table.add_seats.Given as goal

-- so many seats were added, and the room is as it was
abbrev pub invariant-loop : goal.invariant-loop
invariant-loop g l = record {
  holds : l.holds.items ≡ l.fn.holds.items ++ replicate l.counter Free;
  flags : l.flags.items ≡ l.fn.flags.items ++ replicate l.counter false;
  holds_len : vec_len l.holds ≡ vec_len l.fn.holds + l.counter;
  flags_len : vec_len l.flags ≡ vec_len l.fn.flags + l.counter;
  holds_room : vec_capacity l.holds ≡ vec_capacity l.fn.holds;
  flags_room : vec_capacity l.flags ≡ vec_capacity l.fn.flags;
}
