-- What stays true from turn to turn of `SeatTable::into_left`, src/seats/table.rt.
use Rattle.std.proofs.Common.{◌≡◌, ◌+◌, ◌++◌, length, vec_len, vec_capacity}
use Rattle.std.specs.Vec.Iter.{into_iter_items, into_iter_len}
use Rattle.meet_core.specs.Left.{left_at_seats}
use Rattle.meet_core.proofs.seats.table.SeatTable.into_left.Given as goal

-- what was taken out, and what is left yet, are what was left at first
abbrev pub invariant-loop-hold : goal.invariant-loop-hold
invariant-loop-hold g l = record {
  items : l.left.items ++ left_at_seats (into_iter_items l.holds) ≡ l.fn.left.items ++ left_at_seats l.fn.self.holds;
  len : vec_len l.left + length (left_at_seats (into_iter_items l.holds)) ≡ vec_len l.fn.left + length (left_at_seats l.fn.self.holds);
  capacity : vec_capacity l.left ≡ vec_capacity l.fn.left;
}

abbrev pub decreases-loop-hold : goal.decreases-loop-hold
decreases-loop-hold g l = into_iter_len l.holds
