-- What stays true from turn to turn of `given_back`, src/calling.rt.
use Rattle.std.proofs.Common.{◌≡◌, ◌+◌, ◌≤◌, vec_len}
use Rattle.std.specs.Vec.{vec_capacity}
use Rattle.std.specs.Vec.Iter.{into_iter_len}
use Rattle.pool_callers.proofs.calling.given_back.Given as goal

abbrev pub invariant-loop-seat : goal.invariant-loop-seat
invariant-loop-seat g l = record {
  can : (goal.iterator-loop-seat g).can_next l.seat-iterator;
  finite : (goal.iterator-loop-seat g).is_finite l.seat-iterator;
  count : into_iter_len l.seat-iterator + vec_len l.backs ≡ vec_len l.fn.seats;
  room : vec_len l.fn.seats ≤ vec_capacity l.backs;
}
