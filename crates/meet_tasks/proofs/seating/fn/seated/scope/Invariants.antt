-- What stays true from turn to turn of the closure of `seated`, src/seating.rt.
use Rattle.std.proofs.Common.{◌≡◌, ◌+◌, ◌≤◌, vec_len}
use Rattle.std.specs.Vec.{vec_capacity}
use Rattle.std.specs.Vec.Iter.{into_iter_len}
use Rattle.meet_tasks.proofs.seating.fn.seated.scope.Given as goal

abbrev pub invariant-loop-seat : goal.invariant-loop-seat
invariant-loop-seat g l = record {
  can : (goal.iterator-loop-seat g).can_next l.seat-iterator;
  finite : (goal.iterator-loop-seat g).is_finite l.seat-iterator;
  rest : into_iter_len l.seat-iterator + vec_len l.threads ≡ into_iter_len l.initial.seat-iterator;
  room : into_iter_len l.initial.seat-iterator ≤ vec_capacity l.threads;
}
