-- What stays true from turn to turn of `workers_of`, src/making.rt.
use Rattle.std.proofs.Common.{◌≡◌, ◌+◌, ◌≤◌, [], All, false, vec_len}
use Rattle.std.specs.Prelude.{replicate}
use Rattle.std.specs.Vec.{vec_capacity}
use Rattle.std.specs.Vec.Iter.{into_iter_len, into_iter_items}
use Rattle.pool_threads.specs.Mirrored.{away}
use Rattle.pool_threads.proofs.making.workers_of.Given as goal

abbrev pub invariant-loop-seat : goal.invariant-loop-seat
invariant-loop-seat g l = record {
  can : (goal.iterator-loop-seat g).can_next l.seat-iterator;
  finite : (goal.iterator-loop-seat g).is_finite l.seat-iterator;
  rest : into_iter_len l.seat-iterator + vec_len l.workers ≡ vec_len l.fn.seats;
  room : vec_len l.fn.seats ≤ vec_capacity l.workers;
  new : All (λ seat. seat.list ≡ []) (into_iter_items l.seat-iterator);
  here : away l.workers.items ≡ replicate (vec_len l.workers) false;
}
