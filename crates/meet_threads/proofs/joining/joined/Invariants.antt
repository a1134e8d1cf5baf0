-- What stays true from turn to turn of `joined`, src/joining.rt.
use Rattle.std.proofs.Common.{◌≡◌, ◌+◌, ◌≤◌, vec_len}
use Rattle.std.specs.Vec.{vec_capacity}
use Rattle.std.specs.Vec.Iter.{into_iter_len}
use Rattle.meet_threads.proofs.joining.joined.Given as goal

abbrev pub invariant-loop-thread : goal.invariant-loop-thread
invariant-loop-thread g l = record {
  can : (goal.iterator-loop-thread g).can_next l.thread-iterator;
  finite : (goal.iterator-loop-thread g).is_finite l.thread-iterator;
  seats : into_iter_len l.thread-iterator + vec_len l.seats ≡ vec_len l.fn.threads;
  results : into_iter_len l.thread-iterator + vec_len l.results ≡ vec_len l.fn.threads;
  room : vec_len l.fn.threads ≤ vec_capacity l.seats;
  free : vec_len l.fn.threads ≤ vec_capacity l.results;
}
