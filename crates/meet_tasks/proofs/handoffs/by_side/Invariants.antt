-- What stays true from turn to turn of `by_side`, src/handoffs.rt.
use Rattle.std.proofs.Common.{◌≡◌, ◌+◌, ◌≤◌, vec_len}
use Rattle.std.specs.Vec.{vec_capacity}
use Rattle.std.specs.Vec.Iter.{into_iter_len}
use Rattle.meet_tasks.proofs.handoffs.by_side.Given as goal

abbrev pub invariant-loop-side : goal.invariant-loop-side
invariant-loop-side g l = record {
  can : (goal.iterator-loop-side g).can_next l.side-iterator;
  finite : (goal.iterator-loop-side g).is_finite l.side-iterator;
  both : into_iter_len l.side-iterator + (vec_len l.produced + vec_len l.consumed) ≡ vec_len l.fn.results;
  produced : vec_len l.fn.results ≤ vec_capacity l.produced;
  consumed : vec_len l.fn.results ≤ vec_capacity l.consumed;
}
