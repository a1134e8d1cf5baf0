-- What stays true from turn to turn of `with_tickets`, src/closing.rt.
use Rattle.std.proofs.Common.{◌+◌, ◌≤◌, vec_len}
use Rattle.std.specs.Vec.{vec_capacity}
use Rattle.std.specs.Vec.Iter.{into_iter_items}
use Rattle.std.specs.VecDeque.{deque_len}
use Rattle.pool_threads.proofs.Ticketed.{AreTicketed}
use Rattle.pool_threads.proofs.closing.with_tickets.Given as goal

abbrev pub invariant-loop-job : goal.invariant-loop-job
invariant-loop-job g l = record {
  room : vec_len l.left + deque_len l.kept ≤ vec_capacity l.left;
  tickets : AreTicketed l.fn.tasks.items l.fn.kept.items l.left.items l.kept.items (into_iter_items l.tasks);
}

abbrev pub decreases-loop-job : goal.decreases-loop-job
decreases-loop-job g l = deque_len l.kept
