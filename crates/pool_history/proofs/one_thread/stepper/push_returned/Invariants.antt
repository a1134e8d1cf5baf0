-- What stays true from turn to turn of `push_returned`, src/one_thread/stepper.rt.
use Rattle.std.proofs.Common.{◌≡◌, ◌+◌, ◌++◌, take, vec_len, vec_capacity}
use Rattle.pool_history.specs.OneThread.{returned}
use Rattle.pool_history.proofs.one_thread.stepper.push_returned.Given as goal

-- the jobs so far came back
abbrev pub invariant-loop-task : goal.invariant-loop-task
invariant-loop-task l = record {
  items : l.replies.items ≡ l.fn.replies.items ++ returned l.fn.seat (take l.task-index l.jobs);
  count : vec_len l.replies ≡ vec_len l.fn.replies + l.task-index;
  capacity : vec_capacity l.replies ≡ vec_capacity l.fn.replies;
}
