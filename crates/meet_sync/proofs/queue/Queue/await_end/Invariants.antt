-- What stays true from turn to turn of `Queue::await_end`, src/whole.rt.
use Rattle.std.proofs.Common.{◌≡◌, None}
use Rattle.std.specs.Prelude.{IfNone}
use Rattle.meet_sync.proofs.queue.Queue.await_end.Given as goal

-- without a limit there never is one
abbrev pub invariant-loop : goal.invariant-loop
invariant-loop g l = record {
  same : l.pending ≡ l.fn.first;
  untimed : IfNone l.fn.limit (l.remaining ≡ None);
}
