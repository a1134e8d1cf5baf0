-- What stays true from turn to turn of `Queue::interrupt_all`, src/stopping.rt.
use Rattle.std.proofs.Common.{◌≤◌}
use Rattle.meet_sync.specs.Stopping.{Interrupts, others}
use Rattle.meet_sync.proofs.queue.Queue.interrupt_all.Given as goal

-- the others below this number were interrupted
abbrev pub invariant-loop-number : goal.invariant-loop-number
invariant-loop-number g l = record {
  within : l.number ≤ l.number-end;
  interrupted : Interrupts l.fn.seat l.seat (others l.fn.seat.number l.number);
}
