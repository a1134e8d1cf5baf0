-- Proof of `Queue::interrupt_one`, src/stopping.rt. Interrupts a seat of this queue, whatever comes of it.
use Rattle.std.proofs.Common.{[], ◌∷◌, sym, subst}
use Rattle.meet_sync.specs.Stopping.{Interrupts}
use Rattle.meet_sync.proofs.Interrupting.{interrupted_one}
use Rattle.meet_sync.proofs.queue.Queue.interrupt_one.Goals as goal

pub returns-in-Ok-clause-interrupted : goal.returns-in-Ok-clause-interrupted
returns-in-Ok-clause-interrupted g c =
    subst (λ seat. Interrupts c.args.seat seat (c.args.target ∷ [])) (sym c.into_seat.ensures)
    (interrupted_one c.args.seat c.args.target c.in-Ok.interrupted c.in-Ok.ensures.interrupted)
