-- Proof of `Queue::interrupt_all`, src/stopping.rt.
use Rattle.std.proofs.Common.{◌≡◌, nat_eq, [], ◌∷◌, subst, true, false, arith, rules}
use Rattle.meet_sync.specs.Stopping.{Interrupts}
use Rattle.meet_sync.proofs.Interrupting.{interrupted_more, interrupted_same}
use Rattle.meet_sync.proofs.queue.Queue.interrupt_all.Goals as goal

pub loop-number-preserved-then-number-own : goal.loop-number-preserved-then-number-own
loop-number-preserved-then-number-own g c =
    let same : nat_eq c.loop-number.number c.args.seat.number ≡ true = search (rules, arith) in
    record {
      within = omega arith;
      interrupted = interrupted_same c.args.seat c.loop-number.seat c.args.seat.number c.loop-number.number same
          c.loop-number.invariant.interrupted;
    }

pub loop-number-preserved : goal.loop-number-preserved
loop-number-preserved g c =
    let differs : nat_eq c.loop-number.number c.args.seat.number ≡ false = search (rules, arith) in
    let target : c.unwrap.result ≡ c.loop-number.number = search (rules, arith) in
    record {
      within = omega arith;
      interrupted = interrupted_more c.args.seat c.loop-number.seat c.in-Ok.after c.args.seat.number c.loop-number.number differs
          c.loop-number.invariant.interrupted
          (subst (λ n. Interrupts c.loop-number.seat c.in-Ok.after (n ∷ [])) target c.in-Ok.ensures.interrupted);
    }
