-- Proof of `interrupt`, src/calls.rt.
use Rattle.std.proofs.Common.{◌≡◌, [], ◌∷◌, sym, subst, arith, rules}
use Rattle.meet_sync.proofs.Interrupting.{interrupted_one}
use Rattle.meet_sync.specs.Stopping.{Interrupts}
use Rattle.meet_tasks.proofs.calls.interrupt.Goals as goal

pub returns-in-Ok-clause-interrupted : goal.returns-in-Ok-clause-interrupted
returns-in-Ok-clause-interrupted g c =
    let target : c.unwrap-number.result ≡ c.args.target = search (rules, arith) in
    subst (λ n. Interrupts c.args.seat c.into_seat.result (n ∷ [])) target
    (subst (λ after. Interrupts c.args.seat after (c.unwrap-number.result ∷ [])) (sym c.into_seat.ensures)
    (interrupted_one c.args.seat c.unwrap-number.result c.in-Ok.interrupted c.in-Ok.ensures.interrupted))
