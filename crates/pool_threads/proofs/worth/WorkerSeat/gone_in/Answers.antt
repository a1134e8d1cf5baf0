-- Proof of `WorkerSeat::gone_in`, src/worth.rt. How many records were folded away, looked at for this seat, whose share
-- is no more than all records.
use Rattle.std.proofs.Common.{ap, subst, sym}
use Rattle.pool_threads.specs.Worthy.{IsWorthy}
use Rattle.pool_threads.proofs.worth.WorkerSeat.gone_in.Goals as goal

pub invariant_of-self : goal.invariant_of-self
invariant_of-self g c = subst (IsWorthy g.W.Work.worth) (sym (ap (λ s. s.list) c.gone_for.ensures.seat)) c.self.invariant
