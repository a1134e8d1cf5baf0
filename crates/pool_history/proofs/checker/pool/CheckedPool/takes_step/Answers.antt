-- Proof of `CheckedPool::takes_step`, src/checker/pool/workers.rt. Takes a worker's step in, if the rules give it.
use Rattle.pool_history.proofs.checker.pool.CheckedPool.takes_step.Goals as goal

pub returns-in-Finished-clause-allowed : goal.returns-in-Finished-clause-allowed
returns-in-Finished-clause-allowed c = rw c.in-Finished.is (c.finishes.ensures.allowed c.in-Finished.field-0)

pub returns-in-Finished-clause-after : goal.returns-in-Finished-clause-after
returns-in-Finished-clause-after c = rw c.in-Finished.is (c.finishes.ensures.after c.in-Finished.field-0)
