-- Proof of `CheckedPool::takes_execute`, src/checker/pool/callers.rt. Takes an execute in, if the rules give it.
use Rattle.pool_history.proofs.checker.pool.CheckedPool.takes_execute.Goals as goal

pub returns-in-Aborted-clause-allowed : goal.returns-in-Aborted-clause-allowed
returns-in-Aborted-clause-allowed c = rw c.in-Aborted.is (c.aborts.ensures.allowed c.in-Aborted.field-0)

pub returns-in-Aborted-clause-after : goal.returns-in-Aborted-clause-after
returns-in-Aborted-clause-after c = rw c.in-Aborted.is (c.aborts.ensures.after c.in-Aborted.field-0)

pub returns-in-CallerRuns-clause-allowed : goal.returns-in-CallerRuns-clause-allowed
returns-in-CallerRuns-clause-allowed c = rw c.in-CallerRuns.is (c.leaves_to_caller.ensures.allowed c.in-CallerRuns.field-0)

pub returns-in-CallerRuns-clause-after : goal.returns-in-CallerRuns-clause-after
returns-in-CallerRuns-clause-after c = rw c.in-CallerRuns.is (c.leaves_to_caller.ensures.after c.in-CallerRuns.field-0)

pub returns-in-Dropped-clause-allowed : goal.returns-in-Dropped-clause-allowed
returns-in-Dropped-clause-allowed c = rw c.in-Dropped.is (c.drops.ensures.allowed c.in-Dropped.field-0)

pub returns-in-Dropped-clause-after : goal.returns-in-Dropped-clause-after
returns-in-Dropped-clause-after c = rw c.in-Dropped.is (c.drops.ensures.after c.in-Dropped.field-0)
