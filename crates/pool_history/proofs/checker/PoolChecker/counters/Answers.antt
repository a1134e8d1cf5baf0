-- Proof of `PoolChecker::counters`, src/checker.rt. What the pool counts behind the records that were pushed; or the
-- fault that was found.
use Rattle.pool_history.proofs.Pushed.{counters-taken}
use Rattle.pool_history.proofs.checker.PoolChecker.counters.Goals as goal

pub returns-in-None-clause-counters : goal.returns-in-None-clause-counters
returns-in-None-clause-counters c =
    rw (← c.self.view_is, c.counters.ensures) (counters-taken _ c.in-None.is)
