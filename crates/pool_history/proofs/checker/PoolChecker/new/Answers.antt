-- Proof of `PoolChecker::new`, src/checker.rt. A checker of a pool of these settings that has seen no record.
use Rattle.std.proofs.Common.{refl}
use Rattle.pool_history.proofs.checker.PoolChecker.new.Goals as goal

pub returns-in-Ok-clause-seen : goal.returns-in-Ok-clause-seen
returns-in-Ok-clause-seen c = (
  rw c.in-Ok.ensures.settings c.in-Ok.ensures.well_formed,
  record { legal = tt; moment = rw c.in-Ok.ensures.settings c.in-Ok.ensures.fresh; count = refl },
)
