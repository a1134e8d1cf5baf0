-- What stays true from turn to turn of `check_pool`, src/checker.rt.
use Rattle.std.proofs.Common.{◌≡◌, None, take}
use Rattle.pool_core.specs.Histories.{no_base}
use Rattle.pool_history.specs.Pushing.{HasSeen}
use Rattle.pool_history.proofs.checker.check_pool.Given as goal

-- the checker has seen the records so far
abbrev pub invariant-loop-entry : goal.invariant-loop-entry
invariant-loop-entry l = record {
  settings : l.checker.pool.settings ≡ l.fn.settings;
  sound : l.checker.fault ≡ None;
  seen : HasSeen no_base l.checker (take l.entry-index l.records);
}
