-- What stays true from turn to turn of `sum_answered`, src/answers.rt.
use Rattle.std.proofs.Common.{◌≡◌, take}
use Rattle.pool_drive.specs.Driven.{sum_in}
use Rattle.pool_drive.proofs.answers.sum_answered.Given as goal

-- the sum so far
abbrev pub invariant-loop-entry : goal.invariant-loop-entry
invariant-loop-entry l = l.sum ≡ sum_in (take l.entry-index l.records)
