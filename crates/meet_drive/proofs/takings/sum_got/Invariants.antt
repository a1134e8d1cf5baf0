-- What stays true from turn to turn of `sum_got`, src/takings.rt.
use Rattle.std.proofs.Common.{◌≡◌, take}
use Rattle.meet_drive.specs.Driven.{sum_got}
use Rattle.meet_drive.proofs.takings.sum_got.Given as goal

-- the sum so far
abbrev pub invariant-loop-entry : goal.invariant-loop-entry
invariant-loop-entry l = l.sum ≡ sum_got (take l.entry-index l.records)
