-- What stays true from turn to turn of `whole_upto`, src/worth.rt.
use Rattle.std.proofs.Common.{◌≤◌}
use Rattle.std.specs.Prelude.{IfSome}
use Rattle.pool_threads.proofs.worth.whole_upto.Given as goal

-- the receipt before isn't past them
abbrev pub invariant-loop-receipt : goal.invariant-loop-receipt
invariant-loop-receipt l = IfSome l.before (λ place. place ≤ l.gone)
