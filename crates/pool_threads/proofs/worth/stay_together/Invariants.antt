-- What stays true from turn to turn of `stay_together`, src/worth.rt.
use Rattle.std.proofs.Common.{◌≡◌, drop, false}
use Rattle.meet_book.specs.Listed.{is_since}
use Rattle.pool_threads.specs.Worthy.{stay_together}
use Rattle.pool_threads.proofs.worth.stay_together.Given as goal

-- what is left tells as much as all
abbrev pub invariant-loop-receipt : goal.invariant-loop-receipt
invariant-loop-receipt l =
    stay_together (is_since l.gone) l.before (drop l.receipt-index l.list) ≡ stay_together (is_since l.gone) false l.list
