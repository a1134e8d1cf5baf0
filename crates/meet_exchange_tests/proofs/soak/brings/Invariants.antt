-- What stays true from turn to turn of `brings`, src/soak.rt.
use Rattle.std.proofs.Common.{◌≡◌}
use Rattle.meet_exchange_tests.proofs.soak.brings.Given as goal

abbrev pub invariant-loop-number : goal.invariant-loop-number
invariant-loop-number g l = l.seat.arena ≡ l.arena.id
