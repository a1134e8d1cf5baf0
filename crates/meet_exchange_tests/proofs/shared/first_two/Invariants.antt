-- What stays true from turn to turn of `first_two`, src/shared.rt.
use Rattle.meet_exchange.specs.Seats.{AreNew}
use Rattle.meet_exchange_tests.proofs.shared.first_two.Given as goal

-- the seats that are still there are the first
abbrev pub invariant-loop : goal.invariant-loop
invariant-loop g l = AreNew l.arena.id 0 l.seats.items
