-- What stays true from turn to turn of `without_time_it_does_not_wait`, src/java_exchanger.rt.
use Rattle.std.proofs.Common.{◌≡◌}
use Rattle.meet_exchanger_tests.proofs.java_exchanger.without_time_it_does_not_wait.Given as goal

-- the seat is the exchanger's
abbrev pub invariant-loop : goal.invariant-loop
invariant-loop g l = l.first.arena ≡ l.exchanger.id
