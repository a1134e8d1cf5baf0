-- What stays true from turn to turn of `a_limit_against_a_swap_at_the_same_moment`, src/rows.rt.
use Rattle.std.proofs.Common.{◌≡◌}
use Rattle.meet_exchanger_tests.proofs.rows.a_limit_against_a_swap_at_the_same_moment.Given as goal

-- the seats are the exchanger's
abbrev pub invariant-loop : goal.invariant-loop
invariant-loop g l = (l.zero.arena ≡ l.exchanger.id) × (l.one.arena ≡ l.exchanger.id)
