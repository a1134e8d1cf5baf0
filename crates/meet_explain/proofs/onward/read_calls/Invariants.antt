-- What stays true from turn to turn of `read_calls`, src/onward.rt.
use Rattle.std.proofs.Common.{◌≤◌}
use Rattle.std.specs.Vec.{vec_capacity}
use Rattle.meet_explain.proofs.onward.read_calls.Given as goal

abbrev pub invariant-loop : goal.invariant-loop
invariant-loop g l = 128 ≤ vec_capacity l.line
