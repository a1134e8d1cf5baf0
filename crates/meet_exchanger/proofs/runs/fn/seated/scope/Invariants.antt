-- What stays true from turn to turn of the closure of `seated`, src/runs.rt.
use Rattle.std.proofs.Common.{◌≡◌, ◌+◌, ◌≤◌, vec_len}
use Rattle.std.specs.Vec.{vec_capacity}
use Rattle.meet_exchanger.proofs.runs.fn.seated.scope.Given as goal

abbrev pub invariant-loop-placed : goal.invariant-loop-placed
invariant-loop-placed g l = record {
  rest : vec_len l.seats + vec_len l.threads ≡ vec_len l.initial.seats;
  room : vec_len l.initial.seats ≤ vec_capacity l.threads;
}

abbrev pub decreases-loop-placed : goal.decreases-loop-placed
decreases-loop-placed g l = vec_len l.seats
