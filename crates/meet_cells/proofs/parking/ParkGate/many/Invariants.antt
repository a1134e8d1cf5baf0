-- What stays true from turn to turn of `ParkGate::many`, src/parking.rt.
use Rattle.std.proofs.Common.{◌≡◌, vec_len}
use Rattle.meet_cells.proofs.parking.ParkGate.many.Given as goal

abbrev pub invariant-loop : goal.invariant-loop
invariant-loop l = record { count : vec_len l.gates ≡ l.counter }
