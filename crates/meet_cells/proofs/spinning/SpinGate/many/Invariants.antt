-- What stays true from turn to turn of `SpinGate::many`, src/spinning.rt.
use Rattle.std.proofs.Common.{◌≡◌, vec_len}
use Rattle.meet_cells.proofs.spinning.SpinGate.many.Given as goal

abbrev pub invariant-loop : goal.invariant-loop
invariant-loop l = record { count : vec_len l.gates ≡ l.counter }
