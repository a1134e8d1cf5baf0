-- What stays true from turn to turn of `rechain`, src/roll.rt.
use Rattle.std.proofs.Common.{length}
use Rattle.meet_line.specs.Rolled.{keys_of}
use Rattle.meet_line.proofs.Rechained.{HasChained}
use Rattle.meet_line.proofs.roll.rechain.Given as goal

abbrev pub invariant-loop-step : goal.invariant-loop-step
invariant-loop-step l =
    HasChained l.fn.nodes l.nodes l.table.items (length l.fn.table.items) (keys_of l.fn.nodes l.fn.first) l.at l._step
