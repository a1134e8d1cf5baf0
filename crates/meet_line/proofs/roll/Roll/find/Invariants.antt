-- What stays true from turn to turn of `Roll::find`, src/roll.rt.
use Rattle.std.proofs.Common.{◌%◌, length}
use Rattle.meet_line.specs.Rolled.{chain_of, keys_of}
use Rattle.meet_line.proofs.Looking.{HasLooked}
use Rattle.meet_line.proofs.roll.Roll.find.Given as goal

abbrev pub invariant-loop-looked : goal.invariant-loop-looked
invariant-loop-looked l =
    HasLooked l.self-inside.nodes (chain_of l.self-inside.nodes (length l.self-inside.table.items) (l.ticket % length l.self-inside.table.items) (keys_of l.self-inside.nodes l.self-inside.first)) l.ticket l.at l.looked
