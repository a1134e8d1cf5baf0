-- What stays true from turn to turn of `number_of`, src/buffer.rt.
use Rattle.std.proofs.Common.{◌≡◌, ◌≤◌, length, take}
use Rattle.meet_overlap.specs.Buffers.{effects}
use Rattle.meet_overlap.proofs.buffer.number_of.Given as goal

-- the effects of so many calls are counted, and the one that is wanted isn't among them
abbrev pub invariant-loop-number : goal.invariant-loop-number
invariant-loop-number l = (l.effects ≡ length (effects (take l.number l.calls))) × (l.effects ≤ l.place)
