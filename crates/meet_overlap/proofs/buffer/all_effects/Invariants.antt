-- What stays true from turn to turn of `all_effects`, src/buffer.rt.
use Rattle.std.proofs.Common.{◌≡◌, take}
use Rattle.meet_overlap.specs.Buffers.{effects}
use Rattle.meet_overlap.proofs.buffer.all_effects.Given as goal

-- the effects of so many calls are listed
abbrev pub invariant-loop-call : goal.invariant-loop-call
invariant-loop-call l = l.list.items ≡ effects (take l.call-index l.calls)
