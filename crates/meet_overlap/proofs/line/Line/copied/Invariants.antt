-- What stays true from turn to turn of `copied`, src/line.rt.
use Rattle.std.proofs.Common.{◌≡◌, take}
use Rattle.meet_overlap.proofs.line.Line.copied.Given as goal

-- so many are copied
abbrev pub invariant-loop-entry : goal.invariant-loop-entry
invariant-loop-entry l = l.entries.items ≡ take l.entry-index l.entry-items
