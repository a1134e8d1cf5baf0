-- What stays true from turn to turn of `staying_of`, src/erasing.rt.
use Rattle.std.proofs.Common.{◌≡◌, take}
use Rattle.meet_laws.specs.Gone.{staying_among}
use Rattle.meet_laws.proofs.erasing.staying_of.Given as goal

-- what is staying of the records so far
abbrev pub invariant-loop-entry : goal.invariant-loop-entry
invariant-loop-entry l = l.staying.items ≡ staying_among l.gone (take l.entry-index l.records)
