-- What stays true from turn to turn of `count_deeds`, src/deeds.rt.
use Rattle.std.proofs.Common.{◌≡◌, take}
use Rattle.meet_sum.specs.Deeds.{deeds_in}
use Rattle.meet_sum.proofs.deeds.count_deeds.Given as goal

-- the numbers of the records so far
abbrev pub invariant-loop-entry : goal.invariant-loop-entry
invariant-loop-entry l = l.counts ≡ deeds_in (take l.entry-index l.records)
