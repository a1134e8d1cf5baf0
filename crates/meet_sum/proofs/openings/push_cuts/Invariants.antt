-- What stays true from turn to turn of `push_cuts`, src/openings.rt.
use Rattle.std.proofs.Common.{◌≡◌, ◌++◌, take}
use Rattle.std.specs.List.{flat_map}
use Rattle.meet_tickets.specs.Fates.{cut_records}
use Rattle.meet_sum.proofs.openings.push_cuts.Given as goal

-- those so far are appended
abbrev pub invariant-loop-cut : goal.invariant-loop-cut
invariant-loop-cut l = l.out.items ≡ l.fn.out.items ++ flat_map cut_records (take l.cut-index l.cuts)
