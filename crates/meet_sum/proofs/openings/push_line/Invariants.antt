-- What stays true from turn to turn of `push_line`, src/openings.rt.
use Rattle.std.proofs.Common.{◌≡◌, ◌++◌, map, take}
use Rattle.meet_tickets.specs.Fates.{line_record}
use Rattle.meet_sum.proofs.openings.push_line.Given as goal

-- those so far are appended
abbrev pub invariant-loop-entry : goal.invariant-loop-entry
invariant-loop-entry l = l.out.items ≡ l.fn.out.items ++ map line_record (take l.entry-index l.line)
