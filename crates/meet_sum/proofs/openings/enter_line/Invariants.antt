-- What stays true from turn to turn of `enter_line`, src/openings.rt.
use Rattle.std.proofs.Common.{◌≡◌, ◌++◌, map, take}
use Rattle.meet_sum.proofs.openings.enter_line.Given as goal

-- those so far are appended
abbrev pub invariant-loop-entry : goal.invariant-loop-entry
invariant-loop-entry l = l.tickets.items ≡ l.fn.tickets.items ++ map (λ e. e.ticket) (take l.entry-index l.line)
