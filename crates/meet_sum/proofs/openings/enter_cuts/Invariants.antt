-- What stays true from turn to turn of `enter_cuts`, src/openings.rt.
use Rattle.std.proofs.Common.{◌≡◌, ◌++◌, map, take}
use Rattle.meet_sum.proofs.openings.enter_cuts.Given as goal

-- those so far are appended
abbrev pub invariant-loop-cut : goal.invariant-loop-cut
invariant-loop-cut l = l.tickets.items ≡ l.fn.tickets.items ++ map (λ c. c.ticket) (take l.cut-index l.cuts)
