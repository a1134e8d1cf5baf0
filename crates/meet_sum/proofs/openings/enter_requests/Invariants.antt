-- What stays true from turn to turn of `enter_requests`, src/openings.rt.
use Rattle.std.proofs.Common.{◌≡◌, ◌++◌, take}
use Rattle.meet_tickets.specs.Fates.{tickets_of}
use Rattle.meet_sum.proofs.openings.enter_requests.Given as goal

-- those so far are appended
abbrev pub invariant-loop-entry : goal.invariant-loop-entry
invariant-loop-entry l = l.tickets.items ≡ l.fn.tickets.items ++ tickets_of (take l.entry-index l.records)
