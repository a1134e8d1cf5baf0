-- What stays true from turn to turn of `gone_tickets`, src/erasing.rt.
use Rattle.std.proofs.Common.{◌≡◌, take}
use Rattle.meet_laws.specs.Gone.{gone_tickets}
use Rattle.meet_laws.proofs.erasing.gone_tickets.Given as goal

-- the tickets of the records so far
abbrev pub invariant-loop-entry : goal.invariant-loop-entry
invariant-loop-entry l = l.gone.items ≡ gone_tickets (take l.entry-index l.records)
