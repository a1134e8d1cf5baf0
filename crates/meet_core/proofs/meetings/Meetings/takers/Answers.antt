-- Proof of `Meetings::takers`, src/meetings/probes.rt. How many takers stand in the line.
use Rattle.std.proofs.Common.{arith}
use Rattle.meet_tickets.proofs.Line.Counted.{sides-counted}
use Rattle.meet_core.proofs.meetings.Meetings.takers.Goals as goal

pub returns : goal.returns
returns g c =
    rw (← c.self.view_is) (omega (arith, c.len.ensures.count, c.self.invariant.3, sides-counted (g.L.Line.entries c.self.inside.line)))
