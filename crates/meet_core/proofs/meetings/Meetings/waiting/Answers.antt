-- Proof of `Meetings::waiting`, src/meetings/probes.rt. How many open tickets stand in the line.
use Rattle.std.proofs.Common.{arith}
use Rattle.meet_tickets.proofs.Line.Keeping.{all-counted}
use Rattle.meet_core.proofs.meetings.Meetings.waiting.Goals as goal

pub returns : goal.returns
returns g c = rw (← c.self.view_is) (omega (arith, c.len.ensures.count, c.self.invariant.1, all-counted (g.L.Line.entries c.self.inside.line)))
