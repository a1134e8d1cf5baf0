-- Proof of `Roll::last`, src/roll.rt. The key of the last ticket, if there is one.
use Rattle.meet_line.proofs.Standing.{last_key-is}
use Rattle.meet_line.proofs.roll.Roll.last.Goals as goal

pub returns : goal.returns
returns c = rw (← c.self.view_is, c.key.ensures) (last_key-is c.self.inside.nodes c.self.inside.first c.self.inside.last c.self.inside.table.items _ c.self.invariant)
