-- Proof of `Seated::last_seat`, src/seated.rt. The seat of the last node, if there is one.
use Rattle.meet_line.proofs.Sitting.{last-is}
use Rattle.meet_line.proofs.seated.Seated.last_seat.Goals as goal

pub returns : goal.returns
returns g c = rw (← c.self.view_is, c.key.ensures) (last-is c.self.inside.spots.items c.self.inside.first c.self.inside.last c.self.inside.len _ c.self.invariant)
