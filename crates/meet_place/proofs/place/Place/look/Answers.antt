-- Proof of `Place::look`, src/place.rt. What this closure answers of the place as it is at some time, under one hold of
-- the lock.
use Rattle.std.proofs.Common.{refl}
use Rattle.meet_place.proofs.place.Place.look.Goals as goal

pub returns : goal.returns
returns g c = (c.probe.result.now, c.probe.ensures.seats, (c.probe.result, c.look.ensures, refl))
