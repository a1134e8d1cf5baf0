-- Proof of `Place::locked_rotate`, src/chapters.rt. A checkpoint of a seat that hands out what it folds away, under one
-- hold of the lock: the records so far, with the base on which they stand.
use Rattle.meet_place.proofs.Folded.{refused}
use Rattle.meet_place.proofs.place.Place.locked_rotate.Goals as goal

pub returns-clause-why : goal.returns-clause-why
returns-clause-why g c = refused g.O.Object.gone_of c.deref_mut.result.now c.rotate.result c.rotate.ensures.why
