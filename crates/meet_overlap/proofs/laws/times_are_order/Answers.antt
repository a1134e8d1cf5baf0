-- Proof of `times_are_order`, src/laws.rt. Events that explain calls at their times stand in an order that real time
-- allows, and events in such an order have times.
use Rattle.meet_overlap.proofs.Timed.{explained_orderly, orderly_explained}
use Rattle.meet_overlap.proofs.laws.times_are_order.Goals as goal

pub returns : goal.returns
returns c = record { order = explained_orderly; times = orderly_explained }
