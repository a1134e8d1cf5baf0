-- Proof of `Linked::empty`, src/linked.rt. A line with nobody in it, and no room.
use Rattle.meet_line.proofs.Stored.{stored-none}
use Rattle.meet_line.proofs.linked.Linked.empty.Goals as goal

pub invariant_of-result : goal.invariant_of-result
invariant_of-result g c = stored-none c.new.result c.new-2.result.items c.new.ensures.places c.new.ensures.width c.new-2.ensures.items
