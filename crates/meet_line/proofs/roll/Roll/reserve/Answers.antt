-- Proof of `Roll::reserve`, src/roll.rt. Makes room for this many tickets more, and as many buckets as there may then
-- be tickets, at the least; and makes the slots, which are given, as many as there may be keys, if they were.
use Rattle.meet_line.proofs.Rolls.{roll-wider}
use Rattle.meet_line.proofs.roll.Roll.reserve.Goals as goal

pub invariant_of-self : goal.invariant_of-self
invariant_of-self g c = roll-wider c.self.inside.nodes c.widen_nodes.new.nodes c.widen_nodes.new.nodes.capacity c.self.inside.first c.self.inside.last c.self.inside.table.items c.widen_nodes.ensures.nodes c.self.invariant

pub invariant_of-self-in_err-needed : goal.invariant_of-self-in_err-needed
invariant_of-self-in_err-needed g c = roll-wider c.self.inside.nodes c.widen_nodes.new.nodes c.widen_nodes.new.nodes.capacity c.self.inside.first c.self.inside.last c.self.inside.table.items c.widen_nodes.ensures.nodes c.self.invariant

pub invariant_of-self-then-len-needed : goal.invariant_of-self-then-len-needed
invariant_of-self-then-len-needed g c = roll-wider c.self.inside.nodes c.widen_nodes.new.nodes c.widen_nodes.new.nodes.capacity c.self.inside.first c.self.inside.last c.self.inside.table.items c.widen_nodes.ensures.nodes c.self.invariant

pub invariant_of-self-else-len-needed : goal.invariant_of-self-else-len-needed
invariant_of-self-else-len-needed g c = roll-wider c.self.inside.nodes c.widen_nodes.new.nodes c.widen_nodes.new.nodes.capacity c.self.inside.first c.self.inside.last c.self.inside.table.items c.widen_nodes.ensures.nodes c.self.invariant
