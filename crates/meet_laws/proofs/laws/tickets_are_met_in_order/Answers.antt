-- Proof of `tickets_are_met_in_order`, src/laws.rt. A request meets the first of the tickets that stand in the line, by
-- the place's order.
use Rattle.meet_laws.proofs.Nearest.{met_in_order}
use Rattle.meet_laws.proofs.laws.tickets_are_met_in_order.Goals as goal

pub returns : goal.returns
returns c = met_in_order
