-- Proof of `open_tickets_are_drawn`, src/laws.rt. Where there may be a column more, each open ticket is drawn: its seat
-- has a column, with a bar or dots.
use Rattle.meet_draw.proofs.DrawnTickets.{open-tickets-are-drawn}
use Rattle.meet_draw.proofs.laws.open_tickets_are_drawn.Goals as goal

pub returns : goal.returns
returns c = open-tickets-are-drawn
