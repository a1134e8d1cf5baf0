-- What stays true from turn to turn of `Arena::exchange`, src/waiting.rt.
use Rattle.meet_exchange.specs.Waits.{IsIn, IsGoing}
use Rattle.meet_exchange.proofs.arena.Arena.exchange.Given as goal

abbrev pub invariant-loop : goal.invariant-loop
invariant-loop g l = record {
  place : IsIn l.self.id l.self.slots l.going;
  going : IsGoing g.T.Marked.mark_of l.fn.seat (g.T.Marked.mark_of l.fn.item) l.self.slots l.fn.first_slot l.fn.limit l.more l.going;
}
