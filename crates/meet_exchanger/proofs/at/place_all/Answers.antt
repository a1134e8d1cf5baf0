-- Proof of `place_all`, src/at.rt. These new seats, from the last to the first.
use Rattle.std.proofs.Common.{arith, subst}
use Rattle.meet_exchange.specs.Seats.{AreNew}
use Rattle.meet_exchange.proofs.Deals.{new_last}
use Rattle.meet_exchanger.proofs.at.place_all.Goals as goal

pub invariant_of-push_reserved : goal.invariant_of-push_reserved
invariant_of-push_reserved g c = record { place = (new_last _ 0 _ _ (subst (AreNew g.N.Site.site.id 0) c.in-Some.ensures.items c.loop-seat.invariant.new)).1 }

pub loop-seat-preserved : goal.loop-seat-preserved
loop-seat-preserved g c = let inv = c.loop-seat.invariant in record {
  new = (new_last _ 0 _ _ (subst (AreNew g.N.Site.site.id 0) c.in-Some.ensures.items inv.new)).0;
  rest = omega (arith, inv.rest, c.push_reserved.ensures.len, c.in-Some.ensures.cases);
  room = omega (arith, inv.room, c.push_reserved.ensures.capacity);
}
