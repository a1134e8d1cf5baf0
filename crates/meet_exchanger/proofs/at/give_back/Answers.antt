-- Proof of `give_back`, src/at.rt. These seats as they are given back, from the last to the first.
use Rattle.std.proofs.Common.{arith, sym, subst}
use Rattle.meet_exchange.specs.Closed.{AreOf}
use Rattle.meet_exchanger.proofs.GivenBack.{of_snoc}
use Rattle.meet_exchanger.proofs.at.give_back.Goals as goal

pub loop-placed-preserved : goal.loop-placed-preserved
loop-placed-preserved g c = let inv = c.loop-placed.invariant in record {
  place = subst (AreOf g.N.Site.site.id) (sym c.push_reserved.ensures.items) (of_snoc g.N.Site.site.id _ _ inv.place c.in-Some.placed.place);
  rest = omega (arith, inv.rest, c.push_reserved.ensures.len, c.in-Some.ensures.cases);
  room = omega (arith, inv.room, c.push_reserved.ensures.capacity);
}
