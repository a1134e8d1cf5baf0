-- Proof of `open_seats`, src/opening.rt. The totals of two new ledgers, a share of them that has no part, and so many
-- seats, numbered from 0.
use Rattle.std.proofs.Common.{arith}
use Rattle.meet_place.proofs.Fresh.{fresh_push}
use Rattle.meet_place.proofs.opening.open_seats.Goals as goal

pub loop-at-preserved : goal.loop-at-preserved
loop-at-preserved g c = record {
  count = omega (arith, c.push_reserved.ensures.len);
  room = omega arith;
  parts = omega (arith, c.push_reserved.ensures.len);
  amount = omega arith;
  folds = omega arith;
  fresh = rw c.push_reserved.ensures.items
      (fresh_push _ _ c.loop-at.invariant.fresh (omega (arith, c.new.ensures.number))
      c.new.ensures.list c.new.ensures.past.0 c.new.ensures.past.1 c.new.ensures.past.2);
}
