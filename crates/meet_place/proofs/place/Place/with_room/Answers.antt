-- Proof of `Place::with_room`, src/place.rt. The place and its seats.
use Rattle.std.proofs.Common.{rules, arith}
use Rattle.meet_place.proofs.Fresh.{fresh_push}
use Rattle.meet_place.proofs.place.Place.with_room.Goals as goal

pub loop-gate-preserved : goal.loop-gate-preserved
loop-gate-preserved g c = record {
  can = search rules;
  finite = search rules;
  rest = omega (arith, c.in-Some.ensures.steps.1);
  seats_len = omega arith;
  seats_room = omega arith;
  padded_room = omega arith;
  parts = omega arith;
  amount = omega arith;
  folds = omega arith;
  fresh = rw c.push_reserved-in-loop-gate.ensures.items
      (fresh_push _ _ c.loop-gate.invariant.fresh (omega (arith, c.new-in-loop-gate.ensures.number))
      c.new-in-loop-gate.ensures.list c.new-in-loop-gate.ensures.past.0 c.new-in-loop-gate.ensures.past.1
      c.new-in-loop-gate.ensures.past.2);
}
