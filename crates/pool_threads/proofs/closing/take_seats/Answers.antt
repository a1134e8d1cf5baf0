-- Proof of `take_seats`, src/closing.rt. Puts the seats of workers that are here behind others.
use Rattle.std.proofs.Common.{rules, arith}
use Rattle.pool_threads.proofs.Lying.{lying-cons}
use Rattle.pool_threads.proofs.SeatsTaken.{adds_nothing, adds_more}
use Rattle.pool_threads.proofs.closing.take_seats.Goals as goal

pub loop-slot-init : goal.loop-slot-init
loop-slot-init g c = record {
  can = search rules;
  finite = search rules;
  adds = adds_nothing g.W.Work.worth _;
  count = search rules;
  capacity = search rules;
}

pub take_one-requires : goal.take_one-requires
take_one-requires g c =
    let e = lying-cons c.in-Some.ensures.steps.0 in
    omega (arith, e, c.loop-slot.invariant.count, c.loop-slot.invariant.capacity, c.requires)

pub loop-slot-preserved : goal.loop-slot-preserved
loop-slot-preserved g c = record {
  can = search rules;
  finite = search rules;
  adds = adds_more g.W.Work.worth _ _ _ c.loop-slot.invariant.adds c.take_one.ensures.adds;
  count =
      let e = lying-cons c.in-Some.ensures.steps.0 in
      omega (arith, e, c.loop-slot.invariant.count, c.take_one.ensures.count);
  capacity = omega (arith, c.take_one.ensures.capacity, c.loop-slot.invariant.capacity);
}
