-- What stays true from look to look of `Exchanger::settle`, src/attempts.rt.
use Rattle.std.proofs.Common.{◌≡◌, ℕ}
use Rattle.meet_exchange.specs.Seats.{SeatView}
use Rattle.meet_exchanger.specs.Tries.{HasPosted}
use Rattle.meet_exchanger.proofs.exchanger.Exchanger.settle.Given as goal

abbrev pub invariant-loop : goal.invariant-loop
invariant-loop g l = record {
  place : l.pending.seat.arena ≡ l.self.id;
  slot : l.pending.slot ≡ l.fn.pending.slot;
  posted : (v : SeatView) (a : ℕ) → HasPosted v a l.fn.pending → HasPosted v a l.pending;
}
