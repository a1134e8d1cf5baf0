-- What stays true from look to look of `Exchanger::stay`, src/attempts.rt.
use Rattle.std.proofs.Common.{◌≡◌, ℕ}
use Rattle.meet_exchange.specs.Seats.{SeatView}
use Rattle.meet_exchanger.specs.Tries.{HasLost}
use Rattle.meet_exchanger.proofs.exchanger.Exchanger.stay.Given as goal

abbrev pub invariant-loop : goal.invariant-loop
invariant-loop g l = record {
  place : l.pending.seat.arena ≡ l.self.id;
  slot : l.pending.slot ≡ l.fn.pending.slot;
  lost : (v : SeatView) (a : ℕ) → HasLost v a l.fn.pending → HasLost v a l.pending;
}
