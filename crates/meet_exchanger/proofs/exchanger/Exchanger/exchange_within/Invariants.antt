-- What stays true from attempt to attempt of `Exchanger::exchange_within`, src/exchanging.rt.
use Rattle.std.proofs.Common.{◌≡◌, ◌<◌}
use Rattle.meet_exchanger.specs.Tries.{Tried}
use Rattle.meet_exchanger.proofs.exchanger.Exchanger.exchange_within.Given as goal

abbrev pub invariant-loop : goal.invariant-loop
invariant-loop g l = record {
  place : l.seat.arena ≡ l.self.id;
  slot : l.slot < l.self.slots;
  item : g.T.Marked.mark_of l.item ≡ g.T.Marked.mark_of l.fn.item;
  tried : Tried (g.T.Marked.mark_of l.fn.item) l.self.slots l.fn.seat l.seat;
}
