-- What stays true from turn to turn of `deal`, src/arena.rt.
use Rattle.std.proofs.Common.{◌≡◌, ◌≤◌, ◌-◌, [], vec_len, vec_capacity, length}
use Rattle.meet_exchange.specs.Rule.{fresh_from}
use Rattle.meet_exchange.specs.Seats.{AreNew}
use Rattle.meet_exchange.proofs.arena.deal.Given as goal

abbrev pub invariant-loop-number : goal.invariant-loop-number
invariant-loop-number g l = record {
  place : l.maker.table_id ≡ l.board.table_id;
  views : l.maker.me ≡ (fresh_from l.number (l.fn.seats - l.number), []);
  dealt : AreNew l.board.table_id 0 l.list.items;
  count : vec_len l.list ≡ l.number;
  many : length l.list.items ≡ l.number;
  room : l.fn.seats ≤ vec_capacity l.list;
}
