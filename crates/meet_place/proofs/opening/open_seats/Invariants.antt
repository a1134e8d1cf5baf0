-- What stays true from turn to turn of `open_seats`, src/opening.rt.
use Rattle.std.proofs.Common.{◌≡◌, ◌+◌, ◌≤◌, vec_len}
use Rattle.std.specs.Vec.{vec_capacity}
use Rattle.meet_place.specs.Seats.{AreFresh}
use Rattle.meet_place.proofs.opening.open_seats.Given as goal

abbrev pub invariant-loop-at : goal.invariant-loop-at
invariant-loop-at g l = record {
  count : vec_len l.seats ≡ l.at;
  room : l.fn.count ≤ vec_capacity l.seats;
  parts : l.rest.parts + vec_len l.seats ≡ l.fn.count;
  amount : l.rest.amount ≡ 0;
  folds : l.rest.folds ≡ 0;
  fresh : AreFresh l.seats.items;
}
