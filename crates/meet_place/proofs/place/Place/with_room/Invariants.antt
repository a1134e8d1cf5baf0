-- What stays true from turn to turn of `Place::with_room`, src/place.rt.
use Rattle.std.proofs.Common.{◌≡◌, ◌+◌, ◌≤◌, vec_len}
use Rattle.std.specs.Vec.{vec_capacity}
use Rattle.std.specs.Vec.Iter.{into_iter_len}
use Rattle.meet_place.specs.Seats.{AreFresh}
use Rattle.meet_place.proofs.place.Place.with_room.Given as goal

abbrev pub invariant-loop-gate : goal.invariant-loop-gate
invariant-loop-gate g l = record {
  can : (goal.iterator-loop-gate g).can_next l.gate-iterator;
  finite : (goal.iterator-loop-gate g).is_finite l.gate-iterator;
  rest : into_iter_len l.gate-iterator + vec_len l.padded ≡ vec_len l.fn.parts.gates;
  seats_len : vec_len l.seats ≡ vec_len l.padded;
  seats_room : vec_len l.fn.parts.gates ≤ vec_capacity l.seats;
  padded_room : vec_len l.fn.parts.gates ≤ vec_capacity l.padded;
  parts : l.rest.parts + vec_len l.padded ≡ vec_len l.fn.parts.gates;
  amount : l.rest.amount ≡ 0;
  folds : l.rest.folds ≡ 0;
  fresh : AreFresh l.seats.items;
}
