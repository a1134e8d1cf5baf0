-- What stays true from turn to turn of `place_all`, src/at.rt.
use Rattle.std.proofs.Common.{◌≡◌, ◌+◌, ◌≤◌, vec_len}
use Rattle.std.specs.Vec.{vec_capacity}
use Rattle.meet_exchange.specs.Seats.{AreNew}
use Rattle.meet_exchanger.proofs.at.place_all.Given as goal

abbrev pub invariant-loop-seat : goal.invariant-loop-seat
invariant-loop-seat g l = record {
  new : AreNew g.N.Site.site.id 0 l.seats.items;
  rest : vec_len l.seats + vec_len l.placed ≡ vec_len l.fn.seats;
  room : vec_len l.fn.seats ≤ vec_capacity l.placed;
}

abbrev pub decreases-loop-seat : goal.decreases-loop-seat
decreases-loop-seat g l = vec_len l.seats
