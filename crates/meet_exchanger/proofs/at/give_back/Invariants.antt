-- What stays true from turn to turn of `give_back`, src/at.rt.
use Rattle.std.proofs.Common.{◌≡◌, ◌+◌, ◌≤◌, vec_len}
use Rattle.std.specs.Vec.{vec_capacity}
use Rattle.meet_exchange.specs.Closed.{AreOf}
use Rattle.meet_exchanger.proofs.at.give_back.Given as goal

abbrev pub invariant-loop-placed : goal.invariant-loop-placed
invariant-loop-placed g l = record {
  place : AreOf g.N.Site.site.id l.backs.items;
  rest : vec_len l.seats + vec_len l.backs ≡ vec_len l.fn.seats;
  room : vec_len l.fn.seats ≤ vec_capacity l.backs;
}

abbrev pub decreases-loop-placed : goal.decreases-loop-placed
decreases-loop-placed g l = vec_len l.seats
