-- What stays true from turn to turn of `Free::into_backs`, src/free.rt.
use Rattle.std.proofs.Common.{◌≡◌, ◌+◌, ◌≤◌, ◌++◌, map, vec_len}
use Rattle.std.specs.Vec.{vec_capacity}
use Rattle.std.specs.Vec.Iter.{into_iter_len, into_iter_items}
use Rattle.meet_place.specs.declared.seats.Back.TheVariants.{Free as IsFree}
use Rattle.meet_seats.proofs.free.Free.into_backs.Given as goal

abbrev pub invariant-loop-seat : goal.invariant-loop-seat
invariant-loop-seat g l = record {
  can : (goal.iterator-loop-seat g).can_next l.seat-iterator;
  finite : (goal.iterator-loop-seat g).is_finite l.seat-iterator;
  all : l.backs.items ++ map IsFree (into_iter_items l.seat-iterator) ≡ map IsFree l.fn.self;
  room : into_iter_len l.seat-iterator + vec_len l.backs ≤ vec_capacity l.backs;
  most : into_iter_len l.seat-iterator + vec_len l.backs ≤ g.N.Ledger.parts;
}
