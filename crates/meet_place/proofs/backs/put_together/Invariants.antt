-- What stays true from turn to turn of `put_together`, src/backs.rt.
use Rattle.std.proofs.Common.{◌≡◌, ◌+◌, ◌<◌, ◌≤◌, ◌^◌, ◌++◌, vec_len}
use Rattle.std.specs.Vec.{vec_capacity}
use Rattle.std.specs.Vec.Iter.{into_iter_len, into_iter_items}
use Rattle.meet_place.specs.Backs.{shares_in, folded_in}
use Rattle.meet_place.proofs.backs.put_together.Given as goal

abbrev pub invariant-loop-bare : goal.invariant-loop-bare
invariant-loop-bare g l = record {
  can : (goal.iterator-loop-bare g).can_next l.bare-iterator;
  finite : (goal.iterator-loop-bare g).is_finite l.bare-iterator;
  rest : into_iter_len l.bare-iterator + vec_len l.seats ≡ vec_len l.fn.bares;
  room : vec_len l.fn.bares ≤ vec_capacity l.seats;
  seats : l.seats.items ++ into_iter_items l.bare-iterator ≡ l.fn.bares.items;
  parts : l.whole.parts ≡ into_iter_len l.bare-iterator;
  amount : l.whole.amount ≡ shares_in (into_iter_items l.bare-iterator);
  folds : l.whole.folds ≡ folded_in (into_iter_items l.bare-iterator);
  fits : l.whole.amount < 2 ^ 64;
}
