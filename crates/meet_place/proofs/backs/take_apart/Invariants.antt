-- What stays true from turn to turn of `take_apart`, src/backs.rt.
use Rattle.std.proofs.Common.{◌≡◌, ◌+◌, ◌≤◌, ◌++◌, vec_len}
use Rattle.std.specs.Vec.{vec_capacity}
use Rattle.std.specs.Vec.Iter.{into_iter_len, into_iter_items}
use Rattle.meet_place.specs.Backs.{shares_in, folded_in}
use Rattle.meet_place.proofs.backs.take_apart.Given as goal

abbrev pub invariant-loop-back : goal.invariant-loop-back
invariant-loop-back g l = record {
  can : (goal.iterator-loop-back g).can_next l.back-iterator;
  finite : (goal.iterator-loop-back g).is_finite l.back-iterator;
  rest : into_iter_len l.back-iterator + vec_len l.bares ≡ vec_len l.fn.seats;
  room : vec_len l.fn.seats ≤ vec_capacity l.bares;
  seats : l.bares.items ++ into_iter_items l.back-iterator ≡ l.fn.seats.items;
  parts : l.whole.parts ≡ vec_len l.bares;
  bound : vec_len l.bares ≤ g.N.Ledger.parts;
  amount : l.whole.amount ≡ shares_in l.bares.items;
  folds : l.whole.folds ≡ folded_in l.bares.items;
}
