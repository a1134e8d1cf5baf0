-- What stays true from turn to turn of `lists_of`, src/backs.rt.
use Rattle.std.proofs.Common.{◌≡◌, ◌+◌, ◌≤◌, ◌++◌, vec_len, map}
use Rattle.std.specs.Vec.{vec_capacity}
use Rattle.std.specs.Vec.Iter.{into_iter_len, into_iter_items}
use Rattle.meet_place.specs.Backs.{list_of}
use Rattle.meet_place.proofs.backs.lists_of.Given as goal

abbrev pub invariant-loop-bare : goal.invariant-loop-bare
invariant-loop-bare g l = record {
  can : (goal.iterator-loop-bare g).can_next l.bare-iterator;
  finite : (goal.iterator-loop-bare g).is_finite l.bare-iterator;
  rest : into_iter_len l.bare-iterator + vec_len l.lists ≡ vec_len l.fn.bares;
  room : vec_len l.fn.bares ≤ vec_capacity l.lists;
  lists : map (λ list. list.items) l.lists.items ++ map list_of (into_iter_items l.bare-iterator)
      ≡ map list_of l.fn.bares.items;
}
