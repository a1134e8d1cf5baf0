-- What stays true from turn to turn of `take_seats`, src/closing.rt.
use Rattle.std.proofs.Common.{◌≡◌, ◌+◌, vec_len, is_some}
use Rattle.std.specs.Prelude.{count_by}
use Rattle.std.specs.Vec.{vec_capacity}
use Rattle.std.specs.Vec.Iter.{into_iter_items}
use Rattle.pool_threads.specs.Seated.{AddsWorthy}
use Rattle.pool_threads.proofs.closing.take_seats.Given as goal

abbrev pub invariant-loop-slot : goal.invariant-loop-slot
invariant-loop-slot g l = record {
  can : (goal.iterator-loop-slot g).can_next l.slot-iterator;
  finite : (goal.iterator-loop-slot g).is_finite l.slot-iterator;
  adds : AddsWorthy g.W.Work.worth l.fn.backs.items l.backs.items;
  count : vec_len l.backs + count_by is_some (into_iter_items l.slot-iterator)
      ≡ vec_len l.fn.backs + count_by is_some l.fn.workers.items;
  capacity : vec_capacity l.backs ≡ vec_capacity l.fn.backs;
}
