-- What stays true from turn to turn of `items_of`, src/draining.rt.
use Rattle.std.proofs.Common.{◌≡◌, ◌+◌, ◌++◌, Some, vec_len, map}
use Rattle.std.specs.Vec.{vec_capacity}
use Rattle.std.specs.Vec.Iter.{into_iter_len, into_iter_items}
use Rattle.meet_sync.specs.Drained.{AllBring, item_told}
use Rattle.meet_sync.proofs.draining.items_of.Given as goal

-- the items that were taken out, and what the answers that are left bring, are what all bring
abbrev pub invariant-loop-answer : goal.invariant-loop-answer
invariant-loop-answer g l = record {
  items : map (λ item. Some item) l.items.items ++ map item_told (into_iter_items l.rest) ≡ map item_told l.fn.answers.items;
  all : AllBring (into_iter_items l.rest);
  count : vec_len l.items + into_iter_len l.rest ≡ vec_len l.fn.answers;
  room : vec_capacity l.items ≡ vec_capacity l.fn.empty;
}

abbrev pub decreases-loop-answer : goal.decreases-loop-answer
decreases-loop-answer g l = into_iter_len l.rest
