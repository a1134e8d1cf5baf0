-- What stays true from turn to turn of `hand_out`, src/draining.rt.
use Rattle.std.proofs.Common.{◌≡◌, ◌+◌, ◌++◌, vec_len, map}
use Rattle.std.specs.Vec.{vec_capacity}
use Rattle.std.specs.Vec.Iter.{into_iter_len, into_iter_items}
use Rattle.meet_place.proofs.draining.hand_out.Given as goal

-- what was handed out, and what is left yet, are what there was at first
abbrev pub invariant-loop-one : goal.invariant-loop-one
invariant-loop-one g l = record {
  answers : l.answers.items ++ map (λ one. one.0) (into_iter_items l.rest) ≡ map (λ one. one.0) l.fn.got.items;
  receipts : l.list.items ++ map (λ one. one.1) (into_iter_items l.rest) ≡ l.fn.list.items ++ map (λ one. one.1) l.fn.got.items;
  count : vec_len l.answers + into_iter_len l.rest ≡ vec_len l.fn.got;
  len : vec_len l.list + into_iter_len l.rest ≡ vec_len l.fn.list + vec_len l.fn.got;
  room : vec_capacity l.answers ≡ vec_capacity l.fn.empty;
  capacity : vec_capacity l.list ≡ vec_capacity l.fn.list;
}

abbrev pub decreases-loop-one : goal.decreases-loop-one
decreases-loop-one g l = into_iter_len l.rest
