-- What stays true from turn to turn of `add_spots`, src/spots.rt.
use Rattle.std.proofs.Common.{◌≡◌, ◌+◌, ◌≤◌, vec_len}
use Rattle.std.specs.Vec.{vec_capacity}
use Rattle.meet_line.specs.Seated.{IsPadded}
use Rattle.meet_line.proofs.spots.add_spots.Given as goal

abbrev pub invariant-loop-place : goal.invariant-loop-place
invariant-loop-place g l =
    (vec_len l.spots ≡ vec_len l.fn.spots + l._place) × (vec_len l.fn.spots + l.more ≤ vec_capacity l.spots)
    × IsPadded l.fn.spots.items l.spots.items l._place
