-- What stays true from turn to turn of `merge`, src/merged.rt.
use Rattle.std.proofs.Common.{◌≤◌, ◌+◌, length, map, vec_len}
use Rattle.std.specs.Vec.{vec_capacity}
use Rattle.meet_line.proofs.MergedWalk.{Merges}
use Rattle.meet_line.proofs.merged.merge.Given as goal

abbrev pub invariant-loop-step : goal.invariant-loop-step
invariant-loop-step g l =
    Merges l.waiting l.buffered l.at l.from l._step (map (λ e. e.now) l.list.items) × (vec_len l.list ≤ l._step)
    × (length l.waiting + length l.buffered ≤ vec_capacity l.list)
