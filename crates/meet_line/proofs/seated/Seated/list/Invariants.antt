-- What stays true from turn to turn of `Seated::list`, src/seated.rt.
use Rattle.std.proofs.Common.{◌≡◌, ◌≤◌, length, map, vec_len}
use Rattle.std.specs.Vec.{vec_capacity}
use Rattle.meet_line.proofs.Walking.{Walked}
use Rattle.meet_line.proofs.seated.Seated.list.Given as goal

abbrev pub invariant-loop-step : goal.invariant-loop-step
invariant-loop-step g l =
    (w : Walked l.self.entries l.at l._step) × (map (λ e. e.now) l.list.items ≡ w.done) × (vec_len l.list ≤ l._step)
    × (length l.self.entries ≤ vec_capacity l.list)
