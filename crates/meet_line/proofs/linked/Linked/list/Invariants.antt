-- What stays true from turn to turn of `Linked::list`, src/linked.rt.
use Rattle.std.proofs.Common.{◌≤◌, length, map, vec_len}
use Rattle.std.specs.Vec.{vec_capacity}
use Rattle.meet_line.proofs.Stored.{HasListed}
use Rattle.meet_line.proofs.linked.Linked.list.Given as goal

abbrev pub invariant-loop-step : goal.invariant-loop-step
invariant-loop-step g l =
    HasListed l.self-inside.slots.items l.self-inside.roll.places (map (λ e. e.now) l.list.items) l.at l._step
    × (vec_len l.list ≤ l._step) × (length l.self-inside.roll.places ≤ vec_capacity l.list)
