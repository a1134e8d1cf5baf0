-- What stays true from turn to turn of `pad`, src/roll.rt.
use Rattle.std.proofs.Common.{◌≡◌, ℕ, ◌≤◌, None, get_or, vec_len}
use Rattle.std.specs.Vec.{vec_capacity}
use Rattle.meet_line.proofs.roll.pad.Given as goal

abbrev pub invariant-loop-key : goal.invariant-loop-key
invariant-loop-key g l =
    (vec_len l.slots ≡ l._key) × (l.width ≤ vec_capacity l.slots) × (vec_len l.fn.slots ≤ l._key)
    × ((k : ℕ) → get_or l.slots.items k None ≡ get_or l.fn.slots.items k None)
