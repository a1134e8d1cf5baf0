-- What stays true from turn to turn of `Seated::destroy_empty`, src/seated.rt.
use Rattle.std.proofs.Common.{◌≡◌, ℕ, None, get_or, vec_len}
use Rattle.meet_line.specs.Seated.{slots_of}
use Rattle.meet_line.proofs.seated.Seated.destroy_empty.Given as goal

abbrev pub decreases-loop-spot : goal.decreases-loop-spot
decreases-loop-spot g l = vec_len l.spots

abbrev pub invariant-loop-spot : goal.invariant-loop-spot
invariant-loop-spot g l = (k : ℕ) → get_or (slots_of l.spots.items) k None ≡ None
