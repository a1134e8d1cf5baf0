-- What stays true from turn to turn of `Linked::destroy_empty`, src/linked.rt.
use Rattle.std.proofs.Common.{◌≡◌, ℕ, None, get_or, vec_len}
use Rattle.meet_line.proofs.linked.Linked.destroy_empty.Given as goal

abbrev pub decreases-loop-slot : goal.decreases-loop-slot
decreases-loop-slot g l = vec_len l.slots

abbrev pub invariant-loop-slot : goal.invariant-loop-slot
invariant-loop-slot g l = (k : ℕ) → get_or l.slots.items k None ≡ None
