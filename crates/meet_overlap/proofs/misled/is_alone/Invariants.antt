-- What stays true from turn to turn of `is_alone`, src/misled.rt.
use Rattle.std.proofs.Common.{◌≡◌, ◌<◌, ℕ, get_or}
use Rattle.meet_overlap.specs.declared.calls.Stage.TheVariants.{Ahead, Open}
use Rattle.meet_overlap.proofs.misled.is_alone.Given as goal

-- none of those so far waits by this ticket, but the one of this number
abbrev pub invariant-loop-at : goal.invariant-loop-at
invariant-loop-at l = (i : ℕ) → i < l.at → get_or l.window.stages.items i Ahead ≡ Open l.ticket → i ≡ l.mine
