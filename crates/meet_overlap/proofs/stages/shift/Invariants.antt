-- What stays true from turn to turn of `shift`, src/stages.rt.
use Rattle.std.proofs.Common.{◌≡◌, length}
use Rattle.meet_overlap.specs.Places.{stage_at}
use Rattle.meet_overlap.proofs.stages.shift.Given as goal

-- what is read stays the same
abbrev pub invariant-loop-window : goal.invariant-loop-window
invariant-loop-window l = stage_at l.window ≡ stage_at l.fn.window

-- how many stand there
abbrev pub decreases-loop-window : goal.decreases-loop-window
decreases-loop-window l = length l.window.stages.items
