-- What stays true from turn to turn of `put_stage`, src/stages.rt.
use Rattle.std.proofs.Common.{◌≡◌, ◌+◌, ◌-◌, length}
use Rattle.meet_overlap.specs.Places.{stage_at}
use Rattle.meet_overlap.proofs.stages.put_stage.Given as goal

-- what is read stays the same
abbrev pub invariant-loop-window : goal.invariant-loop-window
invariant-loop-window l = record {
  read : stage_at l.window ≡ stage_at l.fn.window;
  first : l.window.first ≡ l.fn.window.first;
}

-- how many are missing
abbrev pub decreases-loop-window : goal.decreases-loop-window
decreases-loop-window l = (l.at + 1) - length l.window.stages.items
