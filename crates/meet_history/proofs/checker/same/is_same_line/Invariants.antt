-- What stays true from turn to turn of `is_same_line`, src/checker/same.rt.
use Rattle.std.proofs.Common.{◌≡◌, length, take}
use Rattle.meet_history.proofs.checker.same.is_same_line.Given as goal

-- as far as they were compared they are the same
abbrev pub invariant-loop-entry : goal.invariant-loop-entry
invariant-loop-entry l = take (length l.yielded) l.line ≡ take (length l.yielded) l.other
