-- What stays true from turn to turn of `push_lines`, src/writing.rt.
use Rattle.std.proofs.Common.{◌≡◌, ◌++◌, take}
use Rattle.meet_judge.specs.CallText.{lines_text}
use Rattle.meet_judge.proofs.writing.push_lines.Given as goal

-- the lines of the calls so far
abbrev pub invariant-loop-call : goal.invariant-loop-call
invariant-loop-call l = l.out.items ≡ l.fn.out.items ++ lines_text l.order (take l.call-index l.calls)
