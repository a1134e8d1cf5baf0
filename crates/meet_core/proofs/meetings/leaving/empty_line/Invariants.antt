-- What stays true from turn to turn of `empty_line`, src/meetings/leaving.rt.
use Rattle.std.proofs.Common.{◌≡◌, ◌+◌, ◌++◌, length, vec_len, vec_capacity}
use Rattle.meet_core.specs.Left.{left_in_line}
use Rattle.meet_core.proofs.meetings.leaving.empty_line.Given as goal

-- what was taken out, and what is left yet, are what was left at first
abbrev pub invariant-loop-entry : goal.invariant-loop-entry
invariant-loop-entry g l = record {
  items : l.left.items ++ left_in_line g.L.Line.end (g.L.Line.entries l.line) ≡ l.fn.left.items ++ left_in_line g.L.Line.end (g.L.Line.entries l.fn.line);
  len : vec_len l.left + length (left_in_line g.L.Line.end (g.L.Line.entries l.line)) ≡ vec_len l.fn.left + length (left_in_line g.L.Line.end (g.L.Line.entries l.fn.line));
  capacity : vec_capacity l.left ≡ vec_capacity l.fn.left;
}

abbrev pub decreases-loop-entry : goal.decreases-loop-entry
decreases-loop-entry g l = length (g.L.Line.entries l.line)
