-- What stays true from turn to turn of `crowd`, src/looks.rt.
use Rattle.std.proofs.Common.{◌+◌, ◌<◌, ◌≤◌}
use Rattle.std.specs.Prelude.{All}
use Rattle.meet_line_tests.proofs.looks.crowd.Given as goal

abbrev pub invariant-loop-number : goal.invariant-loop-number
invariant-loop-number g l = All (λ e. e.ticket < l.number) (g.L.Line.entries l.line)
    × (l.fn.last + 1 ≤ g.L.Line.spare l.line + l.number)
