-- What stays true from turn to turn of `longest_line`, src/rows.rt.
use Rattle.meet_draw.proofs.Rowing.{IsLongest}
use Rattle.meet_draw.proofs.rows.longest_line.Given as goal

abbrev pub invariant-loop-shown : goal.invariant-loop-shown
invariant-loop-shown l = IsLongest l.rows l.shown-index l.long
