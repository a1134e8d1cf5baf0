-- What stays true from turn to turn of `take_line`, src/reading.rt.
use Rattle.std.proofs.Common.{◌-◌, length}
use Rattle.std.specs.Io.KnownBytes.{Consumes}
use Rattle.meet_judge.proofs.reading.take_line.Given as goal

-- what was read so far stands in the line
abbrev pub invariant-loop-reader : goal.invariant-loop-reader
invariant-loop-reader g l = Consumes (g.R.Read.remaining l.fn.reader) (g.R.Read.remaining l.reader) l.line.items

-- how many bytes may still come
abbrev pub decreases-loop-reader : goal.decreases-loop-reader
decreases-loop-reader g l = 129 - length l.line.items
