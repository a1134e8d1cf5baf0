-- What stays true from turn to turn of `read_calls_from`, src/reading.rt.
use Rattle.std.specs.Io.KnownBytes.{Consumes}
use Rattle.meet_judge.specs.CallText.{calls_text}
use Rattle.meet_judge.proofs.reading.read_calls_from.Given as goal

-- what was read so far is the text of the calls so far
abbrev pub invariant-loop-number : goal.invariant-loop-number
invariant-loop-number g l = Consumes (g.R.Read.remaining l.fn.reader) (g.R.Read.remaining l.reader) (calls_text l.calls.queue l.calls.list.items)
