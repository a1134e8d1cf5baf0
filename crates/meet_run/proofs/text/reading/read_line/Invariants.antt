-- What stays true from turn to turn of `read_line`, src/text/reading.rt.
use Rattle.std.proofs.Common.{◌≤◌, ◌≡◌, ◌+◌, ◌-◌, length}
use Rattle.std.specs.Vec.{vec_capacity, vec_len}
use Rattle.std.specs.Io.KnownBytes.{Consumes}
use Rattle.meet_run.specs.Texts.Reading.{HasNoEnd}
use Rattle.meet_run.proofs.text.reading.read_line.Given as goal

abbrev pub invariant-loop-byte : goal.invariant-loop-byte
invariant-loop-byte g l = record {
  taken : Consumes (g.R.Read.remaining l.fn.reader) (g.R.Read.remaining l.reader) l.line.items;
  turns : length l.line.items + l.turns ≡ l.fn.turns;
  short : length l.line.items ≤ 128;
  plain : HasNoEnd l.line.items;
  room : 128 ≤ vec_capacity l.line;
}

abbrev pub decreases-loop-byte : goal.decreases-loop-byte
decreases-loop-byte g l = 128 - vec_len l.line
