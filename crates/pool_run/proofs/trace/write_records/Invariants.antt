-- What stays true from turn to turn of `write_records`, src/trace.rt.
use Rattle.std.proofs.Common.{take}
use Rattle.std.specs.Io.KnownBytes.{Appends}
use Rattle.std.specs.List.{flat_map}
use Rattle.pool_run.specs.Wording.{pool_record_line}
use Rattle.pool_run.proofs.trace.write_records.Given as goal

abbrev pub invariant-loop-entry : goal.invariant-loop-entry
invariant-loop-entry g l = Appends (g.W.Write.contents l.fn.writer) (g.W.Write.contents l.writer) (flat_map pool_record_line (take l.entry-index l.records))
