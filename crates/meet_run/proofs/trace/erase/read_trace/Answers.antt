-- Proof of `read_trace`, src/trace/erase.rt. Reads a whole trace.
use Rattle.std.proofs.Common.{arith}
use Rattle.std.proofs.lemmas.Result.{err_from_is_err_and}
use Rattle.meet_run.specs.Texts.Reading.{lines_of}
use Rattle.meet_run.specs.Tracing.Erasing.{erase_fault_in}
use Rattle.meet_run.specs.Tracing.Traces.{NamesLine}
use Rattle.meet_run.proofs.Texts.LineLemmas.{uses-more, uses-fewer}
use Rattle.meet_run.proofs.Tracing.Erasing.{behind_head, bad_head, no_head}
use Rattle.meet_run.proofs.Tracing.TraceReading.{names-it}
use Rattle.meet_run.proofs.trace.erase.read_trace.Goals as goal

pub returns-in-Read-clause-uses : goal.returns-in-Read-clause-uses
returns-in-Read-clause-uses g c =
    uses-fewer (g.R.Read.remaining c.args.reader.now) (g.R.Read.remaining c.read_records.new.reader) c.args.turns c.read_records.new.turns 0
    (uses-more (g.R.Read.remaining c.args.reader.now) (g.R.Read.remaining c.next_head.new.reader) (g.R.Read.remaining c.read_records.new.reader) c.args.turns c.next_head.new.turns c.read_records.new.turns c.next_head.ensures.uses c.read_records.ensures.uses)
    (omega arith)

pub returns-in_err-read_records-in-Read-clause-bad : goal.returns-in_err-read_records-in-Read-clause-bad
returns-in_err-read_records-in-Read-clause-bad g c =
    let failed = err_from_is_err_and c.from_residual-in_err-read_records-in-Read.result c.from_residual-in_err-read_records-in-Read.ensures.1 in
    rw (failed.1, failed.2) (behind_head (g.R.Read.remaining c.args.reader.now) (g.R.Read.remaining c.next_head.new.reader) c.in-Read.kind (NamesLine c.in_err-read_records-in-Read.field-0.0) c.in-Read.ensures.next.0 c.in_err-read_records-in-Read.ensures.bad)

pub returns-in_err-read_records-in-Read-clause-uses : goal.returns-in_err-read_records-in-Read-clause-uses
returns-in_err-read_records-in-Read-clause-uses g c =
    uses-fewer (g.R.Read.remaining c.args.reader.now) (g.R.Read.remaining c.read_records.new.reader) c.args.turns c.read_records.new.turns 0
    (uses-more (g.R.Read.remaining c.args.reader.now) (g.R.Read.remaining c.next_head.new.reader) (g.R.Read.remaining c.read_records.new.reader) c.args.turns c.next_head.new.turns c.read_records.new.turns c.next_head.ensures.uses c.read_records.ensures.uses)
    (omega arith)

pub returns-in-Ended-clause-bad : goal.returns-in-Ended-clause-bad
returns-in-Ended-clause-bad g c =
    names-it (g.R.Read.remaining c.args.reader.now) (λ input. erase_fault_in (lines_of input)) c.at_line.result 1 c.at_line.ensures
    (no_head (g.R.Read.remaining c.args.reader.now) c.in-Ended.ensures.next.0)

pub returns-in-Faulty-clause-bad : goal.returns-in-Faulty-clause-bad
returns-in-Faulty-clause-bad g c =
    names-it (g.R.Read.remaining c.args.reader.now) (λ input. erase_fault_in (lines_of input)) c.at_line-in-Faulty.result 1 c.at_line-in-Faulty.ensures
    (bad_head (g.R.Read.remaining c.args.reader.now) c.in-Faulty.ensures.next.0)
