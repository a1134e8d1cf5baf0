-- Proof of `next_record`, src/trace/next.rt. Reads the line of a record, behind so many lines.
use Rattle.std.proofs.Common.{◌+◌, ◌∙◌, ap}
use Rattle.meet_run.specs.Tracing.Traces.{record_at}
use Rattle.meet_run.proofs.Texts.NextLemmas.{record-too_long, next-is}
use Rattle.meet_run.proofs.trace.next.next_record.Goals as goal

pub returns-clause-next : goal.returns-clause-next
returns-clause-next g c =
    let line = c.read_line-came.new.line.items in
    next-is (record_at (c.args.read + 1)) c.next_of.result c.read_line-came.result c.read_record_behind.result (g.R.Read.remaining c.args.reader.now) (g.R.Read.remaining c.read_line-came.new.reader) c.args.turns.now c.read_line-came.new.turns line
    (λ l long. record-too_long (c.args.read + 1) l long) c.read_line-came.ensures.read c.read_line-came.ensures.spends c.next_of.ensures (c.read_record_behind.ensures ∙ ap (record_at (c.args.read + 1)) c.as_slice.ensures.value)
