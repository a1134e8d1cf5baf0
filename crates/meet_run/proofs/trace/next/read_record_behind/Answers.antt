-- Proof of `read_record_behind`, src/trace/next.rt. The record of a line behind so many others: a trace's first line,
-- and one for each record.
use Rattle.std.proofs.Common.{◌+◌, arith, sym, ◌∙◌}
use Rattle.meet_run.proofs.Texts.NextLemmas.{record_at-past, record_at-within}
use Rattle.meet_run.proofs.trace.next.read_record_behind.Goals as goal

pub returns-then-read-gt-MOST_RECORDS : goal.returns-then-read-gt-MOST_RECORDS
returns-then-read-gt-MOST_RECORDS c = sym (record_at-past (c.args.read + 1) c.args.line.now (omega (arith, c.if-read-gt-MOST_RECORDS.true)))

pub returns-else-read-gt-MOST_RECORDS : goal.returns-else-read-gt-MOST_RECORDS
returns-else-read-gt-MOST_RECORDS c =
    c.read_record.ensures.read ∙ sym (record_at-within (c.args.read + 1) c.args.line.now (omega (arith, c.if-read-gt-MOST_RECORDS.false)))
