-- Proof of `read_record_behind`, src/records.rt. The record of a line behind so many others, a trace's first line and
-- one for each record; or none where the line is at fault, or one too many.
use Rattle.std.proofs.Common.{◌+◌, arith, sym, ◌∙◌}
use Rattle.pool_run.proofs.RecordLemmas.{record_at-past, record_at-within}
use Rattle.pool_run.proofs.records.read_record_behind.Goals as goal

pub returns-then-read-gt-MOST_RECORDS : goal.returns-then-read-gt-MOST_RECORDS
returns-then-read-gt-MOST_RECORDS c = sym (record_at-past (c.args.read + 1) c.args.line.now (omega (arith, c.if-read-gt-MOST_RECORDS.true)))

pub returns-else-read-gt-MOST_RECORDS : goal.returns-else-read-gt-MOST_RECORDS
returns-else-read-gt-MOST_RECORDS c =
    c.read_record.ensures.read ∙ sym (record_at-within (c.args.read + 1) c.args.line.now (omega (arith, c.if-read-gt-MOST_RECORDS.false)))
