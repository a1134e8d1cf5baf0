-- Proof of `read_record_from`, src/trace/based.rt. The record of a line with this number, where the first record stands
-- in that line.
use Rattle.std.proofs.Common.{arith, sym, ◌∙◌}
use Rattle.meet_run.proofs.Tracing.ReadFrom.{from-past, from-within}
use Rattle.meet_run.proofs.trace.based.read_record_from.Goals as goal

pub returns-then-saturating_sub-ge-MOST_RECORDS : goal.returns-then-saturating_sub-ge-MOST_RECORDS
returns-then-saturating_sub-ge-MOST_RECORDS c =
    sym (from-past c.args.first c.args.number c.args.line.now (omega (arith, c.saturating_sub.ensures, c.if-saturating_sub-ge-MOST_RECORDS.true)))

pub returns-else-saturating_sub-ge-MOST_RECORDS : goal.returns-else-saturating_sub-ge-MOST_RECORDS
returns-else-saturating_sub-ge-MOST_RECORDS c =
    c.read_record.ensures.read ∙ sym (from-within c.args.first c.args.number c.args.line.now (omega (arith, c.saturating_sub.ensures, c.if-saturating_sub-ge-MOST_RECORDS.false)))
