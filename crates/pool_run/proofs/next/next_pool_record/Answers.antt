-- Proof of `next_pool_record`, src/next.rt. Reads the line of a record, behind so many lines.
use Rattle.std.proofs.Common.{◌+◌, ◌∙◌, ap}
use Rattle.meet_run.proofs.Texts.NextLemmas.{next-is}
use Rattle.pool_run.specs.Records.{pool_record_at}
use Rattle.pool_run.proofs.RecordLemmas.{record-too_long}
use Rattle.pool_run.proofs.next.next_pool_record.Goals as goal

pub returns-clause-next : goal.returns-clause-next
returns-clause-next g c =
    let line = c.read_line-came.new.line.items in
    next-is (pool_record_at (c.args.read + 1)) c.next_of.result c.read_line-came.result c.read_record_behind.result (g.R.Read.remaining c.args.reader.now) (g.R.Read.remaining c.read_line-came.new.reader) c.args.turns.now c.read_line-came.new.turns line
    (λ l long. record-too_long (c.args.read + 1) l long) c.read_line-came.ensures.read c.read_line-came.ensures.spends c.next_of.ensures (c.read_record_behind.ensures ∙ ap (pool_record_at (c.args.read + 1)) c.as_slice.ensures.value)
