-- Proof of `read_record`, src/records.rt. The record of a line of a pool's trace, or none where the line is at fault.
use Rattle.pool_run.proofs.RecordLemmas.{record-limits}
use Rattle.pool_run.proofs.records.read_record.Goals as goal

pub returns-clause-fits : goal.returns-clause-fits
returns-clause-fits c = record-limits c.args.line.now c.read_long_record.result c.read_long_record.ensures
