-- Proof of `records_have_one_spelling`, src/trace/spellings.rt. A line reads as a record exactly where it is that
-- record's one spelling, and the record's numbers are in their limits.
use Rattle.meet_run.proofs.Tracing.TraceLemmas.{records-have-one-spelling}
use Rattle.meet_run.proofs.trace.spellings.records_have_one_spelling.Goals as goal

pub returns : goal.returns
returns c = records-have-one-spelling
