-- Proof of `pool_records_have_one_spelling`, src/spellings.rt. A line reads as a record of a pool exactly where it is
-- that record's one spelling, and the record's numbers are in their limits.
use Rattle.pool_run.proofs.RecordLemmas.{pool-records-have-one-spelling}
use Rattle.pool_run.proofs.spellings.pool_records_have_one_spelling.Goals as goal

pub returns : goal.returns
returns c = pool-records-have-one-spelling
