-- Proof of `requests_have_one_spelling`, src/spellings.rt. A line reads as a call of a pool exactly where it is that
-- call's one spelling, and the call's numbers are in their limits.
use Rattle.pool_run.proofs.RequestLemmas.{requests-have-one-spelling}
use Rattle.pool_run.proofs.spellings.requests_have_one_spelling.Goals as goal

pub returns : goal.returns
returns c = requests-have-one-spelling
