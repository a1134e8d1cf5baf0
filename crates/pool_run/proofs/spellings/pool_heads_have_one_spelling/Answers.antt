-- Proof of `pool_heads_have_one_spelling`, src/spellings.rt. A trace's first line reads as what a pool is made with
-- exactly where it is its one spelling, and such a pool can be made.
use Rattle.pool_run.proofs.HeadLemmas.{pool-heads-have-one-spelling}
use Rattle.pool_run.proofs.spellings.pool_heads_have_one_spelling.Goals as goal

pub returns : goal.returns
returns c = pool-heads-have-one-spelling
