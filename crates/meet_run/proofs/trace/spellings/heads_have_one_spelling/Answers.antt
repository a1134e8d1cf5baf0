-- Proof of `heads_have_one_spelling`, src/trace/spellings.rt. A first line reads as a kind of place exactly where it is
-- its one spelling, and the place may have that bound.
use Rattle.meet_run.proofs.Tracing.HeadLemmas.{heads-have-one-spelling}
use Rattle.meet_run.proofs.trace.spellings.heads_have_one_spelling.Goals as goal

pub returns : goal.returns
returns c = heads-have-one-spelling
