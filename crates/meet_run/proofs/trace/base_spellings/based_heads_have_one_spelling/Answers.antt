-- Proof of `based_heads_have_one_spelling`, src/trace/base_spellings.rt. The first line of a trace with a base reads as
-- a kind of place exactly where it is its one spelling, and the place may have that bound.
use Rattle.meet_run.proofs.Tracing.BaseSpellings.{based-heads-have-one-spelling}
use Rattle.meet_run.proofs.trace.base_spellings.based_heads_have_one_spelling.Goals as goal

pub returns : goal.returns
returns c = based-heads-have-one-spelling
