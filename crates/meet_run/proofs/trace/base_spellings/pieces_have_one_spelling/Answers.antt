-- Proof of `pieces_have_one_spelling`, src/trace/base_spellings.rt. A line reads as a piece of a base exactly where it
-- is that piece's one spelling, and the piece's numbers are in their limits.
use Rattle.meet_run.proofs.Tracing.BaseSpellings.{pieces-have-one-spelling}
use Rattle.meet_run.proofs.trace.base_spellings.pieces_have_one_spelling.Goals as goal

pub returns : goal.returns
returns c = pieces-have-one-spelling
