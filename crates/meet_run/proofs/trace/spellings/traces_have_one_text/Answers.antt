-- Proof of `traces_have_one_text`, src/trace/spellings.rt. A text reads as a whole trace exactly where it is the text
-- that would be written of it, and all is in its limits; only the end of the last line may be missing.
use Rattle.meet_run.proofs.Tracing.WholeTexts.{traces-have-one-text}
use Rattle.meet_run.proofs.trace.spellings.traces_have_one_text.Goals as goal

pub returns : goal.returns
returns c = traces-have-one-text
