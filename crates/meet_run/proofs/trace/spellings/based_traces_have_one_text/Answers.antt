-- Proof of `based_traces_have_one_text`, src/trace/spellings.rt.
use Rattle.meet_run.proofs.Tracing.WholeTexts.{based-traces-have-one-text}
use Rattle.meet_run.proofs.trace.spellings.based_traces_have_one_text.Goals as goal

pub returns : goal.returns
returns c = based-traces-have-one-text
