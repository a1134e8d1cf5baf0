-- Proof of `base_numbers_have_one_spelling`, src/trace/base_spellings.rt. A line reads as a base's numbers exactly
-- where it is their one spelling, and they are in their limits.
use Rattle.meet_run.proofs.Tracing.BaseSpellings.{base-numbers-have-one-spelling}
use Rattle.meet_run.proofs.trace.base_spellings.base_numbers_have_one_spelling.Goals as goal

pub returns : goal.returns
returns c = base-numbers-have-one-spelling
