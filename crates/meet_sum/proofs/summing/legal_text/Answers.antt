-- Proof of `legal_text`, src/summing.rt. What is said of a trace with these records that was read, and is legal: where
-- its tickets and items are, and its sums.
use Rattle.meet_sum.proofs.SumsTold.{summed}
use Rattle.meet_sum.proofs.summing.legal_text.Goals as goal

pub returns-in-Ok-clause-said : goal.returns-in-Ok-clause-said
returns-in-Ok-clause-said c = λ lines read.
    summed lines c.args.trace.now c.args.standing c.args.records.now c.in_ok-sums.sums c.in-Ok.out.items read c.requires.sound c.requires.standing
    c.in_ok-sums.ensures.sums c.in-Ok.ensures
