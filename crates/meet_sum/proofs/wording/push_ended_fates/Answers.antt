-- Proof of `push_ended_fates`, src/wording.rt. Appends how many tickets were taken back, by their causes.
use Rattle.meet_sum.specs.SumTexts.{ended_fates_text}
use Rattle.meet_sum.proofs.TextLemmas.{three}
use Rattle.meet_sum.proofs.wording.push_ended_fates.Goals as goal

pub returns : goal.returns
unfolding ended_fates_text
returns c = three _ _ _ _ _ _ _ c.in_ok-push_count.ensures c.in_ok-push_count-2.ensures c.in_ok-push_count-3.ensures
