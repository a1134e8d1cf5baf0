-- Proof of `push_other_fates`, src/wording.rt. Appends how many tickets were cut, failed or were refused.
use Rattle.meet_sum.specs.SumTexts.{other_fates_text}
use Rattle.meet_sum.proofs.TextLemmas.{three}
use Rattle.meet_sum.proofs.wording.push_other_fates.Goals as goal

pub returns : goal.returns
unfolding other_fates_text
returns c = three _ _ _ _ _ _ _ c.in_ok-push_count.ensures c.in_ok-push_count-2.ensures c.in_ok-push_count-3.ensures
