-- Proof of `push_take_deeds`, src/wording.rt. Appends how many requests took, by their deeds, and how many were refused
-- at their entry.
use Rattle.meet_sum.specs.SumTexts.{take_deeds_text}
use Rattle.meet_sum.proofs.TextLemmas.{four}
use Rattle.meet_sum.proofs.wording.push_take_deeds.Goals as goal

pub returns : goal.returns
unfolding take_deeds_text
returns c = four _ _ _ _ _ _ _ _ _ c.in_ok-push_count.ensures c.in_ok-push_count-2.ensures c.in_ok-push_count-3.ensures c.in_ok-push_count-4.ensures
