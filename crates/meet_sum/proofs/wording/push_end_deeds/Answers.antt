-- Proof of `push_end_deeds`, src/wording.rt. Appends how many records ended a ticket, or interrupted a seat, by their
-- deeds.
use Rattle.meet_sum.specs.SumTexts.{end_deeds_text}
use Rattle.meet_sum.proofs.TextLemmas.{four}
use Rattle.meet_sum.proofs.wording.push_end_deeds.Goals as goal

pub returns : goal.returns
unfolding end_deeds_text
returns c = four _ _ _ _ _ _ _ _ _ c.in_ok-push_count.ensures c.in_ok-push_count-2.ensures c.in_ok-push_count-3.ensures c.in_ok-push_count-4.ensures
