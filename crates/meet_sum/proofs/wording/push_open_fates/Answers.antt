-- Proof of `push_open_fates`, src/wording.rt. Appends how many tickets stand in the line, and how many met somebody.
use Rattle.meet_sum.specs.SumTexts.{open_fates_text}
use Rattle.meet_sum.proofs.TextLemmas.{four}
use Rattle.meet_sum.proofs.wording.push_open_fates.Goals as goal

pub returns : goal.returns
unfolding open_fates_text
returns c = four _ _ _ _ _ _ _ _ _ c.in_ok-push_count.ensures c.in_ok-push_count-2.ensures c.in_ok-push_count-3.ensures c.in_ok-push_count-4.ensures
