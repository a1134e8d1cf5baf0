-- Proof of `push_waited`, src/wording.rt. Appends how long a ticket of a seat waited.
use Rattle.meet_sum.specs.SumTexts.{waited_text}
use Rattle.meet_sum.proofs.TextLemmas.{three}
use Rattle.meet_sum.proofs.wording.push_waited.Goals as goal

pub returns : goal.returns
unfolding waited_text
returns c = three _ _ _ _ _ _ _ c.in_ok-push_pair.ensures c.in_ok-push_numbered.ensures c.in_ok-extend_from_slice.ensures.items
