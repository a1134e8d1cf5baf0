-- What is handed out was brought.
use Rattle.meet_core.proofs.Handed.{hands_out_what_was_brought}
use Rattle.meet_core.proofs.calls.laws.handed_items_were_brought.Goals as goal

pub returns : goal.returns
returns g c = hands_out_what_was_brought g.T.Marked.mark_of
