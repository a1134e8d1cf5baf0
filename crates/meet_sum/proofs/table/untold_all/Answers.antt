-- Proof of `untold_all`, src/table.rt. The stories of these tickets, of which nothing is told.
use Rattle.std.proofs.Common.{◌∙◌, ap, map, []}
use Rattle.std.proofs.lemmas.List.{take_all}
use Rattle.meet_sum.specs.Stories.{story_in}
use Rattle.meet_sum.proofs.TableLemmas.{one-untold}
use Rattle.meet_sum.proofs.table.untold_all.Goals as goal

pub loop-ticket-preserved : goal.loop-ticket-preserved
loop-ticket-preserved c =
    one-untold c.args.tickets.now c.loop-ticket._ticket-index c.loop-ticket-test.true c.loop-ticket.stories.items c.push_untold.new.stories.items c.loop-ticket.invariant c.in_ok-push_untold.ensures

pub returns : goal.returns
returns c = c.loop-ticket.invariant ∙ ap (map (story_in [])) (take_all c.loop-ticket._ticket-index c.args.tickets.now c.loop-ticket-test.false)
