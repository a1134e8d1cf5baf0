-- Proof of `longest_with`, src/waits.rt. The longest of what was found so far and the ticket of one story more.
use Rattle.meet_sum.proofs.WaitLemmas.{longest-unmoved}
use Rattle.meet_sum.proofs.waits.longest_with.Goals as goal

pub returns-in-None : goal.returns-in-None
returns-in-None c = λ done found. longest-unmoved c.args.opened c.args.all done c.args.story.now c.args.best c.in-None.ensures found

pub returns-in-Some : goal.returns-in-Some
returns-in-Some c = λ done found. c.longer.ensures c.args.opened c.args.all done c.args.story.now c.in-Some.ensures found
