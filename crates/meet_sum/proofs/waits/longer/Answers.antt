-- Proof of `longer`, src/waits.rt. The longer of what was found so far and one more.
use Rattle.std.proofs.Common.{subst}
use Rattle.meet_sum.specs.Waits.{IsLongest}
use Rattle.meet_sum.proofs.WaitLemmas.{longest-first, longest-longer, longer-either}
use Rattle.meet_sum.proofs.waits.longer.Goals as goal

pub returns-in-None : goal.returns-in-None
returns-in-None c = λ opened all done s own found. longest-first opened all done s c.args.here own (subst (IsLongest opened all done) c.in-None.is found)

pub returns-then-old-here : goal.returns-then-old-here
returns-then-old-here c = λ opened all done s own found. longest-longer opened all done s c.in-Some.old c.args.here own c.if-old-here.true (subst (IsLongest opened all done) c.in-Some.is found)

pub returns-else-old-here : goal.returns-else-old-here
returns-else-old-here c = λ opened all done s own found. longer-either opened all done s c.in-Some.old c.args.here c.if-old-here.false own (subst (IsLongest opened all done) c.in-Some.is found)
