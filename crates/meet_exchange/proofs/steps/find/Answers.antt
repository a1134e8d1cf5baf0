-- Proof of `find`, src/steps.rt. The slot's word, for a seat whose offer stands there.
use Rattle.std.proofs.Common.{rules, arith}
use Rattle.meet_exchange.proofs.Keeping.{finds}
use Rattle.meet_exchange.proofs.steps.find.Goals as goal

pub load-requires : goal.load-requires
load-requires g c = (search rules, omega arith, finds g.T.Marked.mark_of _ _ _ _ c.args.round c.args.mark _ c.requires.place.1 c.requires.posted.0 c.requires.posted.1)
