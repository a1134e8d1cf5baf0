-- Proof of `handed`, src/at.rt.
use Rattle.pool_callers.proofs.Readied.{unbegun}
use Rattle.pool_callers.proofs.at.handed.Goals as goal

pub returns-clause-unstarted : goal.returns-clause-unstarted
returns-clause-unstarted g c =
    unbegun c.placed.result.1 c.args.seat c.placed.result.0 c.new.result (g.C.Call.tag_of c.args.call) c.args.call
    c.new.ensures.tag c.new.ensures.call c.placed.ensures.unstarted
