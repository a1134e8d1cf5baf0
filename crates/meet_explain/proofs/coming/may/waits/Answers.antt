-- Proof of `waits`, src/coming/may.rt. The same; then the ticket stands in the line.
use Rattle.meet_explain.proofs.Lookups.{waiting_stands}
use Rattle.meet_explain.proofs.coming.may.waits.Goals as goal

pub returns : goal.returns
returns c = (λ t. (let is = c.holds.ensures.0 t in (is, waiting_stands c.args.base.now c.args.seat c.args.ticket is)), λ p. c.holds.ensures.1 p.0)
