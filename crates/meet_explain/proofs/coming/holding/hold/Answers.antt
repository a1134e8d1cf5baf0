-- Proof of `hold`, src/coming/holding.rt. What a seat has open behind a base.
use Rattle.std.proofs.Common.{sym, ◌∙◌}
use Rattle.meet_explain.proofs.Lookups.{hold_told}
use Rattle.meet_explain.proofs.coming.holding.hold.Goals as goal

pub returns : goal.returns
returns c = c.held.ensures ∙ sym (hold_told c.args.base.now c.args.seat)
