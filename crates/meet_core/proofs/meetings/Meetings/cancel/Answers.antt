-- Proof of `Meetings::cancel`, src/meetings/endings.rt. Takes the seat's open ticket back, with a giver's item, where
-- it stands in the line; else it is late.
use Rattle.std.proofs.Common.{◌≡◌, ◌∙◌, sym, refl, Some, rules}
use Rattle.meet_core.proofs.Following.{WithdrawStep-from}
use Rattle.meet_core.proofs.meetings.Meetings.cancel.Goals as goal

pub returns-in-Some-clause-step : goal.returns-in-Some-clause-step
returns-in-Some-clause-step g c =
    let same : c.open_ticket.result ≡ Some c.args.ticket = search rules in
    WithdrawStep-from _ _ _ _ _ _ (sym c.open_ticket.ensures ∙ same) c.in-Some.ensures.entry refl c.in-Some.ensures.leaves
