-- Proof of `Checker::standing`, src/checker.rt. Where the place's tickets and items are behind the records that were
-- pushed; or the fault that was found.
use Rattle.std.proofs.Common.{◌∙◌}
use Rattle.meet_history.proofs.Pushed.{standing-taken}
use Rattle.meet_history.proofs.checker.Checker.standing.Goals as goal

pub returns-in-None-clause-standing : goal.returns-in-None-clause-standing
returns-in-None-clause-standing c =
    rw (← c.self.view_is) (λ base past seen. c.standing.ensures.standing ∙ standing-taken base _ past c.in-None.is c.standing.ensures.beyond seen)
