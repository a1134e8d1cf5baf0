-- Proof of `placed`, src/at.rt.
use Rattle.std.proofs.Common.{ℕ, ◌≤◌, Some, sym, subst, ap, ◌∙◌, refl}
use Rattle.std.specs.Prelude.{IfSome}
use Rattle.pool_threads.proofs.Unstarted.{unstarted}
use Rattle.pool_threads.specs.Outcomes.{Handed}
use Rattle.pool_threads.specs.Told.{Starts, answer_told}
use Rattle.pool_callers.proofs.at.placed.Goals as goal

pub returns-clause-item : goal.returns-clause-item
returns-clause-item g c = c.outcome_of.ensures.item c.args.job c.in-Ok.ensures.itself

pub returns-in-NoThread-clause-unstarted : goal.returns-in-NoThread-clause-unstarted
returns-in-NoThread-clause-unstarted g c = λ _.
    let worker = subst (λ o. IfSome o (λ s. (w : ℕ) × Starts (answer_told c.in-Ok.done.1.executed) w × (4 ≤ s.room))) c.in-Some.is c.in-Ok.ensures.worker in
    unstarted c.args.seat c.args.seat c.in-Ok.done.0 c.args.job c.in-NoThread.job (answer_told c.in-Ok.done.1.executed) worker.0
    refl refl refl refl c.in-Ok.ensures.handed worker.1 c.first_of-first.result
    (λ w is. c.first_of-first.ensures.started w is ∙ ap Some c.tag-tag.ensures) c.first_of-first.ensures.kept c.in-NoThread.ensures

pub returns-clause-handed : goal.returns-clause-handed
returns-clause-handed g c =
    subst (λ a. Handed c.args.seat c.in-Ok.done.0 c.args.job.tag a) (sym (c.outcome_of.ensures.told c.args.job c.in-Ok.ensures.itself))
    c.in-Ok.ensures.handed
