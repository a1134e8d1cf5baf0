-- Proof of `WorkerSeat::step`, src/worth.rt. Makes a step.
use Rattle.std.proofs.Common.{sym, subst, ap}
use Rattle.std.proofs.Common.{◌≡◌}
use Rattle.std.proofs.lemmas.Result.{IfErr-weaker}
use Rattle.pool_threads.specs.Worthy.{EndsRunningWorth}
use Rattle.pool_threads.proofs.Keeping.{settings_stay}
use Rattle.pool_threads.proofs.Worthy.{worthy_result}
use Rattle.pool_threads.proofs.worth.WorkerSeat.step.Goals as goal

pub invariant_of-self : goal.invariant_of-self
invariant_of-self g c =
    let is = ap (λ s. s.list) c.self.view_is in
    worthy_result g.W.Work.worth c.self.inside.seat.list c.step.new.seat.list c.self.inside.seat.number c.args.call _ c.self.invariant
    (λ n e. subst (λ l. EndsRunningWorth g.W.Work.worth l n) (sym is) (c.requires.finish n e)) c.step.ensures.adds
    (IfErr-weaker _ _ _ (λ b (s : c.step.new.seat ≡ c.self.inside.seat). ap (λ v. v.list) s) c.step.ensures.same)

pub returns-clause-settings : goal.returns-clause-settings
returns-clause-settings g c =
    settings_stay c.args.shared.now c.step.new.self c.self.inside.seat.number c.args.call _ c.step.ensures.step c.step.ensures.unchanged
