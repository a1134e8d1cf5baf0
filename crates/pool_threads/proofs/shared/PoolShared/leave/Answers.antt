-- Proof of `PoolShared::leave`, src/steps.rt.
use Rattle.std.proofs.Common.{refl, ap, inr}
use Rattle.pool_threads.specs.declared.steps.Next.TheVariants as next
use Rattle.pool_threads.proofs.Stepping.{works}
use Rattle.pool_threads.proofs.shared.PoolShared.leave.Goals as goal
use Rattle.pool_threads.proofs.shared.PoolShared.leave.Goals.{in-Err, in-Ok+in-Left}

pub returns-clause-step : goal.returns-clause-step
returns-clause-step g c = elim c.match-step.branch [
  | in-Err b ↦ rw (b.result-is, b.self-inside-is, ← c.self.view_is) (inr (ap next.Refused b.in-Err.ensures.same.0, b.in-Err.ensures.same.1))
  | in-Ok+in-Left b ↦ rw (b.result-is, b.self-inside-is, ← c.self.view_is)
      (works _ _ c.args.seat c.step.new.self _ b.in-Ok.answer _ _ b.in-Left.is b.in-Ok.ensures.made c.step.ensures.number b.in-Ok.ensures.adds refl)
]
