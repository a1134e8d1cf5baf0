-- Proof of `PoolShared::execute`, src/shared.rt. Hands a job in.
use Rattle.std.proofs.Common.{refl, ap, ◌∙◌, subst}
use Rattle.pool_core.specs.Pools.{free}
use Rattle.pool_threads.proofs.Placing.{handed_as, started_free, worker_has}
use Rattle.pool_threads.proofs.Reasons.{execute_why}
use Rattle.pool_threads.specs.Told.{IsExecuteWhy}
use Rattle.pool_threads.proofs.shared.PoolShared.execute.Goals as goal
use Rattle.pool_threads.proofs.shared.PoolShared.execute.Goals.{in-Ok+in-Executed, in-Err}

pub returns-clause-handed : goal.returns-clause-handed
returns-clause-handed g c = elim c.match-step.branch [
  | in-Ok+in-Executed b ↦ rw b.result-is
      (handed_as c.args.seat.now c.step.new.seat c.args.job.tag c.tag.result b.in-Executed._ticket b.in-Ok.answer b.in-Executed.answer _
      c.step.ensures.number c.step.ensures.past c.step.ensures.later b.in-Executed.is c.tag.ensures b.place.ensures.told b.in-Ok.ensures.adds)
  | in-Err b ↦ rw b.result-is tt
]

pub returns-clause-worker : goal.returns-clause-worker
returns-clause-worker g c = elim c.match-step.branch [
  | in-Ok+in-Executed b ↦ rw b.result-is
      (worker_has b.place.result.worker c.prepared.new.seats.items _ b.in-Executed.answer c.free-free.result b.place.ensures.told
      (λ w starts. c.free-free.ensures ∙ ap (λ o. free o.pool) c.probe.ensures.object
      ∙ started_free c.self.inside.shared.object c.step.new.self.object c.args.seat.now.number b.in-Executed._ticket c.tag.result b.in-Ok.answer
      b.in-Executed.answer b.in-Executed.is b.in-Ok.ensures.step w starts)
      (c.if-not-prepared.ensures.room refl) b.place.ensures.worker)
  | in-Err b ↦ rw b.result-is tt
]

pub returns-clause-reason : goal.returns-clause-reason
returns-clause-reason g c = elim c.match-step.branch [
  | in-Ok+in-Executed b ↦ rw b.result-is tt
  | in-Err b ↦ rw b.result-is
      (rw b.back_with.ensures.why
      (subst (λ settings. IsExecuteWhy settings.sizes.callers c.args.seat.now.number b.in-Err.refused.why) c.self.invariant.1
      (execute_why c.self.inside.shared.object c.args.seat.now.number _ b.in-Err.refused.why b.in-Err.ensures.why.0)))
]
