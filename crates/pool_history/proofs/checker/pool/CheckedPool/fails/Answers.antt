-- Proof of `CheckedPool::fails`, src/checker/pool/workers.rt. The worker couldn't be started, and its first job comes
-- back.
use Rattle.std.proofs.Common.{◌≡◌, ◌∙◌, ◌-◌, ◌+◌, ap, sym, refl, arith}
use Rattle.pool_core.specs.Histories.{next_moment}
use Rattle.pool_core.specs.Pools.{jobs_at, stage_of}
use Rattle.pool_core.specs.Steps.{Allows}
use Rattle.pool_core.specs.declared.deeds.PoolDeed.TheVariants.{StartFailed}
use Rattle.pool_core.specs.declared.stages.Stage.TheVariants.{Absent, Starting}
use Rattle.std.proofs.lemmas.List.{get_or_read}
use Rattle.pool_history.specs.Inside.{moment_in}
use Rattle.pool_history.proofs.Taken.{orderly-at, stage-here}
use Rattle.pool_history.proofs.checker.pool.CheckedPool.fails.Goals as goal

pub invariant_of-self : goal.invariant_of-self
invariant_of-self c =
    let well = c.self.invariant in
    let s = c.self.inside.settings in
    let m = moment_in c.self.inside in
    let seat = rw (← c.self.view_is) at c.requires.worker in
    let there = rw (← c.self.view_is) at c.requires.there in
    let own : c.args.seat - c.self.inside.settings.sizes.callers ≡ c.args.worker = omega (arith, seat) in
    let at = sym (get_or_read c.self.inside.workers c.args.worker c.at-stage.result.now there c.at-stage.ensures Absent) in
    let starts = c.starts_with.ensures.0 c.if-not-starts_with.false in
    let jobs : c.jobs_at-jobs.result ≡ jobs_at (stage_of s m.pool c.args.seat) = c.jobs_at-jobs.ensures.value ∙ ap jobs_at (sym (stage-here s m.pool c.args.seat c.args.worker c.at-stage.result.now seat at)) in
    let allowed : Allows s m.pool c.args.seat c.args.ticket (StartFailed) = (starts.0, stage-here s m.pool c.args.seat c.args.worker (Starting starts.0) seat (at ∙ starts.1), starts.2) in
    let same : moment_in (record c.self.inside { last = c.later-self-inside.result; workers = c.put.new.self; back = c.self.inside.back + c.jobs_at-jobs.result }) ≡ next_moment s m (record { seat = c.args.seat; ticket = c.args.ticket; deed = StartFailed }) = rw (c.later-self-inside.ensures.greater, c.put.ensures.stages, jobs, ← own) refl in
    record {
      orderly = orderly-at s m (moment_in (record c.self.inside { last = c.later-self-inside.result; workers = c.put.new.self; back = c.self.inside.back + c.jobs_at-jobs.result })) c.args.seat c.args.ticket (StartFailed) well.orderly c.later-self-inside.ensures.limit (λ some. absurd (omega (arith, some))) allowed same;
      order = well.order;
    }
