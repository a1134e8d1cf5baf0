-- Proof of `CheckedPool::runs`, src/checker/pool/workers.rt. The worker runs the job that it starts with or was handed,
-- or the kept one that came first.
use Rattle.std.proofs.Common.{◌≡◌, ◌∙◌, ◌-◌, ℕ, max, subst, ap, sym, arith}
use Rattle.pool_core.specs.Histories.{Moment}
use Rattle.pool_core.specs.Histories.{next_moment}
use Rattle.pool_core.specs.Pools.{Pool, stage_of, staged, worker_of}
use Rattle.pool_core.specs.Steps.{Allows}
use Rattle.pool_core.specs.Steps.{IsOwn, job_for, taken}
use Rattle.pool_core.specs.declared.deeds.PoolDeed.TheVariants.{Runs}
use Rattle.pool_core.specs.declared.stages.Stage.TheVariants.{Absent, Running}
use Rattle.pool_core.specs.declared.stages.Task.{Task}
use Rattle.pool_history.proofs.Taken.{hand-job, hand-taken}
use Rattle.std.proofs.lemmas.List.{get_or_read}
use Rattle.pool_history.specs.Inside.{moment_in}
use Rattle.pool_history.proofs.Taken.{orderly-at, stage-here}
use Rattle.pool_history.proofs.checker.pool.CheckedPool.runs.Goals as goal

pub invariant_of-self : goal.invariant_of-self
invariant_of-self c =
    let well = c.self.invariant in
    let s = c.self.inside.settings in
    let m = moment_in c.self.inside in
    let seat = rw (← c.self.view_is) at c.requires.worker in
    let there = rw (← c.self.view_is) at c.requires.there in
    let own : c.args.seat - c.self.inside.settings.sizes.callers ≡ c.args.worker = omega (arith, seat) in
    let at = sym (get_or_read c.self.inside.workers c.args.worker c.at-2.result.now there c.at-2.ensures Absent) in
    let here = stage-here s m.pool c.args.seat c.args.worker c.at-2.result.now seat at in
    let hand = c.has_in_hand.ensures.0 c.if-not-has_in_hand.false in
    let task : Task ℕ = record { ticket = c.args.job; job = c.args.tag } in
    let left = ap (λ st. taken s m.pool st) here ∙ hand-taken s m.pool c.at-2.result.now task hand.1 in
    let moved : staged (taken s m.pool (stage_of s m.pool c.args.seat)) (worker_of s c.args.seat) (Running c.args.job) ≡ staged m.pool (worker_of s c.args.seat) (Running c.args.job) = ap (λ (q : Pool ℕ). staged q (worker_of s c.args.seat) (Running c.args.job)) left in
    let allowed : Allows s m.pool c.args.seat c.args.ticket (Runs c.args.job c.args.tag) = (subst (λ st. IsOwn st c.args.ticket) (sym here) hand.0, ap (λ st. job_for s m.pool st) here ∙ hand-job s m.pool c.at-2.result.now task hand.1) in
    let same : moment_in (record c.self.inside { last = c.later-self-inside.result; workers = c.put.new.self }) ≡ next_moment s m (record { seat = c.args.seat; ticket = c.args.ticket; deed = Runs c.args.job c.args.tag }) = rw (c.later-self-inside.ensures.greater, c.put.ensures.stages, ← own) (ap (λ (q : Pool ℕ). let new : Moment = record { last = max c.self.inside.last c.args.ticket; pool = q } in new) (sym moved)) in
    record {
      orderly = orderly-at s m (moment_in (record c.self.inside { last = c.later-self-inside.result; workers = c.put.new.self })) c.args.seat c.args.ticket (Runs c.args.job c.args.tag) well.orderly c.later-self-inside.ensures.limit (λ some. (rw (← c.self.view_is) at c.requires.above) some) allowed same;
      order = well.order;
    }
