-- Proof of `CheckedPool::runs_kept`, src/checker/pool/workers.rt. The worker, which has none in hand, runs the kept job
-- that came first.
use Rattle.std.proofs.Common.{◌≡◌, ◌∙◌, ◌-◌, ℕ, max, Some, None, subst, ap, sym, arith}
use Rattle.pool_core.proofs.After.{oldest-from}
use Rattle.pool_core.specs.Histories.{Moment}
use Rattle.pool_core.specs.Histories.{next_moment}
use Rattle.pool_core.specs.Pools.{Pool, met_one, stage_of, staged, worker_of}
use Rattle.pool_core.specs.Steps.{Allows}
use Rattle.pool_core.specs.Steps.{IsOwn, job_for, taken}
use Rattle.pool_core.specs.declared.deeds.PoolDeed.TheVariants.{Runs}
use Rattle.pool_core.specs.declared.stages.Stage.TheVariants.{Starting, Running}
use Rattle.pool_core.specs.declared.stages.Task.{Task}
use Rattle.pool_history.specs.Inside.{moment_in}
use Rattle.pool_history.proofs.Taken.{orderly-at, stage-here}
use Rattle.pool_history.proofs.checker.pool.CheckedPool.runs_kept.Goals as goal

pub invariant_of-self : goal.invariant_of-self
invariant_of-self c =
    let well = c.self.invariant in
    let s = c.self.inside.settings in
    let m = moment_in c.self.inside in
    let seat = rw (← c.self.view_is) at c.requires.worker in
    let own : c.args.seat - c.self.inside.settings.sizes.callers ≡ c.args.worker = omega (arith, seat) in
    let jobless = rw (← c.self.view_is) at c.requires.jobless in
    let here = stage-here s m.pool c.args.seat c.args.worker (Starting None) seat jobless in
    let task : Task ℕ = record { ticket = c.args.job; job = c.args.tag } in
    let old = rw (← c.self.view_is) at (c.is_oldest.ensures.0 c.if-not-is_oldest.false) in
    let first = oldest-from s m.pool task old in
    let is : c.partner.result ≡ Some first.entry = c.partner.ensures.partner ∙ (rw (← well.order) at first.found) in
    let moved : staged (taken s m.pool (stage_of s m.pool c.args.seat)) (worker_of s c.args.seat) (Running c.args.job) ≡ staged (met_one s m.pool) (worker_of s c.args.seat) (Running c.args.job) = ap (λ st. staged (taken s m.pool st) (worker_of s c.args.seat) (Running c.args.job)) here in
    let allowed : Allows s m.pool c.args.seat c.args.ticket (Runs c.args.job c.args.tag) = (subst (λ st. IsOwn st c.args.ticket) (sym here) tt, ap (λ st. job_for s m.pool st) here ∙ old) in
    let same : moment_in (record c.self.inside { last = c.later-self-inside.result; line = c.partner.new.self; workers = c.put.new.self }) ≡ next_moment s m (record { seat = c.args.seat; ticket = c.args.ticket; deed = Runs c.args.job c.args.tag }) = rw (c.later-self-inside.ensures.greater, c.partner.ensures.entries, is, well.order, c.put.ensures.stages, ← own) (ap (λ (q : Pool ℕ). let new : Moment = record { last = max c.self.inside.last c.args.ticket; pool = q } in new) (sym moved)) in
    record {
      orderly = orderly-at s m (moment_in (record c.self.inside { last = c.later-self-inside.result; line = c.partner.new.self; workers = c.put.new.self })) c.args.seat c.args.ticket (Runs c.args.job c.args.tag) well.orderly c.later-self-inside.ensures.limit (λ some. rw (← c.self.view_is) at c.requires.above) allowed same;
      order = c.partner.ensures.end ∙ well.order;
    }
