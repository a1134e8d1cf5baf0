-- Proof of `CheckedPool::leaves_to_caller`, src/checker/pool/callers.rt. The caller runs the job.
use Rattle.std.proofs.Common.{◌≡◌, ◌+◌, refl}
use Rattle.pool_core.specs.Histories.{next_moment}
use Rattle.pool_core.specs.Steps.{Allows}
use Rattle.pool_core.specs.declared.deeds.PoolDeed.TheVariants.{CallerRuns}
use Rattle.pool_history.specs.Inside.{moment_in}
use Rattle.pool_history.proofs.Taken.{orderly-at}
use Rattle.pool_history.proofs.checker.pool.CheckedPool.leaves_to_caller.Goals as goal

pub invariant_of-self : goal.invariant_of-self
invariant_of-self c =
    let well = c.self.invariant in
    let s = c.self.inside.settings in
    let m = moment_in c.self.inside in
    let caller = rw (← c.self.view_is) at c.requires.caller in
    let left = rw (← c.self.view_is) at (c.is_left_to.ensures.0 c.if-not-is_left_to.false) in
    let allowed : Allows s m.pool c.args.seat c.args.ticket (CallerRuns 0) = (caller, left.0, left.1, c.if-self.false) in
    let same : moment_in (record c.self.inside { last = c.later-self-inside.result; ran = c.self.inside.ran + 1 }) ≡ next_moment s m (record { seat = c.args.seat; ticket = c.args.ticket; deed = CallerRuns 0 }) = rw (c.later-self-inside.ensures.greater) refl in
    record {
      orderly = orderly-at s m (moment_in (record c.self.inside { last = c.later-self-inside.result; ran = c.self.inside.ran + 1 })) c.args.seat c.args.ticket (CallerRuns 0) well.orderly c.later-self-inside.ensures.limit (λ some. rw (← c.self.view_is) at c.requires.above) allowed same;
      order = well.order;
    }
