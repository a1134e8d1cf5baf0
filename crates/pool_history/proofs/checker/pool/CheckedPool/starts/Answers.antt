-- Proof of `CheckedPool::starts`, src/checker/pool/callers.rt. A new worker starts with the job.
use Rattle.std.proofs.Common.{◌≡◌, refl}
use Rattle.pool_core.specs.Histories.{next_moment}
use Rattle.pool_core.specs.Steps.{Allows}
use Rattle.pool_core.specs.declared.deeds.PoolDeed.TheVariants.{Started}
use Rattle.pool_history.specs.Inside.{moment_in}
use Rattle.pool_history.proofs.Taken.{orderly-at}
use Rattle.pool_history.proofs.checker.pool.CheckedPool.starts.Goals as goal

pub invariant_of-self : goal.invariant_of-self
invariant_of-self c =
    let well = c.self.invariant in
    let s = c.self.inside.settings in
    let m = moment_in c.self.inside in
    let caller = rw (← c.self.view_is) at c.requires.caller in
    let may = rw (← c.self.view_is) at (c.may_start.ensures.0 c.if-not-may_start.false) in
    let allowed : Allows s m.pool c.args.seat c.args.ticket (Started c.args.worker c.args.tag) = (caller, may.0, may.1) in
    let same : moment_in (record c.self.inside { last = c.later-self-inside.result; workers = c.put.new.self; largest = c.max-self-inside.result }) ≡ next_moment s m (record { seat = c.args.seat; ticket = c.args.ticket; deed = Started c.args.worker c.args.tag }) = rw (c.later-self-inside.ensures.greater, c.put.ensures.stages, c.max-self-inside.ensures, c.there-working.ensures) refl in
    record {
      orderly = orderly-at s m (moment_in (record c.self.inside { last = c.later-self-inside.result; workers = c.put.new.self; largest = c.max-self-inside.result })) c.args.seat c.args.ticket (Started c.args.worker c.args.tag) well.orderly c.later-self-inside.ensures.limit (λ some. rw (← c.self.view_is) at c.requires.above) allowed same;
      order = well.order;
    }
