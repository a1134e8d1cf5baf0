-- Proof of `CheckedPool::drops`, src/checker/pool/callers.rt. The job is dropped.
use Rattle.std.proofs.Common.{◌≡◌, ◌+◌, refl}
use Rattle.pool_core.specs.Histories.{next_moment}
use Rattle.pool_core.specs.Steps.{Allows}
use Rattle.pool_core.specs.declared.deeds.PoolDeed.TheVariants.{Dropped}
use Rattle.pool_history.specs.Inside.{moment_in}
use Rattle.pool_history.proofs.Taken.{orderly-at}
use Rattle.pool_history.proofs.checker.pool.CheckedPool.drops.Goals as goal

pub invariant_of-self : goal.invariant_of-self
invariant_of-self c =
    let well = c.self.invariant in
    let s = c.self.inside.settings in
    let m = moment_in c.self.inside in
    let caller = rw (← c.self.view_is) at c.requires.caller in
    let may = rw (← c.self.view_is) at (c.may_drop.ensures.0 c.if-not-may_drop.false) in
    let allowed : Allows s m.pool c.args.seat c.args.ticket (Dropped 0) = (caller, may.0, may.1) in
    let same : moment_in (record c.self.inside { last = c.later-self-inside.result; dropped = c.self.inside.dropped + 1 }) ≡ next_moment s m (record { seat = c.args.seat; ticket = c.args.ticket; deed = Dropped 0 }) = rw (c.later-self-inside.ensures.greater) refl in
    record {
      orderly = orderly-at s m (moment_in (record c.self.inside { last = c.later-self-inside.result; dropped = c.self.inside.dropped + 1 })) c.args.seat c.args.ticket (Dropped 0) well.orderly c.later-self-inside.ensures.limit (λ some. rw (← c.self.view_is) at c.requires.above) allowed same;
      order = well.order;
    }
