-- Proof of `CheckedPool::keeps`, src/checker/pool/callers.rt. The job is kept, and there are workers.
use Rattle.std.proofs.Common.{◌≡◌, ◌∙◌, refl}
use Rattle.pool_core.specs.Histories.{next_moment}
use Rattle.pool_core.specs.Steps.{Allows}
use Rattle.pool_core.specs.declared.deeds.PoolDeed.TheVariants.{Kept}
use Rattle.pool_history.specs.Inside.{moment_in}
use Rattle.pool_history.proofs.Taken.{orderly-at}
use Rattle.pool_history.proofs.checker.pool.CheckedPool.keeps.Goals as goal

pub invariant_of-self : goal.invariant_of-self
invariant_of-self c =
    let well = c.self.invariant in
    let s = c.self.inside.settings in
    let m = moment_in c.self.inside in
    let caller = rw (← c.self.view_is) at c.requires.caller in
    let may = rw (← c.self.view_is) at (c.may_keep_on.ensures.0 c.if-not-may_keep_on.false) in
    let allowed : Allows s m.pool c.args.seat c.args.ticket (Kept c.args.tag) = (caller, may.0, may.1) in
    let same : moment_in (record c.self.inside { last = c.later-self-inside.result; line = c.push_kept.new.self }) ≡ next_moment s m (record { seat = c.args.seat; ticket = c.args.ticket; deed = Kept c.args.tag }) = rw (c.later-self-inside.ensures.greater, c.push_kept.ensures.entries) refl in
    record {
      orderly = orderly-at s m (moment_in (record c.self.inside { last = c.later-self-inside.result; line = c.push_kept.new.self })) c.args.seat c.args.ticket (Kept c.args.tag) well.orderly c.later-self-inside.ensures.limit (λ some. rw (← c.self.view_is) at c.requires.above) allowed same;
      order = c.push_kept.ensures.end ∙ well.order;
    }
