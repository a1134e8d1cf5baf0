-- Proof of `CheckedPool::replaces`, src/checker/pool/callers.rt. The kept job that came first is dropped, and the new
-- one is kept.
use Rattle.std.proofs.Common.{◌≡◌, ◌∙◌, ◌+◌, ℕ, Some, refl}
use Rattle.pool_core.proofs.After.{oldest-from}
use Rattle.pool_core.specs.Histories.{next_moment}
use Rattle.pool_core.specs.Steps.{Allows}
use Rattle.pool_core.specs.declared.deeds.PoolDeed.TheVariants.{DroppedOldest}
use Rattle.pool_core.specs.declared.stages.Task.{Task}
use Rattle.pool_history.specs.Inside.{moment_in}
use Rattle.pool_history.proofs.Taken.{orderly-at}
use Rattle.pool_history.proofs.checker.pool.CheckedPool.replaces.Goals as goal

pub invariant_of-self : goal.invariant_of-self
invariant_of-self c =
    let well = c.self.invariant in
    let s = c.self.inside.settings in
    let m = moment_in c.self.inside in
    let caller = rw (← c.self.view_is) at c.requires.caller in
    let left = rw (← c.self.view_is) at (c.is_left_to.ensures.0 c.if-not-is_left_to.false) in
    let task : Task ℕ = record { ticket = c.args.dropped; job = c.args.old } in
    let old = rw (← c.self.view_is) at (c.is_oldest.ensures.0 c.if-not-is_oldest.false) in
    let first = oldest-from s m.pool task old in
    let is : c.partner.result ≡ Some first.entry = c.partner.ensures.partner ∙ (rw (← well.order) at first.found) in
    let allowed : Allows s m.pool c.args.seat c.args.ticket (DroppedOldest c.args.dropped c.args.old c.args.tag) = (caller, left.0, left.1, c.if-self.false, old) in
    let same : moment_in (record c.self.inside { last = c.later-self-inside.result; line = c.push_kept.new.self; dropped = c.self.inside.dropped + 1 }) ≡ next_moment s m (record { seat = c.args.seat; ticket = c.args.ticket; deed = DroppedOldest c.args.dropped c.args.old c.args.tag }) = rw (c.later-self-inside.ensures.greater, c.push_kept.ensures.entries, c.partner.ensures.entries, is, well.order) refl in
    record {
      orderly = orderly-at s m (moment_in (record c.self.inside { last = c.later-self-inside.result; line = c.push_kept.new.self; dropped = c.self.inside.dropped + 1 })) c.args.seat c.args.ticket (DroppedOldest c.args.dropped c.args.old c.args.tag) well.orderly c.later-self-inside.ensures.limit (λ some. rw (← c.self.view_is) at c.requires.above) allowed same;
      order = c.push_kept.ensures.end ∙ c.partner.ensures.end ∙ well.order;
    }
