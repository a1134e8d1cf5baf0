-- Proof of `CheckedPool::waits`, src/checker/pool/workers.rt. The worker finds no job, and waits.
use Rattle.std.proofs.Common.{◌≡◌, ◌∙◌, ◌-◌, None, sym, refl, arith}
use Rattle.pool_core.specs.Histories.{next_moment}
use Rattle.pool_core.specs.Steps.{Allows}
use Rattle.pool_core.specs.declared.deeds.PoolDeed.TheVariants.{Waits}
use Rattle.pool_core.specs.declared.stages.Stage.TheVariants.{Absent, Starting}
use Rattle.std.proofs.lemmas.List.{get_or_read}
use Rattle.pool_history.specs.Inside.{moment_in}
use Rattle.pool_history.proofs.Taken.{orderly-at, stage-here}
use Rattle.pool_history.proofs.checker.pool.CheckedPool.waits.Goals as goal

pub invariant_of-self : goal.invariant_of-self
invariant_of-self c =
    let well = c.self.invariant in
    let s = c.self.inside.settings in
    let m = moment_in c.self.inside in
    let seat = rw (← c.self.view_is) at c.requires.worker in
    let there = rw (← c.self.view_is) at c.requires.there in
    let own : c.args.seat - c.self.inside.settings.sizes.callers ≡ c.args.worker = omega (arith, seat) in
    let at = sym (get_or_read c.self.inside.workers c.args.worker c.at.result.now there c.at.ensures Absent) in
    let may = rw (← c.self.view_is) at (c.may_wait.ensures.0 c.if-not-may_wait.false) in
    let allowed : Allows s m.pool c.args.seat c.args.ticket (Waits) = (stage-here s m.pool c.args.seat c.args.worker (Starting None) seat (at ∙ may.0), may.1, may.2) in
    let same : moment_in (record c.self.inside { last = c.later-self-inside.result; line = c.push_take.new.self; workers = c.put.new.self }) ≡ next_moment s m (record { seat = c.args.seat; ticket = c.args.ticket; deed = Waits }) = rw (c.later-self-inside.ensures.greater, c.push_take.ensures.entries, c.put.ensures.stages, ← own) refl in
    record {
      orderly = orderly-at s m (moment_in (record c.self.inside { last = c.later-self-inside.result; line = c.push_take.new.self; workers = c.put.new.self })) c.args.seat c.args.ticket (Waits) well.orderly c.later-self-inside.ensures.limit (λ some. (rw (← c.self.view_is) at c.requires.above) some) allowed same;
      order = c.push_take.ensures.end ∙ well.order;
    }
