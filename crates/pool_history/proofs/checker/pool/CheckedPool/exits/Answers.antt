-- Proof of `CheckedPool::exits`, src/checker/pool/workers.rt. The worker ends, the pool being shut.
use Rattle.std.proofs.Common.{◌≡◌, ◌-◌, subst, sym, refl, arith}
use Rattle.pool_core.specs.Histories.{next_moment}
use Rattle.pool_core.specs.Steps.{Allows}
use Rattle.pool_core.specs.Steps.{IsOwn, MayExit}
use Rattle.pool_core.specs.declared.deeds.PoolDeed.TheVariants.{Exits}
use Rattle.pool_core.specs.declared.stages.Stage.TheVariants.{Absent}
use Rattle.std.proofs.lemmas.List.{get_or_read}
use Rattle.pool_history.specs.Inside.{moment_in}
use Rattle.pool_history.proofs.Taken.{orderly-at, stage-here}
use Rattle.pool_history.proofs.checker.pool.CheckedPool.exits.Goals as goal

pub invariant_of-self : goal.invariant_of-self
invariant_of-self c =
    let well = c.self.invariant in
    let s = c.self.inside.settings in
    let m = moment_in c.self.inside in
    let seat = rw (← c.self.view_is) at c.requires.worker in
    let there = rw (← c.self.view_is) at c.requires.there in
    let own : c.args.seat - c.self.inside.settings.sizes.callers ≡ c.args.worker = omega (arith, seat) in
    let at = sym (get_or_read c.self.inside.workers c.args.worker c.at.result.now there c.at.ensures Absent) in
    let here = stage-here s m.pool c.args.seat c.args.worker c.at.result.now seat at in
    let may = rw (← c.self.view_is) at (c.may_exit.ensures.0 c.if-not-may_exit.false) in
    let allowed : Allows s m.pool c.args.seat c.args.ticket (Exits) = (subst (λ st. IsOwn st c.args.ticket) (sym here) may.0, subst (λ st. MayExit s m.pool st) (sym here) may.1) in
    let same : moment_in (record c.self.inside { last = c.later-self-inside.result; workers = c.put.new.self }) ≡ next_moment s m (record { seat = c.args.seat; ticket = c.args.ticket; deed = Exits }) = rw (c.later-self-inside.ensures.greater, c.put.ensures.stages, ← own) refl in
    record {
      orderly = orderly-at s m (moment_in (record c.self.inside { last = c.later-self-inside.result; workers = c.put.new.self })) c.args.seat c.args.ticket (Exits) well.orderly c.later-self-inside.ensures.limit (λ some. (rw (← c.self.view_is) at c.requires.above) some) allowed same;
      order = well.order;
    }
