-- Proof of `CheckedPool::expires`, src/checker/pool/workers.rt. The worker waited too long, and ends.
use Rattle.std.proofs.Common.{◌≡◌, ◌∙◌, ◌-◌, sym, refl, arith}
use Rattle.pool_core.proofs.Crowd.{taker-of}
use Rattle.pool_core.specs.Histories.{next_moment}
use Rattle.pool_core.specs.Steps.{Allows}
use Rattle.pool_core.specs.declared.deeds.PoolDeed.TheVariants.{IdleExit}
use Rattle.pool_core.specs.declared.stages.Stage.TheVariants.{Absent, Waiting}
use Rattle.std.proofs.lemmas.List.{get_or_read}
use Rattle.pool_history.specs.Inside.{moment_in}
use Rattle.pool_history.proofs.Taken.{orderly-at, stage-here}
use Rattle.pool_history.proofs.checker.pool.CheckedPool.expires.Goals as goal

pub remove_take-requires : goal.remove_take-requires
remove_take-requires c =
    let seat = rw (← c.self.view_is) at c.requires.worker in
    let there = rw (← c.self.view_is) at c.requires.there in
    let at = sym (get_or_read c.self.inside.workers c.args.worker c.at.result.now there c.at.ensures Absent) in
    let waits = c.waits_with.ensures.0 c.if-not-waits_with.false in
    taker-of c.args.seat c.args.worker c.args.ticket c.self.invariant.orderly.sound seat (at ∙ waits)

pub invariant_of-self : goal.invariant_of-self
invariant_of-self c =
    let well = c.self.invariant in
    let s = c.self.inside.settings in
    let m = moment_in c.self.inside in
    let seat = rw (← c.self.view_is) at c.requires.worker in
    let there = rw (← c.self.view_is) at c.requires.there in
    let own : c.args.seat - c.self.inside.settings.sizes.callers ≡ c.args.worker = omega (arith, seat) in
    let at = sym (get_or_read c.self.inside.workers c.args.worker c.at.result.now there c.at.ensures Absent) in
    let waits = c.waits_with.ensures.0 c.if-not-waits_with.false in
    let may = rw (← c.self.view_is) at (sym c.may_expire.ensures ∙ c.if-not-may_expire.false) in
    let allowed : Allows s m.pool c.args.seat c.args.ticket (IdleExit) = (stage-here s m.pool c.args.seat c.args.worker (Waiting c.args.ticket) seat (at ∙ waits), may) in
    let same : moment_in (record c.self.inside { last = c.later-self-inside.result; line = c.remove_take.new.self; workers = c.put.new.self }) ≡ next_moment s m (record { seat = c.args.seat; ticket = c.args.ticket; deed = IdleExit }) = rw (c.later-self-inside.ensures.greater, c.remove_take.ensures.entries, c.put.ensures.stages, ← own) refl in
    record {
      orderly = orderly-at s m (moment_in (record c.self.inside { last = c.later-self-inside.result; line = c.remove_take.new.self; workers = c.put.new.self })) c.args.seat c.args.ticket (IdleExit) well.orderly c.later-self-inside.ensures.limit (λ some. absurd (omega (arith, some))) allowed same;
      order = c.remove_take.ensures.end ∙ well.order;
    }
