-- Proof of `CheckedPool::shuts`, src/checker/pool/callers.rt. The pool is shut.
use Rattle.std.proofs.Common.{◌≡◌, ◌∙◌, true, sym, refl, arith}
use Rattle.meet_line.proofs.Sound.{HasOneSide-sound}
use Rattle.pool_core.specs.Histories.{next_moment}
use Rattle.pool_core.specs.Steps.{Allows}
use Rattle.pool_core.specs.declared.deeds.PoolDeed.TheVariants.{ShutDown}
use Rattle.pool_history.specs.Inside.{moment_in}
use Rattle.pool_history.proofs.Taken.{orderly-at}
use Rattle.pool_history.proofs.checker.pool.CheckedPool.shuts.Goals as goal

pub drop_takes-requires : goal.drop_takes-requires
drop_takes-requires c = HasOneSide-sound c.self.invariant.orderly.sound.lined

pub invariant_of-self : goal.invariant_of-self
invariant_of-self c =
    let well = c.self.invariant in
    let s = c.self.inside.settings in
    let m = moment_in c.self.inside in
    let caller = rw (← c.self.view_is) at c.requires.caller in
    let allowed : Allows s m.pool c.args.seat c.args.ticket (ShutDown) = (caller, sym c.number.ensures.value ∙ c.if-number-ne0.false) in
    let same : moment_in (record c.self.inside { last = c.later-self-inside.result; shut = true; line = c.drop_takes.new.self; workers = c.cut_all.new.workers }) ≡ next_moment s m (record { seat = c.args.seat; ticket = c.args.ticket; deed = ShutDown }) = rw (c.later-self-inside.ensures.greater, c.drop_takes.ensures.entries, c.cut_all.ensures) refl in
    record {
      orderly = orderly-at s m (moment_in (record c.self.inside { last = c.later-self-inside.result; shut = true; line = c.drop_takes.new.self; workers = c.cut_all.new.workers })) c.args.seat c.args.ticket (ShutDown) well.orderly c.later-self-inside.ensures.limit (λ some. absurd (omega (arith, some))) allowed same;
      order = c.drop_takes.ensures.end ∙ well.order;
    }
