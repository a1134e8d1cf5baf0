-- Proof of `CheckedPool::shuts_now`, src/checker/pool/callers.rt. The pool is shut, and its kept jobs come back.
use Rattle.std.proofs.Common.{◌≡◌, ◌∙◌, ◌+◌, true, sym, refl, arith}
use Rattle.pool_core.specs.Histories.{next_moment}
use Rattle.pool_core.specs.Steps.{Allows}
use Rattle.pool_core.specs.declared.deeds.PoolDeed.TheVariants.{ShutDownNow}
use Rattle.pool_history.specs.Inside.{moment_in}
use Rattle.pool_history.proofs.Taken.{orderly-at}
use Rattle.pool_history.proofs.checker.pool.CheckedPool.shuts_now.Goals as goal

pub invariant_of-self : goal.invariant_of-self
invariant_of-self c =
    let well = c.self.invariant in
    let s = c.self.inside.settings in
    let m = moment_in c.self.inside in
    let caller = rw (← c.self.view_is) at c.requires.caller in
    let kept : c.args.count ≡ c.kept.result = search in
    let allowed : Allows s m.pool c.args.seat c.args.ticket (ShutDownNow c.args.count) = (caller, sym c.number.ensures.value ∙ c.if-number-ne0.false, kept ∙ c.kept.ensures) in
    let same : moment_in (record c.self.inside { last = c.later-self-inside.result; shut = true; line = c.new.result; workers = c.cut_all.new.workers; back = c.self.inside.back + c.args.count }) ≡ next_moment s m (record { seat = c.args.seat; ticket = c.args.ticket; deed = ShutDownNow c.args.count }) = rw (c.later-self-inside.ensures.greater, c.new.ensures.entries, c.cut_all.ensures) refl in
    record {
      orderly = orderly-at s m (moment_in (record c.self.inside { last = c.later-self-inside.result; shut = true; line = c.new.result; workers = c.cut_all.new.workers; back = c.self.inside.back + c.args.count })) c.args.seat c.args.ticket (ShutDownNow c.args.count) well.orderly c.later-self-inside.ensures.limit (λ some. absurd (omega (arith, some))) allowed same;
      order = c.new.ensures.end ∙ c.end.ensures;
    }
