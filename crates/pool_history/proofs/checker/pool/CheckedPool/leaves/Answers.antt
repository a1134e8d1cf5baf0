-- Proof of `CheckedPool::leaves`, src/checker/pool/workers.rt. The worker, which starts without a job, ends.
use Rattle.std.proofs.Common.{◌≡◌, ◌∙◌, ◌-◌, sym, refl, None, arith}
use Rattle.pool_core.proofs.Working.{jobless-from}
use Rattle.pool_core.specs.Histories.{next_moment}
use Rattle.pool_core.specs.Steps.{Allows}
use Rattle.pool_core.specs.declared.deeds.PoolDeed.TheVariants.{Leaves}
use Rattle.pool_core.specs.declared.stages.Stage.TheVariants.{Absent, Starting}
use Rattle.std.proofs.lemmas.List.{get_or_read}
use Rattle.pool_history.specs.Inside.{moment_in}
use Rattle.pool_history.proofs.Taken.{orderly-at, stage-here}
use Rattle.pool_history.proofs.checker.pool.CheckedPool.leaves.Goals as goal

pub invariant_of-self : goal.invariant_of-self
invariant_of-self c =
    let well = c.self.invariant in
    let s = c.self.inside.settings in
    let m = moment_in c.self.inside in
    let seat = rw (← c.self.view_is) at c.requires.worker in
    let there = rw (← c.self.view_is) at c.requires.there in
    let own : c.args.seat - c.self.inside.settings.sizes.callers ≡ c.args.worker = omega (arith, seat) in
    let at = sym (get_or_read c.self.inside.workers c.args.worker c.at.result.now there c.at.ensures Absent) in
    let jobless : c.at.result.now ≡ Starting None = jobless-from c.at.result.now (sym c.is_jobless.ensures ∙ c.if-not-is_jobless.false) in
    let allowed : Allows s m.pool c.args.seat c.args.ticket (Leaves) = (stage-here s m.pool c.args.seat c.args.worker (Starting None) seat (at ∙ jobless), sym c.number.ensures.value ∙ c.if-number-ne0.false) in
    let same : moment_in (record c.self.inside { last = c.later-self-inside.result; workers = c.put.new.self }) ≡ next_moment s m (record { seat = c.args.seat; ticket = c.args.ticket; deed = Leaves }) = rw (c.later-self-inside.ensures.greater, c.put.ensures.stages, ← own) refl in
    record {
      orderly = orderly-at s m (moment_in (record c.self.inside { last = c.later-self-inside.result; workers = c.put.new.self })) c.args.seat c.args.ticket (Leaves) well.orderly c.later-self-inside.ensures.limit (λ some. absurd (omega (arith, some))) allowed same;
      order = well.order;
    }
