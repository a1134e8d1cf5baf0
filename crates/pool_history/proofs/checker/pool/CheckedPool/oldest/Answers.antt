-- Proof of `CheckedPool::oldest`, src/checker/pool.rt. The kept job that came first.
use Rattle.std.proofs.Common.{◌∙◌, ◌+◌, sym}
use Rattle.pool_history.specs.Inside.{moment_in}
use Rattle.pool_history.proofs.Taken.{oldest-unless}
use Rattle.pool_history.proofs.checker.pool.CheckedPool.oldest.Goals as goal

pub returns-in_err-entry : goal.returns-in_err-entry
returns-in_err-entry c =
    let m = moment_in c.self.inside in
    rw (← c.self.view_is) (c.from_residual.ensures ∙ sym (oldest-unless c.self.inside.settings m.pool (m.last + 1) c.self.invariant.orderly.sound (λ front. sym (c.in_err-entry.ensures.front (c.self.invariant.order ∙ front)))))
