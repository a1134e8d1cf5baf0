-- Proof of `CheckedPool::is_next`, src/checker/pool/callers.rt. Whether this is the least number that no worker has.
use Rattle.std.proofs.Common.{◌≡◌, ◌∙◌, ℕ, Option, Some, None, sym}
use Rattle.pool_history.proofs.checker.pool.CheckedPool.is_next.Goals as goal

pub returns-in-None : goal.returns-in-None
returns-in-None c =
    rw (← c.self.view_is) (
      (λ no. cc),
      (λ some. absurd (let clash : ◌≡◌ {A = Option ℕ} None (Some c.args.worker) = sym c.in-None.is ∙ (c.free.ensures ∙ some) in cc)),
    )
