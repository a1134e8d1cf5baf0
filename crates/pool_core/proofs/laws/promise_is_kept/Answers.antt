-- Proof of `promise_is_kept`, src/laws.rt. Each job and each take of a worker is met at most once.
use Rattle.pool_core.proofs.JobsOnce.{jobs-once}
use Rattle.pool_core.proofs.Partners.{partners-meet}
use Rattle.pool_core.proofs.TakesOnce.{takes-once, withdrawn-none}
use Rattle.pool_core.proofs.laws.promise_is_kept.Goals as goal

pub returns-clause-jobs : goal.returns-clause-jobs
returns-clause-jobs c = λ s b records formed legal. jobs-once s b records formed legal

pub returns-clause-takes : goal.returns-clause-takes
returns-clause-takes c = λ s b records formed legal. takes-once s b records formed legal

pub returns-clause-partners : goal.returns-clause-partners
returns-clause-partners c = λ s b records formed legal. partners-meet s b records formed legal

pub returns-clause-withdrawn : goal.returns-clause-withdrawn
returns-clause-withdrawn c = λ s b records formed legal. withdrawn-none s b records formed legal
