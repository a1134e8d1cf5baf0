-- Proof of `LocalQueue::unused`, src/local_queue/place.rt.
use Rattle.std.proofs.Common.{sym, subst, ◌<◌}
use Rattle.std.proofs.Math.Nat.{le_refl}
use Rattle.meet_core.proofs.Leading.{fresh-leads}
use Rattle.meet_core.proofs.local_queue.place.LocalQueueQueuePlace.unused.Goals as goal

pub returns-clause-history : goal.returns-clause-history
returns-clause-history g c =
    fresh-leads g.T.Marked.mark_of (g.K.Buffers.kind c.in_ok-queue.queue.bound) c.in_ok-queue.queue.queue c.in_ok-queue.ensures.fresh
    c.in_ok-queue.ensures.unused (subst (λ n. 0 < n) (sym c.in_ok-queue.ensures.first) (le_refl 1))
