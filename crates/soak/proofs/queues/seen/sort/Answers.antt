-- Proof of `sort`, src/queues/seen.rt. Puts calls in the order in which they began.
use Rattle.std.proofs.Common.{rules}
use Rattle.std.proofs.lemmas.List.Sorted.{IsNonDecreasingBy-from_sort_by_key}
use Rattle.soak.specs.Seen.{begin_of}
use Rattle.soak.proofs.queues.seen.sort.Goals as goal

pub returns-clause-sorted : goal.returns-clause-sorted
returns-clause-sorted c =
    IsNonDecreasingBy-from_sort_by_key begin_of _ c.sort_unstable_by_key.ensures.sorted (λ a r q k. search rules)
