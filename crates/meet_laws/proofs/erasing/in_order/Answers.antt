-- Proof of `in_order`, src/erasing.rt. These tickets in rising order.
use Rattle.std.proofs.lemmas.List.Sorted.{IsNonDecreasingBy-from_sort}
use Rattle.meet_laws.proofs.erasing.in_order.Goals as goal

pub returns-clause-rising : goal.returns-clause-rising
returns-clause-rising c = IsNonDecreasingBy-from_sort (λ x. x) _ c.sort_unstable.ensures.sorted
