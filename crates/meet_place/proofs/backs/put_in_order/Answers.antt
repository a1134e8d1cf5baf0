-- Proof of `put_in_order`, src/backs.rt. Puts the seats into the order of their numbers.
use Rattle.std.proofs.Common.{rules}
use Rattle.std.proofs.lemmas.List.Sorted.{IsNonDecreasingBy-from_sort_by_key}
use Rattle.meet_place.specs.Backs.{number_of}
use Rattle.meet_place.proofs.backs.put_in_order.Goals as goal

pub returns-clause-ordered : goal.returns-clause-ordered
returns-clause-ordered g c =
    let sort = c.sort_unstable_by_key in
    record {
      same = sort.ensures.permutation;
      rising = IsNonDecreasingBy-from_sort_by_key number_of _ sort.ensures.sorted (λ a r q k. search rules);
    }
