-- Proof of `seats_in`, src/seats.rt. What each seat did by the records that open a base and those since, from seat 0
-- on: all but how long its tickets stood in the line.
use Rattle.std.proofs.Common.{refl}
use Rattle.meet_sum.proofs.SeatLemmas.{seats-none}
use Rattle.meet_sum.proofs.seats.seats_in.Goals as goal

pub returns-clause-told : goal.returns-clause-told
returns-clause-told c = λ opened all.
    c.count_all.ensures.counted c.args.before.now opened all
    (c.enter_all.ensures.noted opened all
    (seats-none opened all _ c.in_ok-sums.sums.items (c.in_ok-sums.ensures.items_if_clones_equal (λ y same. same)) refl))
