-- Proof of `enter`, src/seats.rt. Notes that a seat has a record that opens a base.
use Rattle.meet_sum.proofs.SeatLemmas.{entered}
use Rattle.std.proofs.Common.{[], refl}
use Rattle.meet_sum.proofs.seats.enter.Goals as goal

pub returns-clause-told : goal.returns-clause-told
returns-clause-told c = λ before opened all stories has.
    entered before [] opened all stories c.args.entry.now c.args.sums.now.items _ c.sum_at-old.result _ c.sum_at-old.ensures.in_range has c.sum_at-old.ensures.sum c.put_sum.ensures refl
