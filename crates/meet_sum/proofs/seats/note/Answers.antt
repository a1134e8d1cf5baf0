-- Proof of `note`, src/seats.rt. Notes how long the ticket of a story stood in the line, at its seat.
use Rattle.std.proofs.Common.{◌∙◌, ap}
use Rattle.meet_sum.specs.Seats.{greater}
use Rattle.meet_sum.proofs.SeatLemmas.{noted}
use Rattle.meet_sum.proofs.seats.note.Goals as goal

pub returns-in-Some-clause-told : goal.returns-in-Some-clause-told
returns-in-Some-clause-told c = λ before records stories has.
    let old = c.sum_at-old.result in
    noted before records c.args.opened c.args.all stories c.args.story.now c.in-Some.asked c.args.sums.now.items _ old _ c.in-Some.is c.sum_at-old.ensures.in_range has c.sum_at-old.ensures.sum c.put_sum.ensures
    (λ i. record old { wait = (c.greater.ensures ∙ ap (greater old.wait) c.stay-here.ensures) i })
