-- Proof of `count`, src/seats.rt. Counts a record more of its seat.
use Rattle.std.proofs.Common.{◌≡◌, ◌+◌, ◌∙◌, ap, arith, true, if◌then◌else◌}
use Rattle.meet_sum.proofs.SeatLemmas.{counted, few-records}
use Rattle.meet_sum.proofs.seats.count.Goals as goal

pub returns-clause-told : goal.returns-clause-told
returns-clause-told c = λ before records opened all stories short has.
    let old = c.sum_at-old.result in
    let few = few-records before records opened all stories c.args.sums.now.items c.args.entry.now.seat old c.sum_at-old.ensures.in_range has c.sum_at-old.ensures.sum in
    let own : c.plus.result ≡ old.records + 1 = c.plus.ensures (omega (arith, few.0)) in
    let asks = c.plus-2.ensures (omega (arith, few.1)) ∙ ap (λ b. old.requests + (if b then 1 else 0)) c.is_request.ensures in
    counted before records opened all stories c.args.entry.now c.args.sums.now.items _ old _ c.sum_at-old.ensures.in_range has c.sum_at-old.ensures.sum c.put_sum.ensures
    (λ i. record { present = true; records = own i; requests = asks i; wait = old.wait })
