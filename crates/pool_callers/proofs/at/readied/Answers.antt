-- Proof of `readied`, src/at.rt.
use Rattle.std.proofs.Common.{◌≡◌, false, sym, subst, arith, rules}
use Rattle.meet_place.specs.Tending.{is_to_look}
use Rattle.meet_tickets.specs.Limits.{most_records}
use Rattle.pool_callers.specs.Handles.{Readies, is_time}
use Rattle.pool_callers.proofs.Readied.{readied, same_number}
use Rattle.pool_callers.proofs.at.readied.Goals as goal

pub returns-clause-ready : goal.returns-clause-ready
returns-clause-ready g c =
    let seats = g.N.Ledger.parts in let seat = c.args.seat in let after = c.tended-seat.result.0 in
    let off : c.args.keeps_log ≡ false = search (rules, arith) in
    let tended : Readies (is_time seats false seat) seat after = readied c.tended-seat.result.1 (is_to_look most_records seats seat) seat after
    c.tended-seat.ensures.idle c.tended-seat.ensures.looked c.tended-seat.ensures.trimmed in
    subst (λ keeps_log. Readies (is_time seats keeps_log seat) seat after) (sym off) tended

pub returns-clause-number : goal.returns-clause-number
returns-clause-number g c =
    let look = is_to_look most_records g.N.Ledger.parts c.args.seat in
    same_number look c.args.seat c.tended-seat.result.0 (readied c.tended-seat.result.1 look c.args.seat c.tended-seat.result.0
    c.tended-seat.ensures.idle c.tended-seat.ensures.looked c.tended-seat.ensures.trimmed)
