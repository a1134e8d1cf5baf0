-- Proof of `ready`, src/calls.rt.
use Rattle.std.proofs.Common.{◌≡◌, false, sym, subst, arith, rules}
use Rattle.meet_place.specs.Tending.{is_to_look}
use Rattle.meet_tasks.specs.Handles.{Readies, is_time}
use Rattle.meet_tasks.proofs.Readied.{readied}
use Rattle.meet_tasks.proofs.calls.ready.Goals as goal

pub returns : goal.returns
returns g c =
    let cap = g.N.Ledgers.cap in let seats = g.N.Ledger.parts in let seat = c.args.seat in let after = c.tend-seat.result.0 in
    let off : c.args.keeps_log ≡ false = search (rules, arith) in
    let tended : Readies (is_time cap seats false seat) seat after = readied c.tend-seat.result.1 (is_to_look cap seats seat) seat after
    c.tend-seat.ensures.idle c.tend-seat.ensures.looked c.tend-seat.ensures.trimmed in
    subst (λ keeps_log. Readies (is_time cap seats keeps_log seat) seat after) (sym off) tended
