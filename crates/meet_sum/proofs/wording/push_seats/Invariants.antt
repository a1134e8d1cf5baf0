-- What stays true from turn to turn of `push_seats`, src/wording.rt.
use Rattle.std.proofs.Common.{◌≡◌, ◌++◌, take}
use Rattle.meet_sum.specs.SumTexts.{seats_text}
use Rattle.meet_sum.proofs.wording.push_seats.Given as goal

-- the seats so far are told
abbrev pub invariant-loop-seat : goal.invariant-loop-seat
invariant-loop-seat l = l.out.items ≡ l.fn.out.items ++ seats_text 0 (take l.seat l.sums)
