-- What stays true from turn to turn of `enter_pairs`, src/openings.rt.
use Rattle.std.proofs.Common.{◌≡◌, ◌++◌, map, take}
use Rattle.meet_sum.proofs.openings.enter_pairs.Given as goal

-- those so far are appended
abbrev pub invariant-loop-pair : goal.invariant-loop-pair
invariant-loop-pair l = l.tickets.items ≡ l.fn.tickets.items ++ map (λ p. p.ticket) (take l.pair-index l.pairs)
