-- What stays true from turn to turn of `push_pairs`, src/openings.rt.
use Rattle.std.proofs.Common.{◌≡◌, ◌++◌, take}
use Rattle.std.specs.List.{flat_map}
use Rattle.meet_tickets.specs.Fates.{pair_records}
use Rattle.meet_sum.proofs.openings.push_pairs.Given as goal

-- those so far are appended
abbrev pub invariant-loop-pair : goal.invariant-loop-pair
invariant-loop-pair l = l.out.items ≡ l.fn.out.items ++ flat_map pair_records (take l.pair-index l.pairs)
