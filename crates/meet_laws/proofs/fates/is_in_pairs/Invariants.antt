-- What stays true from turn to turn of `is_in_pairs`, src/fates.rt.
use Rattle.std.proofs.Common.{◌≡◌, ◌==◌, take, map}
use Rattle.std.specs.List.{list_any}
use Rattle.meet_laws.proofs.fates.is_in_pairs.Given as goal

-- whether one so far has this ticket
abbrev pub invariant-loop-pair : goal.invariant-loop-pair
invariant-loop-pair l = l.found ≡ list_any (λ u. u == l.ticket) (map (λ p. p.ticket) (take l.pair-index l.pairs))
