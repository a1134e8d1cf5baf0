-- What stays true from turn to turn of `is_in_cut`, src/fates.rt.
use Rattle.std.proofs.Common.{◌≡◌, ◌==◌, take, map}
use Rattle.std.specs.List.{list_any}
use Rattle.meet_laws.proofs.fates.is_in_cut.Given as goal

-- whether one so far has this ticket
abbrev pub invariant-loop-one : goal.invariant-loop-one
invariant-loop-one l = l.found ≡ list_any (λ u. u == l.ticket) (map (λ c. c.ticket) (take l.one-index l.cut))
