-- What stays true from turn to turn of `is_in_line`, src/fates.rt.
use Rattle.std.proofs.Common.{◌≡◌, ◌==◌, take, map}
use Rattle.std.specs.List.{list_any}
use Rattle.meet_laws.proofs.fates.is_in_line.Given as goal

-- whether one so far has this ticket
abbrev pub invariant-loop-entry : goal.invariant-loop-entry
invariant-loop-entry l = l.found ≡ list_any (λ u. u == l.ticket) (map (λ e. e.ticket) (take l.entry-index l.line))
