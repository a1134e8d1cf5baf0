-- What stays true from turn to turn of `destroy_holds`, src/seats/table.rt.
use Rattle.std.proofs.Common.{◌≡◌}
use Rattle.std.specs.Vec.Iter.{into_iter_items, into_iter_len}
use Rattle.meet_tickets.specs.declared.lines.Hold.TheVariants.{Free}
use Rattle.meet_core.specs.Table.{hold_at}
use Rattle.meet_core.proofs.seats.table.destroy_holds.Given as goal

-- the seats that are left hold nothing
abbrev pub invariant-loop-hold : goal.invariant-loop-hold
invariant-loop-hold g l = hold_at (into_iter_items l.holds) ≡ (λ _. Free)

abbrev pub decreases-loop-hold : goal.decreases-loop-hold
decreases-loop-hold g l = into_iter_len l.holds
