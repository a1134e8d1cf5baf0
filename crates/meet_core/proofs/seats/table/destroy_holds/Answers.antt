-- Proof of `destroy_holds`, src/seats/table.rt. Lets go what seats hold, where it is nothing.
use Rattle.std.proofs.Common.{◌≡◌, ◌∙◌, sym, ap, subst}
use Rattle.std.specs.Vec.Iter.{into_iter_items}
use Rattle.meet_tickets.specs.declared.lines.Hold.TheVariants.{Free}
use Rattle.meet_core.specs.Table.{hold_at, HasNoItem}
use Rattle.meet_core.proofs.Counts.{hold_at-none_first, hold_at-none_later}
use Rattle.meet_core.proofs.seats.table.destroy_holds.Goals as goal

pub loop-hold-preserved : goal.loop-hold-preserved
loop-hold-preserved g c =
    hold_at-none_later c.in-Some.hold (into_iter_items c.next.new.self) (ap hold_at (sym c.in-Some.ensures.items) ∙ c.loop-hold.invariant)

pub let_go_hold-requires : goal.let_go_hold-requires
let_go_hold-requires g c =
    let free : c.in-Some.hold ≡ Free = hold_at-none_first c.in-Some.hold (into_iter_items c.next.new.self) (ap hold_at (sym c.in-Some.ensures.items) ∙ c.loop-hold.invariant) in
    subst HasNoItem (sym free) tt
