-- Proof of `SeatTable::into_left`, src/seats/table.rt. Takes the table apart, and puts the items that its seats hold
-- behind the others, by rising seat.
use Rattle.std.proofs.Common.{◌≡◌, ◌∙◌, sym, ap, vec_len}
use Rattle.std.specs.List.{cons_option}
use Rattle.std.specs.Vec.Iter.{into_iter_items}
use Rattle.meet_core.specs.Left.{left_at_seats}
use Rattle.meet_line.proofs.Taken.{taken-items, taken-len}
use Rattle.meet_core.proofs.seats.table.SeatTable.into_left.Goals as goal

pub loop-hold-preserved : goal.loop-hold-preserved
loop-hold-preserved g c =
    let was = left_at_seats (into_iter_items c.loop-hold.holds) in
    let rest = left_at_seats (into_iter_items c.next.new.self) in
    let parts : was ≡ cons_option c.of_hold.result rest = ap left_at_seats c.in-Some.ensures.items ∙ ap (λ o. cons_option o rest) (sym c.of_hold.ensures) in
    record {
      items = taken-items c.loop-hold.left.items c.push_left.new.list.items _ was rest c.of_hold.result parts c.push_left.ensures.items c.loop-hold.invariant.items;
      len = taken-len (vec_len c.loop-hold.left) (vec_len c.push_left.new.list) _ was rest c.of_hold.result parts c.push_left.ensures.len c.loop-hold.invariant.len;
      capacity = c.push_left.ensures.capacity ∙ c.loop-hold.invariant.capacity;
    }
