-- Proof of `TransferLine::first`, src/transfer_line.rt. Returns the node that came first, if there is one.
use Rattle.std.proofs.Common.{◌∙◌, ap, sym, subst}
use Rattle.std.specs.Slice.{IsItemAt}
use Rattle.meet_line.specs.Merged.{merged, is_buffered_next}
use Rattle.meet_line.proofs.MergedLine.{item-waiting, item-buffered}
use Rattle.meet_line.proofs.transfer_line.TransferLineLine.first.Goals as goal

pub returns-then-is_buffered_next : goal.returns-then-is_buffered_next
returns-then-is_buffered_next g c =
    subst (λ v. IsItemAt (merged v.waiting v.buffered) 0 c.first.result) c.self.view_is (item-buffered c.self.inside.seats.entries c.self.inside.ring.entries c.self.inside.ring.room c.self.invariant c.first.result (ap (λ v. is_buffered_next v.waiting v.buffered) c.self.view_is ∙ sym c.if-is_buffered_next.ensures) c.first.ensures)

pub returns-else-is_buffered_next : goal.returns-else-is_buffered_next
returns-else-is_buffered_next g c =
    subst (λ v. IsItemAt (merged v.waiting v.buffered) 0 c.first-else-is_buffered_next.result) c.self.view_is (item-waiting c.self.inside.seats.entries c.self.inside.ring.entries c.self.inside.ring.room c.self.invariant c.first-else-is_buffered_next.result (ap (λ v. is_buffered_next v.waiting v.buffered) c.self.view_is ∙ sym c.if-is_buffered_next.ensures) c.first-else-is_buffered_next.ensures)
