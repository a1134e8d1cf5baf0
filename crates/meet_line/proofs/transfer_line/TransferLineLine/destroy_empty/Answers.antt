-- Proof of `TransferLine::destroy_empty`, src/transfer_line.rt. Drops an empty wait queue, even if its items can't be dropped.
use Rattle.std.proofs.Common.{◌≡◌, ◌∙◌, ap, []}
use Rattle.meet_line.specs.Merged.{merged}
use Rattle.meet_line.proofs.MergedLine.{both-empty}
use Rattle.meet_line.proofs.transfer_line.TransferLineLine.destroy_empty.Goals as goal

pub destroy_empty-requires : goal.destroy_empty-requires
destroy_empty-requires g c =
    let none : merged c.self.inside.seats.entries c.self.inside.ring.entries ≡ [] = ap (λ v. merged v.waiting v.buffered) c.self.view_is ∙ c.requires in
    (both-empty c.self.inside.seats.entries c.self.inside.ring.entries c.self.inside.ring.room c.self.invariant none).0

pub destroy_empty-requires-2 : goal.destroy_empty-requires-2
destroy_empty-requires-2 g c =
    let none : merged c.self.inside.seats.entries c.self.inside.ring.entries ≡ [] = ap (λ v. merged v.waiting v.buffered) c.self.view_is ∙ c.requires in
    (both-empty c.self.inside.seats.entries c.self.inside.ring.entries c.self.inside.ring.room c.self.invariant none).1
