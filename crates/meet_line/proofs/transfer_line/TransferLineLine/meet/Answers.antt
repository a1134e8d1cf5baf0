-- Proof of `TransferLine::meet`, src/transfer_line.rt. Removes the node that came first, if there is one.
use Rattle.std.proofs.Common.{◌∙◌, ap, sym}
use Rattle.meet_tickets.specs.declared.places.End.TheVariants.{Front}
use Rattle.meet_tickets.specs.Meeting.{met}
use Rattle.meet_tickets.specs.BySeat.{unmet}
use Rattle.meet_line.specs.Merged.{merged, is_buffered_next}
use Rattle.meet_line.proofs.MergedLine.{buffered-met, waiting-met}
use Rattle.meet_line.proofs.transfer_line.TransferLineLine.meet.Goals as goal

pub invariant_of-self : goal.invariant_of-self
invariant_of-self g c =
    (buffered-met c.self.inside.seats.entries c.self.inside.ring.entries c.self.inside.ring.room c.self.invariant c.meet.new.self.entries c.meet.new.self.room c.meet.result (ap (λ v. is_buffered_next v.waiting v.buffered) c.self.view_is ∙ sym c.if-is_buffered_next.ensures) c.meet.ensures.entry c.meet.ensures.entries c.meet.ensures.room).kept

pub invariant_of-self-else-is_buffered_next : goal.invariant_of-self-else-is_buffered_next
invariant_of-self-else-is_buffered_next g c =
    (waiting-met c.self.inside.seats.entries c.self.inside.ring.entries c.self.inside.ring.room c.self.invariant c.meet_first.new.self.entries c.meet_first.result (ap (λ v. is_buffered_next v.waiting v.buffered) c.self.view_is ∙ sym c.if-is_buffered_next.ensures) c.meet_first.ensures.entry c.meet_first.ensures.entries c.meet_first.ensures.count).kept

pub returns-then-is_buffered_next-clause-entry : goal.returns-then-is_buffered_next-clause-entry
returns-then-is_buffered_next-clause-entry g c =
    (buffered-met c.self.inside.seats.entries c.self.inside.ring.entries c.self.inside.ring.room c.self.invariant c.meet.new.self.entries c.meet.new.self.room c.meet.result (ap (λ v. is_buffered_next v.waiting v.buffered) c.self.view_is ∙ sym c.if-is_buffered_next.ensures) c.meet.ensures.entry c.meet.ensures.entries c.meet.ensures.room).taken ∙ ap (λ v. met Front (merged v.waiting v.buffered)) c.self.view_is

pub returns-then-is_buffered_next-clause-entries : goal.returns-then-is_buffered_next-clause-entries
returns-then-is_buffered_next-clause-entries g c =
    (buffered-met c.self.inside.seats.entries c.self.inside.ring.entries c.self.inside.ring.room c.self.invariant c.meet.new.self.entries c.meet.new.self.room c.meet.result (ap (λ v. is_buffered_next v.waiting v.buffered) c.self.view_is ∙ sym c.if-is_buffered_next.ensures) c.meet.ensures.entry c.meet.ensures.entries c.meet.ensures.room).line ∙ ap (λ v. unmet Front (merged v.waiting v.buffered)) c.self.view_is

pub returns-else-is_buffered_next-clause-entry : goal.returns-else-is_buffered_next-clause-entry
returns-else-is_buffered_next-clause-entry g c =
    (waiting-met c.self.inside.seats.entries c.self.inside.ring.entries c.self.inside.ring.room c.self.invariant c.meet_first.new.self.entries c.meet_first.result (ap (λ v. is_buffered_next v.waiting v.buffered) c.self.view_is ∙ sym c.if-is_buffered_next.ensures) c.meet_first.ensures.entry c.meet_first.ensures.entries c.meet_first.ensures.count).taken ∙ ap (λ v. met Front (merged v.waiting v.buffered)) c.self.view_is

pub returns-else-is_buffered_next-clause-entries : goal.returns-else-is_buffered_next-clause-entries
returns-else-is_buffered_next-clause-entries g c =
    (waiting-met c.self.inside.seats.entries c.self.inside.ring.entries c.self.inside.ring.room c.self.invariant c.meet_first.new.self.entries c.meet_first.result (ap (λ v. is_buffered_next v.waiting v.buffered) c.self.view_is ∙ sym c.if-is_buffered_next.ensures) c.meet_first.ensures.entry c.meet_first.ensures.entries c.meet_first.ensures.count).line ∙ ap (λ v. unmet Front (merged v.waiting v.buffered)) c.self.view_is
