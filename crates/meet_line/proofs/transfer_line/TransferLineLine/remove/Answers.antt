-- Proof of `TransferLine::remove`, src/transfer_line.rt. Removes the node of this ticket, if it is there.
use Rattle.std.proofs.Common.{◌==◌, ◌+◌, ◌∙◌, ap, sym, find, length, option_to_list}
use Rattle.meet_tickets.specs.BySeat.{without_first}
use Rattle.meet_line.specs.Merged.{merged}
use Rattle.meet_line.proofs.MergedLine.{buffered-left, waiting-left}
use Rattle.meet_line.proofs.transfer_line.TransferLineLine.remove.Goals as goal

pub invariant_of-self : goal.invariant_of-self
invariant_of-self g c =
    (waiting-left c.self.inside.seats.entries c.self.inside.ring.entries c.self.inside.ring.room c.self.invariant c.args.ticket c.remove.new.self.entries c.in-Some.entry (sym c.in-Some.is ∙ c.remove.ensures.entry) c.remove.ensures.entries (ap (λ o. length c.remove.new.self.entries + length (option_to_list o)) (sym c.in-Some.is) ∙ c.remove.ensures.count)).kept

pub invariant_of-self-in-None : goal.invariant_of-self-in-None
invariant_of-self-in-None g c =
    (buffered-left c.self.inside.seats.entries c.self.inside.ring.entries c.self.inside.ring.room c.self.invariant c.args.ticket c.remove.new.self.entries c.remove-in-None.new.self.entries c.remove-in-None.new.self.room c.remove-in-None.result (sym c.in-None.is ∙ c.remove.ensures.entry) c.remove.ensures.entries c.remove-in-None.ensures.entry c.remove-in-None.ensures.entries c.remove-in-None.ensures.room).kept

pub returns-in-Some-clause-entry : goal.returns-in-Some-clause-entry
returns-in-Some-clause-entry g c =
    (waiting-left c.self.inside.seats.entries c.self.inside.ring.entries c.self.inside.ring.room c.self.invariant c.args.ticket c.remove.new.self.entries c.in-Some.entry (sym c.in-Some.is ∙ c.remove.ensures.entry) c.remove.ensures.entries (ap (λ o. length c.remove.new.self.entries + length (option_to_list o)) (sym c.in-Some.is) ∙ c.remove.ensures.count)).taken ∙ ap (λ v. find (λ f. f.ticket == c.args.ticket) (merged v.waiting v.buffered)) c.self.view_is

pub returns-in-Some-clause-entries : goal.returns-in-Some-clause-entries
returns-in-Some-clause-entries g c =
    (waiting-left c.self.inside.seats.entries c.self.inside.ring.entries c.self.inside.ring.room c.self.invariant c.args.ticket c.remove.new.self.entries c.in-Some.entry (sym c.in-Some.is ∙ c.remove.ensures.entry) c.remove.ensures.entries (ap (λ o. length c.remove.new.self.entries + length (option_to_list o)) (sym c.in-Some.is) ∙ c.remove.ensures.count)).line ∙ ap (λ v. without_first (λ f. f.ticket == c.args.ticket) (merged v.waiting v.buffered)) c.self.view_is

pub returns-in-None-clause-entry : goal.returns-in-None-clause-entry
returns-in-None-clause-entry g c =
    (buffered-left c.self.inside.seats.entries c.self.inside.ring.entries c.self.inside.ring.room c.self.invariant c.args.ticket c.remove.new.self.entries c.remove-in-None.new.self.entries c.remove-in-None.new.self.room c.remove-in-None.result (sym c.in-None.is ∙ c.remove.ensures.entry) c.remove.ensures.entries c.remove-in-None.ensures.entry c.remove-in-None.ensures.entries c.remove-in-None.ensures.room).taken ∙ ap (λ v. find (λ f. f.ticket == c.args.ticket) (merged v.waiting v.buffered)) c.self.view_is

pub returns-in-None-clause-entries : goal.returns-in-None-clause-entries
returns-in-None-clause-entries g c =
    (buffered-left c.self.inside.seats.entries c.self.inside.ring.entries c.self.inside.ring.room c.self.invariant c.args.ticket c.remove.new.self.entries c.remove-in-None.new.self.entries c.remove-in-None.new.self.room c.remove-in-None.result (sym c.in-None.is ∙ c.remove.ensures.entry) c.remove.ensures.entries c.remove-in-None.ensures.entry c.remove-in-None.ensures.entries c.remove-in-None.ensures.room).line ∙ ap (λ v. without_first (λ f. f.ticket == c.args.ticket) (merged v.waiting v.buffered)) c.self.view_is
