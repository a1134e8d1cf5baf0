-- Proof of `TransferLine::entry_at`, src/transfer_line.rt. Returns the node of this ticket; one that waits is looked for at this
-- seat first.
use Rattle.std.proofs.Common.{◌≡◌, ◌==◌, ◌∙◌, ap, sym, Some, None, find, option_map}
use Rattle.meet_line.specs.Merged.{merged}
use Rattle.meet_line.proofs.MergedOut.{found-waiting, found-buffered}
use Rattle.meet_line.proofs.transfer_line.TransferLineLine.entry_at.Goals as goal

pub returns-in-Some : goal.returns-in-Some
returns-in-Some g c =
    let found : Some c.in-Some.entry.now ≡ find (λ e. e.ticket == c.args.ticket) c.self.inside.seats.entries = ap (option_map (λ e. e.now)) (sym c.in-Some.is) ∙ c.entry_at.ensures in
    sym (found-waiting c.args.ticket c.self.inside.seats.entries c.self.inside.ring.entries c.in-Some.entry.now c.self.invariant.rises (sym found)).0 ∙ ap (λ v. find (λ e. e.ticket == c.args.ticket) (merged v.waiting v.buffered)) c.self.view_is

pub returns-in-None : goal.returns-in-None
returns-in-None g c =
    let none : None ≡ find (λ e. e.ticket == c.args.ticket) c.self.inside.seats.entries = ap (option_map (λ e. e.now)) (sym c.in-None.is) ∙ c.entry_at.ensures in
    c.entry_at-in-None.ensures ∙ sym (found-buffered c.args.ticket c.self.inside.seats.entries c.self.inside.ring.entries c.self.invariant.rises (sym none)).0 ∙ ap (λ v. find (λ e. e.ticket == c.args.ticket) (merged v.waiting v.buffered)) c.self.view_is
