-- Proof of `Meetings::follow_up`, src/meetings/endings.rt. The follow-up of the seat's open ticket.
use Rattle.std.proofs.Common.{◌≡◌, ◌∙◌, sym, ap, true, arith}
use Rattle.meet_tickets.specs.BySeat.{is_settled}
use Rattle.meet_core.specs.Table.{hold_at}
use Rattle.meet_core.proofs.Following.{not_waiting}
use Rattle.meet_line.proofs.Sound.{IsSound-settled, IsApart-free}
use Rattle.meet_core.proofs.meetings.Meetings.follow_up.Goals as goal

pub free_up-requires-clause-settled : goal.free_up-requires-clause-settled
free_up-requires-clause-settled g c = ap is_settled (sym c.hold.ensures) ∙ sym c.if-not-is_settled.ensures

pub invariant_of-self : goal.invariant_of-self
invariant_of-self g c =
    let settled : is_settled (hold_at c.self.inside.seats.holds c.args.seat) ≡ true = ap is_settled (sym c.hold.ensures) ∙ sym c.if-not-is_settled.ensures in (
      rw c.free_up.ensures.holds (IsSound-settled c.args.seat _ c.self.invariant.0 (λ ticket. not_waiting _ ticket settled) (IsApart-free _ _)),
      c.self.invariant.1,
      c.self.invariant.2,
      c.self.invariant.3,
      omega (arith, c.self.invariant.4, c.free_up.ensures.count),
    )
