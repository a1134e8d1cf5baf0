-- Proof of `Meetings::wait`, src/meetings/moves.rt. The seat's new ticket goes to the line's end.
use Rattle.std.proofs.Common.{◌<◌, ◌∙◌, length, sym, refl, arith}
use Rattle.meet_tickets.proofs.Line.Counted.{giver-joins}
use Rattle.meet_tickets.proofs.Line.Keeping.{kept-joined}
use Rattle.meet_line.proofs.Sound.{IsSound-queued, seat-free}
use Rattle.meet_core.proofs.meetings.Meetings.wait.Goals as goal

pub push_back-requires-clause-fits : goal.push_back-requires-clause-fits
push_back-requires-clause-fits g c =
    let seat : c.args.seat < length c.self.inside.seats.holds = rw (← c.self.view_is) at c.requires.seat in
    g.met.L.Line.seated _ _ _ refl (omega (arith, seat, c.self.invariant.4)) (seat-free c.args.seat c.self.invariant.0 (rw (← c.self.view_is) at c.requires.free)) (rw (← c.self.view_is) at c.requires.new)

pub invariant_of-self : goal.invariant_of-self
invariant_of-self g c = (
  rw (c.push_back.ensures.entries, c.enter.ensures.holds) (IsSound-queued g.L.Line.end c.args.seat c.args.ticket c.args.item c.self.invariant.0
      (rw (← c.self.view_is) at c.requires.free)
      (rw (← c.self.view_is) at c.requires.new)
      (rw (← c.self.view_is) at c.requires.used)
      (rw (← c.self.view_is) at c.requires.alone)),
  c.self.invariant.1 ∙ sym (kept-joined _ _ _ c.push_back.ensures.entries refl),
  c.self.invariant.2,
  omega (arith, c.self.invariant.3, giver-joins _ _ _ c.push_back.ensures.entries),
  omega (arith, c.self.invariant.4, c.push_back.ensures.width, c.enter.ensures.count),
)

pub returns-clause-kept : goal.returns-clause-kept
returns-clause-kept g c = rw (← c.self.view_is) (kept-joined _ _ _ c.push_back.ensures.entries refl)
