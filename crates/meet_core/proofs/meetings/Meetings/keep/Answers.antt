-- Proof of `Meetings::keep`, src/meetings/moves.rt. The giver's item goes to the line's end and is kept there; its seat
-- has nothing open.
use Rattle.std.proofs.Common.{◌+◌, ◌<◌, ◌∙◌, sym, refl, ap, arith}
use Rattle.meet_tickets.specs.Meeting.{kept_count}
use Rattle.meet_tickets.proofs.Line.Counted.{giver-joins}
use Rattle.meet_tickets.proofs.Line.Keeping.{kept-more}
use Rattle.meet_line.proofs.Sound.{IsSound-kept}
use Rattle.meet_core.proofs.meetings.Meetings.keep.Goals as goal

pub push_back-requires-clause-fits : goal.push_back-requires-clause-fits
push_back-requires-clause-fits g c = c.requires.buffers _ _ _ refl (rw (← c.self.view_is) at c.requires.new)

pub invariant_of-self : goal.invariant_of-self
invariant_of-self g c =
    let few : kept_count (g.L.Line.entries c.self.inside.line) + 1 < c.self.inside.next = rw (← c.self.view_is) at c.requires.countable in (
      rw c.push_back.ensures.entries (IsSound-kept g.L.Line.end c.args.seat c.args.ticket c.args.item c.self.invariant.0
          (rw (← c.self.view_is) at c.requires.unopened)
          (rw (← c.self.view_is) at c.requires.new)
          (rw (← c.self.view_is) at c.requires.used)
          (rw (← c.self.view_is) at c.requires.alone)),
      ap (λ n. n + 1) c.self.invariant.1 ∙ sym (kept-more _ _ _ c.push_back.ensures.entries refl),
      omega (arith, few, c.self.invariant.1),
      omega (arith, c.self.invariant.3, giver-joins _ _ _ c.push_back.ensures.entries),
      omega (arith, c.self.invariant.4, c.push_back.ensures.width),
    )
