-- Proof of `Meetings::interrupt`, src/meetings/endings.rt. `Thread.interrupt` of the target: its ticket is cut where it
-- stands in the line, and awaits its follow-up; else the target is flagged.
use Rattle.std.proofs.Common.{◌≡◌, ◌≢◌, ℕ, sym, refl, subst, arith}
use Rattle.meet_tickets.specs.declared.lines.Hold.TheVariants.{Free, Waiting}
use Rattle.meet_core.specs.Table.{hold_at, HasNoItem}
use Rattle.meet_tickets.specs.BySeat.{withdrawn}
use Rattle.meet_core.specs.Queue.{Queue, seats_of}
use Rattle.meet_core.specs.Steps.{Leaves}
use Rattle.meet_core.proofs.Moves.{free-withdrawn, Leaves-cut}
use Rattle.meet_line.proofs.Sound.{IsSound-settled, IsApart-ticket}
use Rattle.meet_core.proofs.meetings.Meetings.interrupt.Goals as goal

pub put-requires-clause-no_item : goal.put-requires-clause-no_item
put-requires-clause-no_item g c =
    let free : hold_at c.self-2.inside.seats.holds c.args.target ≡ Free = rw (← c.self-2.view_is) at (free-withdrawn _ _ _ _ c.in-Some.ensures.leaves) in
    subst HasNoItem (sym free) tt

pub invariant_of-self : goal.invariant_of-self
invariant_of-self g c =
    let free : hold_at c.self-2.inside.seats.holds c.args.target ≡ Free = rw (← c.self-2.view_is) at (free-withdrawn _ _ _ _ c.in-Some.ensures.leaves) in
    let away : (ticket : ℕ) → hold_at c.self-2.inside.seats.holds c.args.target ≢ Waiting ticket = λ ticket waits. cc in (
      rw c.put.ensures.holds (IsSound-settled c.args.target _ c.self-2.invariant.0 away (IsApart-ticket _ _ c.in-Some.entry.ticket _ refl (rw (← c.self-2.view_is) at c.in-Some.ensures.apart) (rw (← c.self-2.view_is) at c.in-Some.ensures.used))),
      c.self-2.invariant.1,
      c.self-2.invariant.2,
      c.self-2.invariant.3,
      omega (arith, c.self-2.invariant.4, c.put.ensures.count),
    )

pub returns-in-Some-clause-step : goal.returns-in-Some-clause-step
returns-in-Some-clause-step g c =
    let mid : Queue g.row.T.Denot = record { line = g.L.Line.entries c.self-2.inside.line; room = g.L.Line.spare c.self-2.inside.line; table = c.self-2.inside.seats; last = c.self-2.inside.last; next = c.self-2.inside.next } in
    let e = c.in-Some.entry in
    let leaves : Leaves c.args.self.now mid (withdrawn (seats_of c.args.self.now) c.args.target e.ticket) = rw (← c.self-2.view_is) at c.in-Some.ensures.leaves in (
      e,
      sym c.in-Some.ensures.entry,
      refl,
      Leaves-cut c.args.self.now mid _ c.args.target e leaves refl (record { holds = c.put.ensures.holds; count = c.put.ensures.count; flags = c.put.ensures.flags; last = refl; next = refl }),
    )
