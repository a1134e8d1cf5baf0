-- Proof of `Meetings::withdraw`, src/meetings/moves.rt. Takes what stands in the line for this seat out of it, and ends
-- its ticket.
use Rattle.std.proofs.Common.{◌≡◌, ◌-◌, ◌∙◌, ◌==◌, sym, ap, refl, true, arith}
use Rattle.meet_tickets.specs.declared.lines.Hold.TheVariants.{Free}
use Rattle.meet_tickets.specs.declared.places.Side.TheVariants.{Giver}
use Rattle.meet_tickets.specs.Meeting.{kept_count, count_on}
use Rattle.meet_tickets.proofs.Line.Counted.{giver-removed}
use Rattle.meet_tickets.proofs.Line.Keeping.{kept-removed}
use Rattle.meet_tickets.proofs.Line.Sides.{found-ticket}
use Rattle.meet_tickets.specs.BySeat.{withdrawn, without_first}
use Rattle.meet_core.specs.Queue.{Queue, seats_of}
use Rattle.meet_core.specs.Steps.{Leaves}
use Rattle.meet_core.proofs.Moves.{Leaves-from}
use Rattle.meet_line.proofs.Removed.{removed-none, removed-some}
use Rattle.meet_line.proofs.Sound.{IsSound-removed, waits-open, apart-removed, used-removed}
use Rattle.meet_core.proofs.meetings.Meetings.withdraw.Given.{Over}
use Rattle.meet_core.proofs.meetings.Meetings.withdraw.Goals.{After-put}
use Rattle.meet_core.proofs.meetings.Meetings.withdraw.Goals as goal

pub invariant_of-self : goal.invariant_of-self
invariant_of-self g c =
    let same = removed-none c.in-Waiting.ticket (g.L.Line.entries c.self.inside.line) _ c.in-None.ensures.entry c.in-None.ensures.entries in (
      rw same c.self.invariant.0,
      rw same c.self.invariant.1,
      c.self.invariant.2,
      rw same c.self.invariant.3,
      omega (arith, c.self.invariant.4, c.in-None.ensures.width),
    )

pub overflow_sub-self : goal.overflow_sub-self
overflow_sub-self g c =
    let less = giver-removed c.in-Waiting.ticket _ _ c.in-Some.entry (sym c.in-Some.ensures.entry) c.in-Some.ensures.entries in
    omega (arith, less, c.self.invariant.3, c.count_if_gives.ensures)

pub returns-in-None-clause-kept : goal.returns-in-None-clause-kept
returns-in-None-clause-kept g c =
    rw (← c.self.view_is) (ap kept_count (removed-none c.in-Waiting.ticket (g.L.Line.entries c.self.inside.line) _ c.in-None.ensures.entry c.in-None.ensures.entries))

-- the entry that left waited
waited : (g : Over) (c : After-put g) → c.in-Some.entry.waits ≡ true
waited g c = waits-open c.args.seat c.in-Waiting.ticket c.in-Some.entry c.self.invariant.0 (sym c.hold.ensures ∙ c.in-Waiting.is) (sym c.in-Some.ensures.entry)

pub invariant_of-self-in-Some : goal.invariant_of-self-in-Some
invariant_of-self-in-Some g c =
    let less = giver-removed c.in-Waiting.ticket _ _ c.in-Some.entry (sym c.in-Some.ensures.entry) c.in-Some.ensures.entries in
    let fewer : c.self.inside.givers - c.count_if_gives.result ≡ count_on Giver (g.L.Line.entries c.remove_at.new.self) = omega (arith, less, c.self.invariant.3, c.count_if_gives.ensures) in (
      rw (c.in-Some.ensures.entries, c.put.ensures.holds) (IsSound-removed c.args.seat c.in-Waiting.ticket c.in-Some.entry c.self.invariant.0 (sym c.hold.ensures ∙ c.in-Waiting.is) (sym c.in-Some.ensures.entry)),
      c.self.invariant.1 ∙ sym (kept-removed c.in-Waiting.ticket _ _ c.in-Some.entry (sym c.in-Some.ensures.entry) c.in-Some.ensures.entries (waited g c)),
      c.self.invariant.2,
      fewer,
      omega (arith, c.self.invariant.4, c.in-Some.ensures.width, c.put.ensures.count),
    )

pub returns-in-Some-clause-waited : goal.returns-in-Some-clause-waited
returns-in-Some-clause-waited g c = waited g (goal.at.returns-in-Some-clause-waited g c).After-put

pub returns-in-Some-clause-apart : goal.returns-in-Some-clause-apart
returns-in-Some-clause-apart g c = rw c.in-Some.ensures.entries (apart-removed c.in-Waiting.ticket c.in-Some.entry c.self.invariant.0 (sym c.in-Some.ensures.entry))

pub returns-in-Some-clause-used : goal.returns-in-Some-clause-used
returns-in-Some-clause-used g c = used-removed c.in-Waiting.ticket c.in-Some.entry c.self.invariant.0 (sym c.in-Some.ensures.entry)

pub returns-in-Some-clause-kept : goal.returns-in-Some-clause-kept
returns-in-Some-clause-kept g c =
    rw (← c.self.view_is) (kept-removed c.in-Waiting.ticket _ _ c.in-Some.entry (sym c.in-Some.ensures.entry) c.in-Some.ensures.entries (waited g (goal.at.returns-in-Some-clause-kept g c).After-put))

pub returns-in-None-clause-places : goal.returns-in-None-clause-places
returns-in-None-clause-places g c =
    let same = removed-none c.in-Waiting.ticket (g.L.Line.entries c.self.inside.line) (g.L.Line.entries c.remove_at.new.self) c.in-None.ensures.entry c.in-None.ensures.entries in
    rw (← c.self.view_is, same) (omega (arith, c.in-None.ensures.room))

pub returns-in-None-clause-unchanged : goal.returns-in-None-clause-unchanged
returns-in-None-clause-unchanged g c =
    let same = removed-none c.in-Waiting.ticket (g.L.Line.entries c.self.inside.line) (g.L.Line.entries c.remove_at.new.self) c.in-None.ensures.entry c.in-None.ensures.entries in
    let room : g.L.Line.spare c.remove_at.new.self ≡ g.L.Line.spare c.self.inside.line = omega (arith, c.in-None.ensures.room) in
    rw (← c.self.view_is) (λ i. record { line = same i; room = room i; table = c.self.inside.seats; last = c.self.inside.last; next = c.self.inside.next })

pub returns-in-Some-clause-leaves : goal.returns-in-Some-clause-leaves
returns-in-Some-clause-leaves g c =
    let old : Queue g.row.T.Denot = record { line = g.L.Line.entries c.self.inside.line; room = g.L.Line.spare c.self.inside.line; table = c.self.inside.seats; last = c.self.inside.last; next = c.self.inside.next } in
    let new : Queue g.row.T.Denot = record { line = g.L.Line.entries c.remove_at.new.self; room = g.L.Line.spare c.remove_at.new.self; table = c.put.new.self; last = c.self.inside.last; next = c.self.inside.next } in
    let ticket = found-ticket c.in-Waiting.ticket old.line c.in-Some.entry (sym c.in-Some.ensures.entry) in
    let gone : Leaves old new (withdrawn (seats_of old) c.args.seat c.in-Waiting.ticket) = Leaves-from old new c.args.seat Free (without_first (λ e. e.ticket == c.in-Waiting.ticket) old.line) c.in-Some.ensures.entries (record { holds = c.put.ensures.holds; count = c.put.ensures.count; flags = c.put.ensures.flags; last = refl; next = refl }) in
    rw (← c.self.view_is, ticket) gone

pub returns-in-Some-clause-places : goal.returns-in-Some-clause-places
returns-in-Some-clause-places g c =
    let less = removed-some c.in-Waiting.ticket (g.L.Line.entries c.self.inside.line) (g.L.Line.entries c.remove_at.new.self) c.in-Some.entry c.in-Some.ensures.entry c.in-Some.ensures.entries in
    rw (← c.self.view_is) (omega (arith, less, c.in-Some.ensures.room))
