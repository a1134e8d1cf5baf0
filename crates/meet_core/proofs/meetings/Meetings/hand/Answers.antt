-- Proof of `Meetings::hand`, src/meetings/moves.rt. Hands the item to the taker that is met, and answers its ticket;
-- without one the item comes back.
use Rattle.std.proofs.Common.{◌≡◌, ◌∙◌, sym, ap, refl, Some, false, arith}
use Rattle.meet_tickets.specs.declared.places.Side.TheVariants.{Giver}
use Rattle.meet_tickets.specs.Meeting.{is_on}
use Rattle.meet_tickets.proofs.Line.Counted.{givers-stay}
use Rattle.meet_tickets.proofs.Line.Keeping.{kept-paired}
use Rattle.meet_tickets.proofs.Line.Partners.{none-from}
use Rattle.meet_tickets.proofs.Line.Sides.{partner-other}
use Rattle.meet_tickets.specs.BySeat.{put_at}
use Rattle.meet_core.specs.Table.{hold_at}
use Rattle.meet_core.specs.Queue.{Queue}
use Rattle.meet_line.proofs.Sound.{HasOneSide-sound, held-taker, IsSound-met}
use Rattle.meet_core.proofs.Following.{there-waiting}
use Rattle.meet_core.proofs.Moves.{paired_hold-taker, Leaves-paired}
use Rattle.meet_core.proofs.meetings.Meetings.hand.Goals as goal

pub meet-requires-clause-side : goal.meet-requires-clause-side
meet-requires-clause-side g c = HasOneSide-sound c.self.invariant.0

pub serve-requires-clause-seat : goal.serve-requires-clause-seat
serve-requires-clause-seat g c =
    there-waiting _ _ _ (held-taker g.L.Line.end c.in-Some.taker c.self.invariant.0 (sym c.in-Some.ensures.partner)).held

pub serve-requires-clause-waited : goal.serve-requires-clause-waited
serve-requires-clause-waited g c = (held-taker g.L.Line.end c.in-Some.taker c.self.invariant.0 (sym c.in-Some.ensures.partner)).held

pub invariant_of-self : goal.invariant_of-self
invariant_of-self g c =
    let found = sym c.in-Some.ensures.partner in
    let waits = (held-taker g.L.Line.end c.in-Some.taker c.self.invariant.0 found).waits in (
      rw (c.in-Some.ensures.rest, c.serve.ensures.held) (IsSound-met g.L.Line.end Giver c.in-Some.taker _ c.self.invariant.0 found waits refl),
      c.self.invariant.1 ∙ sym (kept-paired g.L.Line.end _ _ Giver c.in-Some.taker found c.in-Some.ensures.rest waits),
      c.self.invariant.2,
      c.self.invariant.3 ∙ sym (givers-stay g.L.Line.end _ _ c.in-Some.taker (HasOneSide-sound c.self.invariant.0) found c.in-Some.ensures.rest),
      omega (arith, c.self.invariant.4, c.in-Some.ensures.width, c.serve.ensures.count),
    )

pub returns-in-Some-clause-kept : goal.returns-in-Some-clause-kept
returns-in-Some-clause-kept g c =
    let found = sym c.in-Some.ensures.partner in
    rw (← c.self.view_is) (kept-paired g.L.Line.end _ _ Giver c.in-Some.taker found c.in-Some.ensures.rest (held-taker g.L.Line.end c.in-Some.taker c.self.invariant.0 found).waits)

pub returns-in-Some-clause-met : goal.returns-in-Some-clause-met
returns-in-Some-clause-met g c =
    let found = sym c.in-Some.ensures.partner in
    let taker = c.in-Some.taker in
    let old : Queue g.row.T.Denot = record { line = g.L.Line.entries c.self.inside.line; room = g.L.Line.spare c.self.inside.line; table = c.self.inside.seats; last = c.self.inside.last; next = c.self.inside.next } in
    let off : is_on Giver taker ≡ false = partner-other g.L.Line.end old.line Giver taker (HasOneSide-sound c.self.invariant.0) found in
    rw (← c.self.view_is) (
      taker,
      found,
      c.serve.ensures.ticket,
      none-from taker.item off,
      Leaves-paired g.T.Marked.mark_of g.L.Line.end old _ taker c.args.ticket (Some c.args.item) (held-taker g.L.Line.end taker c.self.invariant.0 found).waits c.in-Some.ensures.rest (record {
        holds = c.serve.ensures.held ∙ ap (λ hold. put_at (hold_at old.table.holds) taker.seat hold) (paired_hold-taker g.T.Marked.mark_of taker c.args.ticket c.args.item off);
        count = c.serve.ensures.count;
        flags = c.serve.ensures.flags;
        last = refl;
        next = refl;
      }),
    )
