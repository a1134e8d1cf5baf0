-- Proof of `Meetings::fetch`, src/meetings/moves.rt. Fetches the item of the giver that is met, with its ticket.
use Rattle.std.proofs.Common.{◌≡◌, ◌-◌, ◌∙◌, sym, refl, ap, length, arith}
use Rattle.meet_tickets.specs.declared.places.Side.TheVariants.{Giver, Taker}
use Rattle.meet_tickets.specs.Meeting.{count_on}
use Rattle.meet_tickets.proofs.Line.Counted.{giver-fetched}
use Rattle.meet_tickets.proofs.Line.Keeping.{kept-paired, kept-fetched}
use Rattle.meet_line.proofs.Sound.{HasOneSide-sound, Stands-partner, IsSound-met, IsSound-unmet}
use Rattle.meet_core.proofs.Following.{there-waiting}
use Rattle.meet_core.proofs.meetings.Meetings.fetch.Goals as goal

pub meet-requires-clause-side : goal.meet-requires-clause-side
meet-requires-clause-side g c = HasOneSide-sound c.self.invariant.0

pub overflow_sub-self : goal.overflow_sub-self
overflow_sub-self g c =
    let one = giver-fetched g.L.Line.end _ _ c.in_ok-giver.giver (HasOneSide-sound c.self.invariant.0) (sym c.in_ok-giver.ensures.partner) c.in_ok-giver.ensures.rest in
    omega (arith, one, c.self.invariant.3)

pub collect-requires-clause-seat : goal.collect-requires-clause-seat
collect-requires-clause-seat g c =
    there-waiting _ _ _ ((Stands-partner g.L.Line.end Taker c.in_ok-giver.giver c.self.invariant.0 (sym c.in_ok-giver.ensures.partner)).held c.if-giver.true)

pub collect-requires-clause-waited : goal.collect-requires-clause-waited
collect-requires-clause-waited g c =
    (Stands-partner g.L.Line.end Taker c.in_ok-giver.giver c.self.invariant.0 (sym c.in_ok-giver.ensures.partner)).held c.if-giver.true

pub invariant_of-self-then-giver : goal.invariant_of-self-then-giver
invariant_of-self-then-giver g c =
    let one = giver-fetched g.L.Line.end _ _ c.in_ok-giver.giver (HasOneSide-sound c.self.invariant.0) (sym c.in_ok-giver.ensures.partner) c.in_ok-giver.ensures.rest in
    let fewer : c.self.inside.givers - 1 ≡ count_on Giver (g.L.Line.entries c.meet.new.line) = omega (arith, one, c.self.invariant.3) in (
      rw (c.in_ok-giver.ensures.rest, c.collect.ensures.held) (IsSound-met g.L.Line.end Taker c.in_ok-giver.giver _ c.self.invariant.0 (sym c.in_ok-giver.ensures.partner) c.if-giver.true refl),
      c.self.invariant.1 ∙ sym (kept-paired g.L.Line.end _ _ Taker c.in_ok-giver.giver (sym c.in_ok-giver.ensures.partner) c.in_ok-giver.ensures.rest c.if-giver.true),
      c.self.invariant.2,
      fewer,
      omega (arith, c.self.invariant.4, c.in_ok-giver.ensures.width, c.collect.ensures.count),
    )

pub overflow_sub-self-else-giver : goal.overflow_sub-self-else-giver
overflow_sub-self-else-giver g c =
    let less = kept-fetched g.L.Line.end _ _ Taker c.in_ok-giver.giver (sym c.in_ok-giver.ensures.partner) c.in_ok-giver.ensures.rest c.if-giver.false in
    omega (arith, less, c.self.invariant.1)

pub release-requires : goal.release-requires
release-requires g c =
    (Stands-partner g.L.Line.end Taker c.in_ok-giver.giver c.self.invariant.0 (sym c.in_ok-giver.ensures.partner)).given c.if-giver.false

pub invariant_of-self-else-giver : goal.invariant_of-self-else-giver
invariant_of-self-else-giver g c =
    let one = giver-fetched g.L.Line.end _ _ c.in_ok-giver.giver (HasOneSide-sound c.self.invariant.0) (sym c.in_ok-giver.ensures.partner) c.in_ok-giver.ensures.rest in
    let less = kept-fetched g.L.Line.end _ _ Taker c.in_ok-giver.giver (sym c.in_ok-giver.ensures.partner) c.in_ok-giver.ensures.rest c.if-giver.false in (
      rw (c.in_ok-giver.ensures.rest, c.forget_changed.ensures.same) (IsSound-unmet g.L.Line.end c.self.invariant.0),
      omega (arith, less, c.self.invariant.1),
      omega (arith, c.self.invariant.2),
      omega (arith, one, c.self.invariant.3),
      omega (arith, c.self.invariant.4, c.in_ok-giver.ensures.width, ap (λ table. length table.holds) c.forget_changed.ensures.same),
    )
