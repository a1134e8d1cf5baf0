-- Proof of `Meetings::new`, src/meetings.rt. A queue with no room yet, with this many seats, at most 65,536, and this
-- first ticket, 1 to 2^63 - 1.
use Rattle.std.proofs.Common.{◌≡◌, ◌≤◌, ◌∙◌, [], ap, sym, rules, arith}
use Rattle.meet_tickets.specs.declared.places.Side.TheVariants.{Giver}
use Rattle.meet_tickets.specs.Meeting.{kept_count, count_on}
use Rattle.meet_line.proofs.Sound.{IsSound-new}
use Rattle.meet_core.proofs.meetings.Meetings.new.Goals as goal

pub invariant_of-result : goal.invariant_of-result
invariant_of-result g c =
    let none : g.L.Line.entries c.widen.new.self ≡ [] = c.widen.ensures.entries ∙ c.empty-line.ensures.entries in
    let wide : c.args.seats ≤ g.L.Line.width c.widen.new.self = search rules in (
      IsSound-new _ _ _ none c.in-Ok.ensures.holds c.requires.first_from c.requires.first_to,
      sym (ap kept_count none),
      c.requires.first_from,
      sym (ap (count_on Giver) none),
      omega (arith, wide, c.in-Ok.ensures.count),
    )
