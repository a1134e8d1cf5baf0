-- Proof of `CheckedPlace::cut_out`, src/checker/place/endings.rt. What stands in the line for this seat leaves it.
use Rattle.std.proofs.Common.{◌∙◌, length, arith}
use Rattle.meet_history.proofs.Kept.{removed-is}
use Rattle.meet_history.proofs.Seated.{seated-removed}
use Rattle.meet_history.proofs.checker.place.CheckedPlace.cut_out.Goals as goal

pub returns-clause-line : goal.returns-clause-line
returns-clause-line c = rw (← c.self.view_is) (removed-is c.in-Waiting.ticket c.self.inside.line.entries c.remove.new.self.entries c.remove.result c.remove.ensures.entry c.remove.ensures.entries)

pub invariant_of-self : goal.invariant_of-self
invariant_of-self c =
    let inside = c.self.inside in (
      seated-removed (length inside.seats.holds) c.in-Waiting.ticket inside.line.entries c.remove.new.self.entries c.remove.ensures.entries c.self.invariant.0,
      c.remove.ensures.end ∙ c.self.invariant.1,
      omega (arith, c.remove.ensures.newest, c.self.invariant.2),
    )
