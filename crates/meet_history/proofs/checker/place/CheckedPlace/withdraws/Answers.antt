-- Proof of `CheckedPlace::withdraws`, src/checker/place/endings.rt. This ticket leaves the line and ends, if it is the
-- seat's and stands there.
use Rattle.std.proofs.Common.{◌∙◌, ap, sym, is_some, length, arith}
use Rattle.std.proofs.lemmas.Bool.{false≢true}
use Rattle.meet_tickets.specs.BySeat.{entry_of}
use Rattle.meet_history.proofs.Seated.{seated-longer, seated-removed}
use Rattle.meet_history.proofs.checker.place.CheckedPlace.withdraws.Goals as goal

pub returns-in-None-clause-allowed : goal.returns-in-None-clause-allowed
returns-in-None-clause-allowed c =
    rw (← c.self.view_is) (λ is. absurd (false≢true is), λ both. absurd (false≢true (ap is_some c.in-None.ensures.entry ∙ sym (ap (λ h. is_some (entry_of c.self.inside.line.entries h)) both.0) ∙ both.1)))

pub invariant_of-self : goal.invariant_of-self
invariant_of-self c =
    let inside = c.self.inside in (
      seated-removed (length inside.seats.holds) c.args.ticket inside.line.entries c.remove.new.self.entries c.remove.ensures.entries c.self.invariant.0,
      c.remove.ensures.end ∙ c.self.invariant.1,
      omega (arith, c.remove.ensures.newest, c.self.invariant.2),
    )

pub invariant_of-self-in-Some : goal.invariant_of-self-in-Some
invariant_of-self-in-Some c =
    let inside = c.self.inside in
    let seated = seated-removed (length inside.seats.holds) c.args.ticket inside.line.entries c.remove.new.self.entries c.remove.ensures.entries c.self.invariant.0 in (
      seated-longer (length inside.seats.holds) (length c.replace.new.self.holds) c.remove.new.self.entries (omega (arith, c.replace.ensures.count)) seated,
      c.remove.ensures.end ∙ c.self.invariant.1,
      omega (arith, c.remove.ensures.newest, c.self.invariant.2),
    )
