-- Proof of `MarkLine::partner`, src/checker/place/line.rt. The partner of a request of this side leaves the line, if it
-- has one.
use Rattle.std.proofs.Common.{◌≤◌, arith}
use Rattle.meet_history.specs.Marks.{met_end, entries_of}
use Rattle.meet_history.proofs.Kept.{all-partner, one_side-partner, kept-partner, givers-partner}
use Rattle.meet_history.proofs.checker.place.line.MarkLine.partner.Goals as goal

pub overflow_sub-self : goal.overflow_sub-self
overflow_sub-self c =
    let left = c.partner_by-partner.ensures in
    let line = entries_of c.self.inside.line in
    omega (arith, c.self.invariant.3, c.count_if_gives.ensures, givers-partner (met_end c.self.inside.line) line _ c.args.side _ left.partner left.rest)

pub overflow_sub-self-2 : goal.overflow_sub-self-2
overflow_sub-self-2 c =
    let left = c.partner_by-partner.ensures in
    let line = entries_of c.self.inside.line in
    omega (arith, c.self.invariant.1, c.count_if_kept.ensures, kept-partner (met_end c.self.inside.line) line _ c.args.side _ left.partner left.rest)

pub invariant_of-self : goal.invariant_of-self
invariant_of-self c =
    let inside = c.self.inside in
    let left = c.partner_by-partner.ensures in
    let end = met_end inside.line in
    let line = entries_of inside.line in (
      all-partner (λ e. e.ticket ≤ inside.newest) end line _ _ left.rest c.self.invariant.0,
      omega (arith, c.self.invariant.1, c.count_if_kept.ensures, kept-partner end line _ c.args.side _ left.partner left.rest),
      one_side-partner end line _ _ left.rest c.self.invariant.2,
      omega (arith, c.self.invariant.3, c.count_if_gives.ensures, givers-partner end line _ c.args.side _ left.partner left.rest),
    )
