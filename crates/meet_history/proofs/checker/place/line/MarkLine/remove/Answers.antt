-- Proof of `MarkLine::remove`, src/checker/place/line.rt. The entry of this ticket leaves the line, if it is there.
use Rattle.std.proofs.Common.{◌≤◌, refl, arith}
use Rattle.meet_tickets.proofs.Line.Sides.{All-without_first, HasOneSide-without_first}
use Rattle.meet_history.specs.Marks.{entries_of}
use Rattle.meet_history.proofs.Kept.{kept-without, givers-without}
use Rattle.meet_history.proofs.checker.place.line.MarkLine.remove.Goals as goal

pub overflow_sub-self : goal.overflow_sub-self
overflow_sub-self c =
    let removed = c.remove_by-removed.ensures in
    omega (arith, c.self.invariant.3, c.count_if_gives.ensures, givers-without c.args.ticket (entries_of c.self.inside.line) _ c.remove_by-removed.result removed.entry removed.entries)

pub overflow_sub-self-2 : goal.overflow_sub-self-2
overflow_sub-self-2 c = omega (arith, c.self.invariant.1, c.count_if_kept.ensures, kept-without c.args.ticket (entries_of c.self.inside.line) c.remove_by-removed.result c.remove_by-removed.ensures.entry)

pub invariant_of-self : goal.invariant_of-self
invariant_of-self c =
    let line = entries_of c.self.inside.line in
    let removed = c.remove_by-removed.ensures in
    rw removed.entries (
      All-without_first (λ e. e.ticket ≤ c.self.inside.newest) c.args.ticket line c.self.invariant.0,
      omega (arith, c.self.invariant.1, c.count_if_kept.ensures, kept-without c.args.ticket line c.remove_by-removed.result removed.entry),
      HasOneSide-without_first c.args.ticket line c.self.invariant.2,
      omega (arith, c.self.invariant.3, c.count_if_gives.ensures, givers-without c.args.ticket line _ c.remove_by-removed.result removed.entry refl),
    )
