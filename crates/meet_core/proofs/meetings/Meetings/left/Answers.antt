-- Proof of `Meetings::left`, src/meetings/leaving.rt. How many items are left in the queue: those in the line, offered
-- or kept, and those that were cut or taken and that nobody has collected.
use Rattle.std.proofs.Common.{◌≡◌, ◌≤◌, ◌+◌, ◌∙◌, sym, ap, length, arith}
use Rattle.std.proofs.Math.Path.{ap₂}
use Rattle.std.proofs.lemmas.List.Sums.{count_by-le-length}
use Rattle.meet_tickets.specs.declared.places.Side.TheVariants.{Giver}
use Rattle.meet_tickets.specs.Meeting.{count_on, is_on}
use Rattle.meet_core.specs.Left.{left_at_seats}
use Rattle.meet_core.proofs.Leaving.{length-left_in, length-line}
use Rattle.meet_core.proofs.meetings.Meetings.left.Goals as goal

pub overflow_add-result : goal.overflow_add-result
overflow_add-result g c =
    let line = g.L.Line.entries c.self.inside.line in
    let givers : c.givers.result ≡ count_on Giver line = c.givers.ensures ∙ ap (λ q. count_on Giver q.line) (sym c.self.view_is) in
    let most : count_on Giver line ≤ length line = count_by-le-length (is_on Giver) line in
    let used : length line ≤ c.self.inside.next = length-line c.self.invariant.0 in
    omega (arith, givers, most, used, c.self.invariant.0.tickets_to, c.left.ensures.few)

pub returns : goal.returns
returns g c =
    ap₂ ◌+◌ c.givers.ensures (c.left.ensures.value ∙ ap (λ q. length (left_at_seats q.table.holds)) c.self.view_is) ∙ sym (length-left_in g.L.Line.end c.args.self.now)
