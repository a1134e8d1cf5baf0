-- Proof of `CheckedPlace::standing`, src/checker/place.rt. Where the place's tickets and items are.
use Rattle.std.proofs.Common.{◌≡◌, ◌-◌, ◌∙◌, sym, ap}
use Rattle.meet_tickets.specs.Meeting.{waiting_count}
use Rattle.meet_tickets.specs.BySeat.{settled_of}
use Rattle.meet_tickets.specs.Limits.{most_seats}
use Rattle.meet_core.specs.Table.{hold_at}
use Rattle.meet_history.specs.Checking.{moment_at}
use Rattle.meet_history.specs.OneThread.{standing_at}
use Rattle.meet_history.proofs.Kept.{waiting-is, standings-same}
use Rattle.meet_history.proofs.Seated.{settled-beyond}
use Rattle.meet_history.proofs.checker.place.CheckedPlace.standing.Goals as goal

pub returns-clause-standing : goal.returns-clause-standing
returns-clause-standing c =
    let inside = c.self.inside in
    let waits : c.len.result - c.kept-kept.result ≡ waiting_count inside.line.entries = waiting-is inside.line.entries c.len.result c.kept-kept.result c.len.ensures c.kept-kept.ensures.value in
    let settled : c.settled.result ≡ settled_of most_seats (hold_at inside.seats.holds) = c.settled.ensures.value ∙ sym (settled-beyond inside.seats.holds most_seats c.count-seats.ensures.in_range) in
    standings-same waits settled c.kept-kept.ensures.value ∙ ap (λ s. standing_at most_seats (moment_at s).seats) c.self.view_is
