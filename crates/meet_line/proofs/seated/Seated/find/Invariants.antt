-- What stays true from turn to turn of `Seated::find`, src/seated.rt.
use Rattle.std.proofs.Common.{◌≡◌, ◌==◌, None, find}
use Rattle.meet_line.proofs.Walking.{Walked}
use Rattle.meet_line.proofs.seated.Seated.find.Given as goal

abbrev pub invariant-loop-step : goal.invariant-loop-step
invariant-loop-step g l = (w : Walked l.self.entries l.at l._step) × (find (λ e. e.ticket == l.fn.ticket) w.done ≡ None)
