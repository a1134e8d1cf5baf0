-- What stays true from turn to turn of `is_in_turn`, src/turns.rt.
use Rattle.std.proofs.Common.{◌≡◌, ℕ, ◌<◌, Some}
use Rattle.std.specs.Prelude.{slice_get}
use Rattle.meet_overlap.specs.declared.calls.Call.{Call}
use Rattle.meet_overlap.specs.declared.calls.Stage.TheVariants.{Ahead}
use Rattle.meet_overlap.specs.Places.{stage_at}
use Rattle.meet_overlap.proofs.turns.is_in_turn.Given as goal

-- none of the calls so far has begun that are of the seat
abbrev pub invariant-loop-later : goal.invariant-loop-later
invariant-loop-later l = (m : ℕ) (call : Call) → l.number < m → m < l.later → slice_get l.calls m ≡ Some call → call.seat ≡ l.seat → stage_at l.window m ≡ Ahead
