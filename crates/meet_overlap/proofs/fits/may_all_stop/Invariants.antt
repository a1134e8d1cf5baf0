-- What stays true from turn to turn of `may_all_stop`, src/fits.rt.
use Rattle.std.proofs.Common.{◌≡◌, ◌<◌, ℕ, Some}
use Rattle.std.specs.Prelude.{slice_get}
use Rattle.meet_overlap.specs.declared.calls.Call.{Call}
use Rattle.meet_overlap.specs.Calls.{MayStop}
use Rattle.meet_overlap.specs.Places.{stage_at}
use Rattle.meet_overlap.proofs.fits.may_all_stop.Given as goal

-- the calls so far may be left
abbrev pub invariant-loop-number : goal.invariant-loop-number
invariant-loop-number l = (n : ℕ) (call : Call) → n < l.number → slice_get l.calls n ≡ Some call → MayStop call (stage_at l.window n)
