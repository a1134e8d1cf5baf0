-- A step of a pool keeps what it was made with, and so the number of its seats.
use Rattle.std.proofs.Common.{◌≡◌, ℕ, ◌+◌, ap}
use Rattle.pool_core.specs.Calls.{FollowStep, IdleStep}
use Rattle.pool_core.specs.Moves.{IsMade}
use Rattle.pool_core.specs.Placed.{PoolStep}
use Rattle.pool_core.specs.Shown.{Shown}
use Rattle.pool_core.specs.declared.settings.Settings.{Settings}
use Rattle.pool_core.specs.declared.calls.PoolCall.{PoolCall}
use Rattle.pool_core.specs.declared.calls.PoolCall.TheVariants as call
use Rattle.pool_core.specs.declared.calls.PoolAnswer.{PoolAnswer}
use Rattle.pool_core.specs.declared.calls.PoolAnswer.TheVariants as answer
use Rattle.pool_core.specs.declared.answers.Followed.{Followed}
use Rattle.pool_core.specs.declared.answers.Followed.TheVariants as followed
use Rattle.pool_core.specs.declared.answers.IdleEnd.{IdleEnd}
use Rattle.pool_core.specs.declared.answers.IdleEnd.TheVariants as idle

-- a pool has a seat for each caller, and behind these one for each worker
abbrev pub seats_with : Settings → ℕ
seats_with s = s.sizes.callers + s.sizes.maximum

module _ {X : Type 0} where
  follow-stays : (old new : Shown X) (i t : ℕ) (a : Followed X) → FollowStep old i t a new
      → new.settings ≡ old.settings
  follow-stays old new i t (followed.Run u job) step = step.settings
  follow-stays old new i t followed.Exit step = step.settings
  follow-stays old new i t followed.NotYet step = ap (λ (p : Shown X). p.settings) step.1

  idle-stays : (old new : Shown X) (i t : ℕ) (a : IdleEnd) → IdleStep old i t a new → new.settings ≡ old.settings
  idle-stays old new i t idle.Exit step = step.settings
  idle-stays old new i t idle.Stay step = ap (λ (p : Shown X). p.settings) step.2
  idle-stays old new i t idle.Late step = ap (λ (p : Shown X). p.settings) step.1

  -- each step of a pool keeps what it was made with
  pub settings-stay : (old : Shown X) (i : ℕ) (c : PoolCall X) (a : PoolAnswer X) (new : Shown X)
      → PoolStep old i c a new → new.settings ≡ old.settings
  settings-stay old i (call.Execute job) (answer.Executed t a) new step = step.0.settings
  settings-stay old i call.ShutDown answer.WasShut new step = step.settings
  settings-stay old i call.ShutDownNow (answer.Returned jobs) new step = step.0.settings
  settings-stay old i call.Ready (answer.BeReady t a) new step = step.settings
  settings-stay old i call.Follow (answer.Followed t a) new step = follow-stays old new i t a step
  settings-stay old i (call.Finish n) (answer.Finished t) new step = step.settings
  settings-stay old i call.IdleEnd (answer.Idled t a) new step = idle-stays old new i t a step
  settings-stay old i call.Leave answer.Left new step = step.settings
  settings-stay old i call.StartFailed (answer.NotStarted t job) new step = step.0.settings
  settings-stay old i c a new step = absurd step

  -- and the number of its seats
  pub seats-stay : (old : Shown X) (i : ℕ) (c : PoolCall X) (a : PoolAnswer X) (new : Shown X)
      → IsMade old i c a new → seats_with new.settings ≡ seats_with old.settings
  seats-stay old i c a new made = ap seats_with (settings-stay old i c a new made.step)
