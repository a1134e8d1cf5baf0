-- What `submit` returns, by what `execute` does (our choice).
use Rattle.std.specs.Prelude.{◌≡◌, ◌≢◌, ◌⊎◌, ⊤, ℕ, Option, Some, Result, Ok, Err, IfSome, IsSomeAnd}
use Rattle.meet_tickets.specs.declared.refusals.Refusal.{Refusal}
use Rattle.meet_tickets.specs.declared.refusals.Refusal.TheVariants.{NoThread}
use Rattle.pool_threads.specs.Told.{IsExecuteWhy}
use Rattle.pool_threads.specs.declared.jobs.Job.{Job}
use Rattle.pool_threads.specs.declared.outcomes.Outcome.{Outcome}
use Rattle.pool_threads.specs.declared.outcomes.Outcome.TheVariants.{Aborted, Dropped, DroppedOldest}
use Rattle.pool_callers.specs.Handles.{HandleView, Does, Stays, HandsIn, CallFits, StartsNone, Returns}
use Rattle.pool_callers.specs.declared.refused.ExecuteRefused.{ExecuteRefused}
use Rattle.pool_callers.specs.declared.submitted.NotRun.{NotRun}
use Rattle.pool_callers.specs.declared.submitted.NotRun.TheVariants.{Rejected, Discarded, Displaced, Refused}

module _ {C : Type 0} where
  -- a worker runs the job, or has it before it, or its caller ran it
  abbrev pub IsTaken : Outcome C → Type 0
  IsTaken (Aborted job) = ⊥
  IsTaken (Dropped job) = ⊥
  IsTaken (DroppedOldest ticket job) = ⊥
  IsTaken outcome = ⊤

  -- a job with this outcome is returned for this reason
  abbrev pub EndsFor : NotRun → (back : Option (Job C)) → Outcome C → Type 0
  EndsFor reason back (Aborted job) = (reason ≡ Rejected) × (back ≡ Some job)
  EndsFor reason back (Dropped job) = (reason ≡ Discarded) × (back ≡ Some job)
  EndsFor reason back (DroppedOldest ticket job) = (reason ≡ Displaced ticket) × (back ≡ Some job)
  EndsFor reason back outcome = ⊥

  -- what was executed gives this reason, and hands this back
  abbrev pub Gives : Result (Outcome C) (ExecuteRefused C) → NotRun → (back : Option (Job C)) → Type 0
  Gives (Ok outcome) reason back = EndsFor reason back outcome
  Gives (Err refused) reason back = (reason ≡ Refused refused.why) × (back ≡ refused.job)

  -- a job of this tag and call was handed in, with an outcome like this
  abbrev pub Submits : (Is : Outcome C → Type 0) → (seats worth : ℕ) → (old new : HandleView) → (tag : ℕ) → C → Type 0
  Submits Is seats worth old new tag call =
      (outcome : Outcome C) × Is outcome × HandsIn seats old new tag outcome × CallFits worth tag call outcome

  -- it was refused, as by `execute`: the job is returned, unless it is buffered after NoThread
  abbrev pub IsRefused : (seats callers : ℕ) → (old new : HandleView) → (tag : ℕ) → C → (why : Refusal)
      → (back : Option (Job C)) → Type 0
  IsRefused seats callers old new tag call why back =
      (why ≡ NoThread → StartsNone seats old new tag call back)
      × (why ≢ NoThread → Does seats old new Stays × IsSomeAnd back (Returns tag call)
      × IfSome old.seat (λ seat. IsExecuteWhy callers seat.number why))

  -- a job won't be run for this reason, and is returned: so its hand-in ended, or it was refused
  abbrev pub FailsAs : (seats worth callers : ℕ) → (old new : HandleView) → (tag : ℕ) → C → NotRun
      → (back : Option (Job C)) → Type 0
  FailsAs seats worth callers old new tag call reason back =
      Submits (EndsFor reason back) seats worth old new tag call
      ⊎ ((why : Refusal) × (reason ≡ Refused why) × IsRefused seats callers old new tag call why back)
