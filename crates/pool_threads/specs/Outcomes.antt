-- What a pool answers to a job that is handed in.
use Rattle.std.specs.Prelude.{◌≡◌, ⊤, ℕ, ◌⊎◌, [], ◌∷◌, Option, Some, None}
use Rattle.meet_place.specs.Seats.{SeatView, Adds, SameSeat}
use Rattle.pool_core.specs.Calls.{execute_deed}
use Rattle.pool_core.specs.declared.answers.Executed.{Executed as ExecuteAnswer}
use Rattle.pool_core.specs.declared.answers.Executed.TheVariants as answer
use Rattle.pool_core.specs.declared.deeds.PoolDeed.{PoolDeed}
use Rattle.pool_threads.specs.Mirrored.{given_tag}
use Rattle.pool_threads.specs.declared.jobs.Job.{Job}
use Rattle.pool_threads.specs.declared.outcomes.Begun.{Begun}
use Rattle.pool_threads.specs.declared.outcomes.Begun.TheVariants as begun
use Rattle.pool_threads.specs.declared.outcomes.Outcome.{Outcome}
use Rattle.pool_threads.specs.declared.outcomes.Outcome.TheVariants as outcome

-- the seat after a job of this tag was handed in and answered so: one receipt is at the list's end, which says that
pub record Handed (old new : SeatView (PoolDeed ℕ)) (tag : ℕ) (a : ExecuteAnswer ℕ) : Type 0 where
  pub same : SameSeat old new
  pub adds : (ticket : ℕ) × Adds old.list new.list
      (record { seat = old.number; ticket = ticket; deed = execute_deed tag a } ∷ [])

module _ {C : Type 0} where
  -- the core's answer
  abbrev pub answer_of : (tag : ℕ) → Outcome C → ExecuteAnswer ℕ
  answer_of tag (outcome.Handed w) = answer.Handed w
  answer_of tag (outcome.Started w) = answer.Started w
  answer_of tag outcome.Kept = answer.Kept
  answer_of tag (outcome.KeptStart w) = answer.KeptStart w
  answer_of tag (outcome.Aborted job) = answer.Aborted job.tag
  answer_of tag (outcome.RanHere a) = answer.CallerRuns tag
  answer_of tag (outcome.Dropped job) = answer.Dropped job.tag
  answer_of tag (outcome.DroppedOldest ticket job) = answer.DroppedOldest ticket job.tag

  -- what comes back: the job itself, or what it is worth
  abbrev pub ItemFits : (worth : ℕ) → Job C → Outcome C → Type 0
  ItemFits worth job (outcome.Aborted back) = back ≡ job
  ItemFits worth job (outcome.RanHere a) = a ≡ worth
  ItemFits worth job (outcome.Dropped back) = back ≡ job
  ItemFits worth job _ = ⊤

  -- no thread was made for the worker that was started: the job's record stands, and a job of its tag is back where it
  -- says that the worker was started with it, and none where it says that it is kept
  abbrev pub IsUnstarted : (old new : SeatView (PoolDeed ℕ)) → Job C → Option (Job C) → Type 0
  IsUnstarted old new job back = (w : ℕ)
      × ((Handed old new job.tag (answer.Started w) × (given_tag back ≡ Some job.tag))
      ⊎ (Handed old new job.tag (answer.KeptStart w) × (given_tag back ≡ None)))

  -- a job of this tag comes back, if one is given, and else none
  abbrev pub IsBack : (first : Option ℕ) → Begun C → Type 0
  IsBack first begun.Stands = ⊤
  IsBack first (begun.NoThread job) = given_tag job ≡ first
