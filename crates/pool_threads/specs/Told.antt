-- What a pool answers, as its core does.
use Rattle.std.specs.Prelude.{◌≡◌, ◌<◌, ◌≤◌, ⊤, ℕ, ◌⊎◌, Option, Some, None, IsSome}
use Rattle.meet_tickets.specs.declared.refusals.Refusal.{Refusal}
use Rattle.meet_tickets.specs.declared.refusals.Refusal.TheVariants.{Memory, HistoryFull, NoSuchSeat, TicketsSpent}
use Rattle.pool_core.specs.declared.answers.Executed.{Executed as ExecuteAnswer}
use Rattle.pool_core.specs.declared.answers.Executed.TheVariants as answer
use Rattle.pool_threads.specs.declared.jobs.Job.{Job}
use Rattle.pool_threads.specs.declared.jobs.Executed.{Executed}
use Rattle.pool_threads.specs.declared.jobs.Executed.TheVariants as executed

-- why a checkpoint may be refused
abbrev pub IsCutWhy : Refusal → Type 0
IsCutWhy Memory = ⊤
IsCutWhy HistoryFull = ⊤
IsCutWhy why = ⊥

-- why a job may be refused that a seat of this number hands to a pool with so many callers' seats, NoThread aside:
-- NoSuchSeat only if the seat is no caller's
abbrev pub IsExecuteWhy : (callers seat : ℕ) → Refusal → Type 0
IsExecuteWhy callers seat Memory = ⊤
IsExecuteWhy callers seat HistoryFull = ⊤
IsExecuteWhy callers seat NoSuchSeat = callers ≤ seat
IsExecuteWhy callers seat TicketsSpent = seat < callers
IsExecuteWhy callers seat why = ⊥

-- why a shutdown by a seat of this number may be refused
abbrev pub IsShutWhy : (callers seat : ℕ) → Refusal → Type 0
IsShutWhy callers seat Memory = ⊤
IsShutWhy callers seat HistoryFull = ⊤
IsShutWhy callers seat NoSuchSeat = callers ≤ seat
IsShutWhy callers seat why = ⊥

-- the worker that is to be woken
abbrev pub woken_by : ExecuteAnswer ℕ → Option ℕ
woken_by (answer.Handed w) = Some w
woken_by (answer.Started w) = None
woken_by answer.Kept = None
woken_by (answer.KeptStart w) = None
woken_by (answer.Aborted back) = None
woken_by (answer.CallerRuns back) = None
woken_by (answer.Dropped back) = None
woken_by (answer.DroppedOldest ticket old) = None

-- a worker comes out to be started, exactly if one is to be started
abbrev pub StartsOne : {S : Type 0} → ExecuteAnswer ℕ → Option S → Type 0
StartsOne (answer.Handed w) worker = worker ≡ None
StartsOne (answer.Started w) worker = IsSome worker
StartsOne answer.Kept worker = worker ≡ None
StartsOne (answer.KeptStart w) worker = IsSome worker
StartsOne (answer.Aborted back) worker = worker ≡ None
StartsOne (answer.CallerRuns back) worker = worker ≡ None
StartsOne (answer.Dropped back) worker = worker ≡ None
StartsOne (answer.DroppedOldest ticket old) worker = worker ≡ None

-- worker w has to be started
abbrev pub Starts : ExecuteAnswer ℕ → (w : ℕ) → Type 0
Starts a w = (a ≡ answer.Started w) ⊎ (a ≡ answer.KeptStart w)

module _ {C : Type 0} where
  -- the core's answer
  abbrev pub answer_told : Executed C → ExecuteAnswer ℕ
  answer_told (executed.Handed w) = answer.Handed w
  answer_told (executed.Started w) = answer.Started w
  answer_told executed.Kept = answer.Kept
  answer_told (executed.KeptStart w) = answer.KeptStart w
  answer_told (executed.Aborted job) = answer.Aborted job.tag
  answer_told (executed.CallerRuns job) = answer.CallerRuns job.tag
  answer_told (executed.Dropped job) = answer.Dropped job.tag
  answer_told (executed.DroppedOldest ticket job) = answer.DroppedOldest ticket job.tag

  -- a job that comes back as it was handed in is that job
  abbrev pub IsItself : Job C → Executed C → Type 0
  IsItself job (executed.Aborted back) = back ≡ job
  IsItself job (executed.CallerRuns back) = back ≡ job
  IsItself job (executed.Dropped back) = back ≡ job
  IsItself job _ = ⊤
