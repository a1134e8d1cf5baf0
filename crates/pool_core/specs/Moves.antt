-- How the jobs in a pool move, and which workers are there: what the holder of the jobs beside a pool has to know.
use Rattle.std.specs.Prelude.{◌≡◌, ℕ, ◌<◌, Bool, true, false, Option, Some, None, List, [], ◌∷◌, ◌++◌, map, option_map}
use Rattle.std.specs.Prelude.{length, slice_get, slice_set, ◌⊎◌}
use Rattle.pool_core.specs.declared.stages.Task.{Task}
use Rattle.pool_core.specs.declared.stages.Stage.{Stage}
use Rattle.pool_core.specs.declared.calls.PoolCall.{PoolCall}
use Rattle.pool_core.specs.declared.calls.PoolCall.TheVariants.{Execute, ShutDown, ShutDownNow, Ready, Follow, Finish}
use Rattle.pool_core.specs.declared.calls.PoolCall.TheVariants.{IdleEnd, Leave, StartFailed}
use Rattle.pool_core.specs.declared.calls.PoolAnswer.{PoolAnswer}
use Rattle.pool_core.specs.declared.calls.PoolAnswer.TheVariants.{Executed, WasShut, Returned, BeReady}
use Rattle.pool_core.specs.declared.calls.PoolAnswer.TheVariants.{Followed as ToFollow}
use Rattle.pool_core.specs.declared.calls.PoolAnswer.TheVariants.{Finished, Idled, Left, NotStarted}
use Rattle.pool_core.specs.declared.answers.Executed.{Executed as ExecuteAnswer}
use Rattle.pool_core.specs.declared.answers.Executed.TheVariants.{Handed, Started, Kept, KeptStart, Aborted, CallerRuns}
use Rattle.pool_core.specs.declared.answers.Executed.TheVariants.{Dropped, DroppedOldest}
use Rattle.pool_core.specs.declared.answers.Ready.{Ready as ReadyAnswer}
use Rattle.pool_core.specs.declared.answers.Ready.TheVariants.{Run, Waits, Exit}
use Rattle.pool_core.specs.declared.answers.Followed.{Followed}
use Rattle.pool_core.specs.declared.answers.Followed.TheVariants.{Run as FollowRun, Exit as FollowExit, NotYet}
use Rattle.pool_core.specs.declared.answers.IdleEnd.TheVariants.{Exit as IdleExits, Stay, Late}
use Rattle.pool_core.specs.declared.answers.IdleEnd.{IdleEnd as IdleAnswer}
use Rattle.pool_core.specs.Pools.{Pool, kept_tasks, task_at, is_there, worker_of}
use Rattle.pool_core.specs.Shown.{Shown}
use Rattle.pool_core.specs.Placed.{PoolStep, pool_room, roomy-steps}

-- the kept jobs in the line's order; by worker the job that it was started with or handed, and doesn't run yet; and
-- which workers are there
pub record Jobs (X : Type 0) : Type 0 where
  pub kept : List X
  pub given : List (Option X)
  pub there : List Bool

abbrev pub job_in : {X : Type 0} → Task X → X
job_in task = task.job

abbrev pub given_at : {X : Type 0} → Stage X → Option X
given_at stage = option_map job_in (task_at stage)

abbrev pub jobs_of : {X : Type 0} → Pool X → Jobs X
jobs_of p =
    record { kept = map job_in (kept_tasks p.line); given = map given_at p.workers; there = map is_there p.workers }

module _ {X : Type 0} where
  -- worker w, which is there and had no job, has this one then
  pub record Gets (w : ℕ) (job : X) (old new : Jobs X) : Type 0 where
    pub had : slice_get old.given w ≡ Some None
    pub here : slice_get old.there w ≡ Some true
    pub given : new.given ≡ slice_set old.given w (Some job)
    pub kept : new.kept ≡ old.kept
    pub there : new.there ≡ old.there

  -- worker w, which wasn't there and had no job, is there and has this one then
  pub record Begins (w : ℕ) (job : X) (old new : Jobs X) : Type 0 where
    pub had : slice_get old.given w ≡ Some None
    pub away : slice_get old.there w ≡ Some false
    pub given : new.given ≡ slice_set old.given w (Some job)
    pub kept : new.kept ≡ old.kept
    pub there : new.there ≡ slice_set old.there w true

  -- one more job is kept
  pub record Keeps (job : X) (old new : Jobs X) : Type 0 where
    pub kept : new.kept ≡ old.kept ++ job ∷ []
    pub given : new.given ≡ old.given
    pub there : new.there ≡ old.there

  -- one more job is kept, and worker w, which wasn't there, is there then, with none
  pub record KeepsBegins (w : ℕ) (job : X) (old new : Jobs X) : Type 0 where
    pub had : slice_get old.given w ≡ Some None
    pub away : slice_get old.there w ≡ Some false
    pub kept : new.kept ≡ old.kept ++ job ∷ []
    pub given : new.given ≡ old.given
    pub there : new.there ≡ slice_set old.there w true

  -- the kept job that came first is gone, and one more is kept
  pub record Replaces (oldest job : X) (old new : Jobs X) : Type 0 where
    pub kept : (rest : List X) × (old.kept ≡ oldest ∷ rest) × (new.kept ≡ rest ++ job ∷ [])
    pub given : new.given ≡ old.given
    pub there : new.there ≡ old.there

  -- worker w had this job in hand, and has none then
  pub record Own (w : ℕ) (job : X) (old new : Jobs X) : Type 0 where
    pub had : slice_get old.given w ≡ Some (Some job)
    pub given : new.given ≡ slice_set old.given w None
    pub kept : new.kept ≡ old.kept
    pub there : new.there ≡ old.there

  -- worker w has no job in hand, and takes the kept one that came first
  pub record First (w : ℕ) (job : X) (old new : Jobs X) : Type 0 where
    pub had : slice_get old.given w ≡ Some None
    pub kept : old.kept ≡ job ∷ new.kept
    pub given : new.given ≡ old.given
    pub there : new.there ≡ old.there

  -- worker w, which has no job in hand, isn't there any more
  pub record Ends (w : ℕ) (old new : Jobs X) : Type 0 where
    pub had : slice_get old.given w ≡ Some None
    pub here : slice_get old.there w ≡ Some true
    pub kept : new.kept ≡ old.kept
    pub given : new.given ≡ old.given
    pub there : new.there ≡ slice_set old.there w false

  -- worker w gives its job up, and isn't there any more
  pub record Fails (w : ℕ) (job : X) (old new : Jobs X) : Type 0 where
    pub had : slice_get old.given w ≡ Some (Some job)
    pub here : slice_get old.there w ≡ Some true
    pub given : new.given ≡ slice_set old.given w None
    pub kept : new.kept ≡ old.kept
    pub there : new.there ≡ slice_set old.there w false

  -- all kept jobs are gone: so many
  pub record Empties (count : ℕ) (old new : Jobs X) : Type 0 where
    pub gone : length old.kept ≡ count
    pub kept : new.kept ≡ []
    pub given : new.given ≡ old.given
    pub there : new.there ≡ old.there

  -- what an answer to `execute` says of the jobs
  abbrev pub ExecuteMoves : (job : X) → ExecuteAnswer X → Jobs X → Jobs X → Type 0
  ExecuteMoves job (Handed v) old new = Gets v job old new
  ExecuteMoves job (Started v) old new = Begins v job old new
  ExecuteMoves job Kept old new = Keeps job old new
  ExecuteMoves job (KeptStart v) old new = KeepsBegins v job old new
  ExecuteMoves job (Aborted back) old new = new ≡ old
  ExecuteMoves job (CallerRuns back) old new = new ≡ old
  ExecuteMoves job (Dropped back) old new = new ≡ old
  ExecuteMoves job (DroppedOldest u oldest) old new = Replaces oldest job old new

  -- to worker w's `ready`
  abbrev pub ReadyMoves : (w : ℕ) → ReadyAnswer X → Jobs X → Jobs X → Type 0
  ReadyMoves w (Run u job) old new = Own w job old new ⊎ First w job old new
  ReadyMoves w Waits old new = new ≡ old
  ReadyMoves w Exit old new = Ends w old new

  -- to its `follow`
  abbrev pub FollowMoves : (w : ℕ) → Followed X → Jobs X → Jobs X → Type 0
  FollowMoves w (FollowRun u job) old new = Own w job old new ⊎ First w job old new
  FollowMoves w FollowExit old new = Ends w old new
  FollowMoves w NotYet old new = new ≡ old

  -- to its `idle_end`
  abbrev pub IdleMoves : (w : ℕ) → IdleAnswer → Jobs X → Jobs X → Type 0
  IdleMoves w IdleExits old new = Ends w old new
  IdleMoves w Stay old new = new ≡ old
  IdleMoves w Late old new = new ≡ old

  -- to its start that failed
  abbrev pub FailMoves : (w : ℕ) → Option X → Jobs X → Jobs X → Type 0
  FailMoves w None old new = Ends w old new
  FailMoves w (Some job) old new = Fails w job old new

  -- what an answer says of the jobs, where worker w asked; it is an answer to this call
  abbrev pub Moves : (w : ℕ) → PoolCall X → PoolAnswer X → Jobs X → Jobs X → Type 0
  Moves w (Execute job) (Executed t answer) old new = ExecuteMoves job answer old new
  Moves w ShutDown WasShut old new = new ≡ old
  Moves w ShutDownNow (Returned jobs) old new = Empties (length jobs.items) old new
  Moves w Ready (BeReady t answer) old new = ReadyMoves w answer old new
  Moves w Follow (ToFollow t answer) old new = FollowMoves w answer old new
  Moves w (Finish a) (Finished t) old new = new ≡ old
  Moves w IdleEnd (Idled t answer) old new = IdleMoves w answer old new
  Moves w Leave Left old new = Ends w old new
  Moves w StartFailed (NotStarted t job) old new = FailMoves w job old new
  Moves w call answer old new = ⊥

-- a step of a pool, and what it does to its jobs: what is known of a step behind a lock
pub record IsMade {X : Type 0} (old : Shown X) (i : ℕ) (call : PoolCall X) (answer : PoolAnswer X)
    (new : Shown X) : Type 0 where
  pub step : PoolStep old i call answer new
  pub moves : Moves (worker_of old.settings i) call answer (jobs_of old.pool) (jobs_of new.pool)

-- room changes no step of a call that asks for it
pub roomy-made : {X : Type 0} (old : Shown X) (room i : ℕ) (call : PoolCall X) (answer : PoolAnswer X) (new : Shown X)
    → 0 < pool_room call → IsMade (record old { room = room }) i call answer new → IsMade old i call answer new
roomy-made old room i call answer new some made =
    record { step = roomy-steps old room i call answer new some made.step; moves = made.moves }
