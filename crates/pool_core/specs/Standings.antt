-- What became of each job. A job is known by its ticket.
use Rattle.std.specs.Prelude.{ℕ, ◌+◌, ◌==◌, ◌&&◌, Bool, true, false, Some, None, List, [], ◌∷◌, ◌++◌, map, filter}
use Rattle.std.specs.Prelude.{count_by}
use Rattle.meet_tickets.specs.declared.lines.Entry.{Entry}
use Rattle.meet_tickets.specs.declared.places.Side.TheVariants.{Giver}
use Rattle.meet_tickets.specs.declared.records.Record.{Record}
use Rattle.meet_tickets.specs.Meeting.{is_on}
use Rattle.pool_core.specs.declared.settings.Settings.{Settings}
use Rattle.pool_core.specs.declared.stages.Stage.{Stage}
use Rattle.pool_core.specs.declared.stages.Stage.TheVariants.{Absent, Starting, Waiting, Cut, HandedOver, Running}
use Rattle.pool_core.specs.declared.deeds.PoolDeed.{PoolDeed}
use Rattle.pool_core.specs.declared.deeds.PoolDeed.TheVariants.{Handed, Started, Kept, KeptStart, Aborted, CallerRuns}
use Rattle.pool_core.specs.declared.deeds.PoolDeed.TheVariants.{Dropped, DroppedOldest, Runs, Waits, Exits, Finished}
use Rattle.pool_core.specs.declared.deeds.PoolDeed.TheVariants.{IdleExit, Leaves, StartFailed, ShutDown, ShutDownNow}
use Rattle.pool_core.specs.Pools.{Pool, stage_of}
use Rattle.pool_core.specs.Histories.{Moment, Based, moment_of_base, next_moment, moment_from}

-- where a job is
pub data Standing : Type 0 where
  IsKept : Standing
  StartsAt : (worker : ℕ) → Standing
  HandedTo : (worker : ℕ) → Standing
  RunsAt : (worker : ℕ) → Standing
  IsDone : (answer : ℕ) → Standing
  IsBack : Standing
  IsDropped : Standing
  IsItsCallers : Standing

-- a job of this ticket stands so
pub record Job : Type 0 where
  pub ticket : ℕ
  pub standing : Standing

abbrev pub job : ℕ → Standing → Job
job t standing = record { ticket = t; standing = standing }

-- the kept jobs
abbrev pub kept_jobs : Standing → List (Entry ℕ) → List Job
kept_jobs standing line = map (λ e. job e.ticket standing) (filter (is_on Giver) line)

-- the job of a worker
abbrev pub job_at : (worker : ℕ) → Stage ℕ → List Job
job_at w Absent = []
job_at w (Starting None) = []
job_at w (Starting (Some task)) = job task.ticket (StartsAt w) ∷ []
job_at w (Waiting t) = []
job_at w (Cut t) = []
job_at w (HandedOver t task) = job task.ticket (HandedTo w) ∷ []
job_at w (Running t) = job t (RunsAt w) ∷ []

-- the jobs of the workers from this number on
abbrev pub jobs_from : (worker : ℕ) → List (Stage ℕ) → List Job
jobs_from w [] = []
jobs_from w (stage ∷ workers) = job_at w stage ++ jobs_from (w + 1) workers

-- the job of a worker that can't be started comes back
abbrev pub unstarted : Stage ℕ → List Job
unstarted Absent = []
unstarted (Starting None) = []
unstarted (Starting (Some task)) = job task.ticket IsBack ∷ []
unstarted (Waiting t) = []
unstarted (Cut t) = []
unstarted (HandedOver t task) = []
unstarted (Running t) = []

-- the jobs that a deed ends
abbrev pub ended_by : Settings → Pool ℕ → (seat ticket : ℕ) → PoolDeed ℕ → List Job
ended_by s p i t (Handed w tag) = []
ended_by s p i t (Started w tag) = []
ended_by s p i t (Kept tag) = []
ended_by s p i t (KeptStart w tag) = []
ended_by s p i t (Aborted tag) = job t IsBack ∷ []
ended_by s p i t (CallerRuns tag) = job t IsItsCallers ∷ []
ended_by s p i t (Dropped tag) = job t IsDropped ∷ []
ended_by s p i t (DroppedOldest u old tag) = job u IsDropped ∷ []
ended_by s p i t (Runs u tag) = []
ended_by s p i t Waits = []
ended_by s p i t Exits = []
ended_by s p i t (Finished a) = job t (IsDone a) ∷ []
ended_by s p i t IdleExit = []
ended_by s p i t Leaves = []
ended_by s p i t StartFailed = unstarted (stage_of s p i)
ended_by s p i t ShutDown = []
ended_by s p i t (ShutDownNow count) = kept_jobs IsBack p.line

-- the jobs that records ended
abbrev pub ended_from : Settings → Moment → List (Record (PoolDeed ℕ)) → List Job
ended_from s m [] = []
ended_from s m (r ∷ records) = ended_by s m.pool r.seat r.ticket r.deed ++ ended_from s (next_moment s m r) records

-- where the jobs of a pool are
abbrev pub jobs_in : Pool ℕ → List Job
jobs_in p = kept_jobs IsKept p.line ++ jobs_from 0 p.workers

-- all jobs of a history with their standings: those that the base has, and those that were executed since
abbrev pub standings_from : Settings → Moment → List (Record (PoolDeed ℕ)) → List Job
standings_from s m records = ended_from s m records ++ jobs_in (moment_from s m records).pool

abbrev pub standings : Settings → Based → List (Record (PoolDeed ℕ)) → List Job
standings s b records = standings_from s (moment_of_base s b) records

-- whether a deed is that of `execute`
abbrev pub executes : PoolDeed ℕ → Bool
executes (Handed w tag) = true
executes (Started w tag) = true
executes (Kept tag) = true
executes (KeptStart w tag) = true
executes (Aborted tag) = true
executes (CallerRuns tag) = true
executes (Dropped tag) = true
executes (DroppedOldest u old tag) = true
executes (Runs u tag) = false
executes Waits = false
executes Exits = false
executes (Finished a) = false
executes IdleExit = false
executes Leaves = false
executes StartFailed = false
executes ShutDown = false
executes (ShutDownNow count) = false

-- whether a record executed the job of this ticket
abbrev pub brings : (ticket : ℕ) → Record (PoolDeed ℕ) → Bool
brings t r = executes r.deed && (r.ticket == t)

-- how many jobs of this ticket were executed
abbrev pub brought : List (Record (PoolDeed ℕ)) → (ticket : ℕ) → ℕ
brought records t = count_by (brings t) records

-- how many standings the job of this ticket has
abbrev pub standing_count : List Job → (ticket : ℕ) → ℕ
standing_count jobs t = count_by (λ j. j.ticket == t) jobs
