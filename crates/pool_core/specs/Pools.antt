-- What a pool is at one moment, and the moves that its steps are made of. Generic in the job: the job itself in the
-- contracts of the pool, its tag in histories.
use Rattle.std.specs.Prelude.{ℕ, ◌+◌, ◌*◌, max, ◌-◌, Bool, true, false, not, Option, Some, None}
use Rattle.std.specs.Prelude.{List, [], ◌∷◌, ◌++◌, map, filter, position, count_by, sum_by, nat_lt, slice_index_or}
use Rattle.std.specs.Prelude.{slice_set, option_map, option_to_list, if◌then◌else◌}
use Rattle.std.specs.List.{flat_map, filter_map}
use Rattle.meet_tickets.specs.declared.lines.Entry.{Entry}
use Rattle.meet_tickets.specs.declared.places.Side.TheVariants.{Giver}
use Rattle.meet_tickets.specs.declared.places.End.{End}
use Rattle.meet_tickets.specs.declared.places.End.TheVariants.{Front}
use Rattle.meet_tickets.specs.Meeting.{end_of, is_on, kept_count}
use Rattle.meet_tickets.specs.BySeat.{unmet}
use Rattle.pool_core.specs.declared.settings.Settings.{Settings}
use Rattle.pool_core.specs.declared.settings.PoolQueue.{PoolQueue}
use Rattle.pool_core.specs.declared.settings.PoolQueue.TheVariants.{Hand, Unbounded, Bounded}
use Rattle.pool_core.specs.declared.stages.Task.{Task}
use Rattle.pool_core.specs.declared.stages.Stage.{Stage}
use Rattle.pool_core.specs.declared.stages.Stage.TheVariants.{Absent, Starting, Waiting, Cut, HandedOver, Running}

-- a pool
pub record Pool (X : Type 0) : Type 0 where
  pub shut : Bool  -- it accepts no job any more
  pub line : List (Entry X)  -- the kept jobs, or the takes of the waiting workers, in order
  pub workers : List (Stage X)  -- what each worker does, by its number
  pub largest : ℕ  -- the most workers so far
  pub done : ℕ  -- how many jobs are done
  pub back : ℕ  -- how many were handed back: aborted, out of an emptied line, or of a worker that failed to start
  pub dropped : ℕ  -- how many were dropped
  pub ran : ℕ  -- how many their callers run

-- at which end of the line its queue meets: a transfer queue at the front
abbrev pub queue_end : PoolQueue → End
queue_end (Hand order) = end_of order
queue_end Unbounded = Front
queue_end (Bounded most) = Front

-- how many jobs it keeps at most: one that only hands over keeps none (SynchronousQueue)
abbrev pub bound_of : PoolQueue → Option ℕ
bound_of (Hand order) = Some 0
bound_of Unbounded = None
bound_of (Bounded most) = Some most

-- whether there is a worker
abbrev pub is_there : {X : Type 0} → Stage X → Bool
is_there Absent = false
is_there (Starting first) = true
is_there (Waiting t) = true
is_there (Cut t) = true
is_there (HandedOver t task) = true
is_there (Running t) = true

-- how many workers there are
abbrev pub working : {X : Type 0} → Pool X → ℕ
working p = count_by is_there p.workers

-- the least number that no worker has
abbrev pub free : {X : Type 0} → Pool X → Option ℕ
free p = position (λ stage. not (is_there stage)) p.workers

-- which worker's seat this is: the callers' seats come first
abbrev pub worker_of : Settings → (seat : ℕ) → ℕ
worker_of s i = i - s.sizes.callers

-- what the worker of a seat does; a caller's seat has none
abbrev pub stage_of : {X : Type 0} → Settings → Pool X → (seat : ℕ) → Stage X
stage_of s p i = if nat_lt i s.sizes.callers then Absent else slice_index_or p.workers (worker_of s i) Absent

-- a worker comes to another stage
abbrev pub staged : {X : Type 0} → Pool X → (worker : ℕ) → Stage X → Pool X
staged p w stage = record p { workers = slice_set p.workers w stage }

-- a worker starts, with this job or none
abbrev pub started : {X : Type 0} → Pool X → (worker : ℕ) → Option (Task X) → Pool X
started p w first = record (staged p w (Starting first)) { largest = max p.largest (working p + 1) }

-- a job comes to the line's end
abbrev pub kept : {X : Type 0} → Pool X → (seat ticket : ℕ) → X → Pool X
kept p i t job = record p { line = p.line ++ record { ticket = t; seat = i; item = Some job; waits = false } ∷ [] }

-- who is met leaves the line
abbrev pub met_one : {X : Type 0} → Settings → Pool X → Pool X
met_one s p = record p { line = unmet (queue_end s.queue) p.line }

-- a shutdown cuts the take of a worker that waits
abbrev pub cut_stage : {X : Type 0} → Stage X → Stage X
cut_stage Absent = Absent
cut_stage (Starting first) = Starting first
cut_stage (Waiting t) = Cut t
cut_stage (Cut t) = Cut t
cut_stage (HandedOver t task) = HandedOver t task
cut_stage (Running t) = Running t

-- no job is accepted any more; the takes are cut, and kept jobs stay
abbrev pub shut_down : {X : Type 0} → Pool X → Pool X
shut_down p = record p { shut = true; line = filter (is_on Giver) p.line; workers = map cut_stage p.workers }

-- how many records a worker may still need
abbrev pub stage_owes : {X : Type 0} → Stage X → ℕ
stage_owes Absent = 0
stage_owes (Starting None) = 2
stage_owes (Starting (Some task)) = 4
stage_owes (Waiting t) = 1
stage_owes (Cut t) = 1
stage_owes (HandedOver t task) = 4
stage_owes (Running t) = 3

-- how many records may still be needed: by the workers, and by each kept job
abbrev pub owed : {X : Type 0} → Pool X → ℕ
owed p = sum_by stage_owes p.workers + 3 * kept_count p.line

-- one for a worker that has a job: it starts with it, was handed it or runs it
abbrev pub jobs_at : {X : Type 0} → Stage X → ℕ
jobs_at Absent = 0
jobs_at (Starting None) = 0
jobs_at (Starting (Some task)) = 1
jobs_at (Waiting t) = 0
jobs_at (Cut t) = 0
jobs_at (HandedOver t task) = 1
jobs_at (Running t) = 1

-- how many jobs were executed: those that came to an end, and those that workers and the line have
abbrev pub ended : {X : Type 0} → Pool X → ℕ
ended p = p.done + p.back + p.dropped + p.ran

abbrev pub executed : {X : Type 0} → Pool X → ℕ
executed p = ended p + sum_by jobs_at p.workers + kept_count p.line

-- a worker that has no job in hand
abbrev pub HasNoJob : {X : Type 0} → Stage X → Type 0
HasNoJob Absent = Unit {0}
HasNoJob (Starting None) = Unit {0}
HasNoJob (Starting (Some task)) = ⊥
HasNoJob (Waiting t) = Unit {0}
HasNoJob (Cut t) = Unit {0}
HasNoJob (HandedOver t task) = ⊥
HasNoJob (Running t) = Unit {0}

-- the job of an entry, where it is a kept one
abbrev pub task_of : {X : Type 0} → Entry X → Option (Task X)
task_of e = option_map (λ job. record { ticket = e.ticket; job = job }) e.item

-- the kept jobs, in the order in which they came
abbrev pub kept_tasks : {X : Type 0} → List (Entry X) → List (Task X)
kept_tasks line = flat_map (λ e. option_to_list (task_of e)) line

-- the job that a worker has in hand
abbrev pub task_at : {X : Type 0} → Stage X → Option (Task X)
task_at Absent = None
task_at (Starting first) = first
task_at (Waiting t) = None
task_at (Cut t) = None
task_at (HandedOver t task) = Some task
task_at (Running t) = None

-- what is left in a pool that is taken apart: the kept jobs, and those in the hands of workers, by number
abbrev pub left_in : {X : Type 0} → Pool X → List (Task X)
left_in p = kept_tasks p.line ++ filter_map task_at p.workers
