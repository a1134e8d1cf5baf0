-- Which deed may come next in a pool, and what it leaves. `placing` is the heart: where a new job goes, the first that
-- applies.
use Rattle.std.specs.Prelude.{◌≡◌, ℕ, ◌+◌, ◌<◌, ◌==◌, nat_lt, ◌||◌, Bool, true, false, Option, Some, None, is_some}
use Rattle.std.specs.Prelude.{option_map, option_and_then, List, [], ◌∷◌, ◌++◌, if◌then◌else◌}
use Rattle.std.specs.Option.{option_map_or}
use Rattle.meet_tickets.specs.declared.lines.Entry.{Entry}
use Rattle.meet_tickets.specs.declared.places.Side.TheVariants.{Giver, Taker}
use Rattle.meet_tickets.specs.Meeting.{partner, kept_count}
use Rattle.meet_tickets.specs.BySeat.{without_first}
use Rattle.pool_core.specs.declared.settings.Settings.{Settings}
use Rattle.pool_core.specs.declared.settings.Policy.{Policy}
use Rattle.pool_core.specs.declared.settings.Policy.TheVariants.{Abort, CallerRuns, Discard, DiscardOldest}
use Rattle.pool_core.specs.declared.stages.Task.{Task}
use Rattle.pool_core.specs.declared.stages.Stage.{Stage}
use Rattle.pool_core.specs.declared.stages.Stage.TheVariants.{Absent, Starting, Waiting, Cut, HandedOver, Running}
use Rattle.pool_core.specs.declared.deeds.PoolDeed.{PoolDeed}
use Rattle.pool_core.specs.declared.deeds.PoolDeed.TheVariants.{Handed, Started, Kept, KeptStart, Aborted}
use Rattle.pool_core.specs.declared.deeds.PoolDeed.TheVariants.{CallerRuns as CallerRunsIt, Dropped, DroppedOldest}
use Rattle.pool_core.specs.declared.deeds.PoolDeed.TheVariants.{Runs, Waits, Exits, Finished, IdleExit, Leaves}
use Rattle.pool_core.specs.declared.deeds.PoolDeed.TheVariants.{StartFailed, ShutDown, ShutDownNow}
use Rattle.pool_core.specs.declared.placing.Placement.{Placement}
use Rattle.pool_core.specs.declared.placing.Placement.TheVariants.{ToPolicy, ToNew, ToTaker, ToLine}
use Rattle.pool_core.specs.Pools.{Pool, queue_end, bound_of, working, free, worker_of, stage_of, staged, started, kept}
use Rattle.pool_core.specs.Pools.{met_one, shut_down, jobs_at}

-- whether one job more may be kept
abbrev pub may_keep : {X : Type 0} → Settings → List (Entry X) → Bool
may_keep s line = option_map_or (λ most. nat_lt (kept_count line) most) (bound_of s.queue) true

-- where a new job goes: the first that applies (ThreadPoolExecutor.execute; shutdown first)
abbrev pub placing : {X : Type 0} → Settings → Pool X → Placement
placing s p =
    if p.shut then ToPolicy
    else (if nat_lt (working p) s.sizes.core then ToNew
    else (if is_some (partner (queue_end s.queue) p.line Giver) then ToTaker
    else (if may_keep s p.line then ToLine
    else (if nat_lt (working p) s.sizes.maximum then ToNew
    else ToPolicy))))

-- whether a policy drops the new job (in a pool that is shut, CallerRunsPolicy and DiscardOldestPolicy do)
abbrev pub drops_new : Policy → (shut : Bool) → Bool
drops_new Abort shut = false
drops_new CallerRuns shut = shut
drops_new Discard shut = true
drops_new DiscardOldest shut = shut

-- the kept job that came first
abbrev pub oldest : {X : Type 0} → Settings → Pool X → Option (Task X)
oldest {X} s p =
    option_and_then (λ (e : Entry X). option_map (λ (job : X).
    let task : Task X = record { ticket = e.ticket; job = job } in task) e.item)
    (partner (queue_end s.queue) p.line Taker)

-- the job that a worker gets: the one that it starts with, or the kept one that came first; or the one that it was
-- handed
abbrev pub job_for : {X : Type 0} → Settings → Pool X → Stage X → Option (Task X)
job_for s p Absent = None
job_for s p (Starting None) = oldest s p
job_for s p (Starting (Some task)) = Some task
job_for s p (Waiting t) = None
job_for s p (Cut t) = None
job_for s p (HandedOver t task) = Some task
job_for s p (Running t) = None

-- the ticket of a worker's take stays its own until it ends; a worker that starts uses a new one
abbrev pub IsOwn : {X : Type 0} → Stage X → (ticket : ℕ) → Type 0
IsOwn Absent t = ⊥
IsOwn (Starting first) t = Unit {0}
IsOwn (Waiting u) t = t ≡ u
IsOwn (Cut u) t = t ≡ u
IsOwn (HandedOver u task) t = t ≡ u
IsOwn (Running u) t = t ≡ u

-- a worker ends because the pool is shut: it was cut, or it starts and finds no job
abbrev pub MayExit : {X : Type 0} → Settings → Pool X → Stage X → Type 0
MayExit s p Absent = ⊥
MayExit s p (Starting None) = (oldest s p ≡ None) × (p.shut ≡ true)
MayExit s p (Starting (Some task)) = ⊥
MayExit s p (Waiting t) = ⊥
MayExit s p (Cut t) = Unit {0}
MayExit s p (HandedOver t task) = ⊥
MayExit s p (Running t) = ⊥

-- whether a worker that waited too long ends
abbrev pub may_expire : {X : Type 0} → Settings → Pool X → Bool
may_expire s p = s.sizes.core_timeout || nat_lt s.sizes.core (working p)

-- callers execute jobs and shut the pool
abbrev pub IsCaller : Settings → (seat : ℕ) → Type 0
IsCaller s i = i < s.sizes.callers

-- the ticket of a worker's first job, or 0
abbrev pub first_ticket : {X : Type 0} → Option (Task X) → ℕ
first_ticket first = option_map_or (λ task. task.ticket) first 0

-- which deed may come next, but for the order of new tickets
abbrev pub Allows : {X : Type 0} → Settings → Pool X → (seat ticket : ℕ) → PoolDeed X → Type 0
Allows {X} s p i t (Handed w job) =
    IsCaller s i × (placing s p ≡ ToTaker) × ((e : Entry X) × (partner (queue_end s.queue) p.line Giver ≡ Some e)
    × (e.seat ≡ s.sizes.callers + w))
Allows s p i t (Started w job) = IsCaller s i × (placing s p ≡ ToNew) × (free p ≡ Some w)
Allows s p i t (Kept job) = IsCaller s i × (placing s p ≡ ToLine) × (0 < working p)
Allows s p i t (KeptStart w job) = IsCaller s i × (placing s p ≡ ToLine) × (working p ≡ 0) × (free p ≡ Some w)
Allows s p i t (Aborted job) = IsCaller s i × (placing s p ≡ ToPolicy) × (s.policy ≡ Abort)
Allows s p i t (CallerRunsIt job) = IsCaller s i × (placing s p ≡ ToPolicy) × (s.policy ≡ CallerRuns) × (p.shut ≡ false)
Allows s p i t (Dropped job) = IsCaller s i × (placing s p ≡ ToPolicy) × (drops_new s.policy p.shut ≡ true)
Allows s p i t (DroppedOldest u old job) =
    IsCaller s i × (placing s p ≡ ToPolicy) × (s.policy ≡ DiscardOldest) × (p.shut ≡ false)
    × (oldest s p ≡ Some (record { ticket = u; job = old }))
Allows s p i t (Runs u job) =
    IsOwn (stage_of s p i) t × (job_for s p (stage_of s p i) ≡ Some (record { ticket = u; job = job }))
Allows s p i t Waits = (stage_of s p i ≡ Starting None) × (oldest s p ≡ None) × (p.shut ≡ false)
Allows s p i t Exits = IsOwn (stage_of s p i) t × MayExit s p (stage_of s p i)
Allows s p i t (Finished a) = stage_of s p i ≡ Running t
Allows s p i t IdleExit = (stage_of s p i ≡ Waiting t) × (may_expire s p ≡ true)
Allows s p i t Leaves = (stage_of s p i ≡ Starting None) × (t ≡ 0)
Allows {X} s p i t StartFailed =
    (first : Option (Task X)) × (stage_of s p i ≡ Starting first) × (t ≡ first_ticket first)
Allows s p i t ShutDown = IsCaller s i × (t ≡ 0)
Allows s p i t (ShutDownNow count) = IsCaller s i × (t ≡ 0) × (count ≡ kept_count p.line)

-- the job goes to the taker that is met
abbrev pub handed : {X : Type 0} → Settings → Pool X → (worker : ℕ) → Task X → Pool X
handed s p w task =
    option_map_or (λ e. staged (met_one s p) w (HandedOver e.ticket task)) (partner (queue_end s.queue) p.line Giver) p

-- a worker that starts without a job takes it out of the line
abbrev pub taken : {X : Type 0} → Settings → Pool X → Stage X → Pool X
taken s p Absent = p
taken s p (Starting None) = met_one s p
taken s p (Starting (Some task)) = p
taken s p (Waiting t) = p
taken s p (Cut t) = p
taken s p (HandedOver t task) = p
taken s p (Running t) = p

-- what a deed leaves
abbrev pub after : {X : Type 0} → Settings → Pool X → (seat ticket : ℕ) → PoolDeed X → Pool X
after s p i t (Handed w job) = handed s p w (record { ticket = t; job = job })
after s p i t (Started w job) = started p w (Some (record { ticket = t; job = job }))
after s p i t (Kept job) = kept p i t job
after s p i t (KeptStart w job) = started (kept p i t job) w None
after s p i t (Aborted job) = record p { back = p.back + 1 }
after s p i t (CallerRunsIt job) = record p { ran = p.ran + 1 }
after s p i t (Dropped job) = record p { dropped = p.dropped + 1 }
after s p i t (DroppedOldest u old job) = record (kept (met_one s p) i t job) { dropped = p.dropped + 1 }
after s p i t (Runs u job) = staged (taken s p (stage_of s p i)) (worker_of s i) (Running u)
after s p i t Waits =
    record (staged p (worker_of s i) (Waiting t)) {
      line = p.line
          ++ record { ticket = t; seat = i; item = None; waits = true } ∷ [];
    }
after s p i t Exits = staged p (worker_of s i) Absent
after s p i t (Finished a) = record (staged p (worker_of s i) (Starting None)) { done = p.done + 1 }
after s p i t IdleExit = record (staged p (worker_of s i) Absent) { line = without_first (λ e. e.ticket == t) p.line }
after s p i t Leaves = staged p (worker_of s i) Absent
after s p i t StartFailed = record (staged p (worker_of s i) Absent) { back = p.back + jobs_at (stage_of s p i) }
after s p i t ShutDown = shut_down p
after s p i t (ShutDownNow count) = record (shut_down p) { line = []; back = p.back + count }

-- how many tickets a worker's step uses
abbrev pub stage_draws : {X : Type 0} → Stage X → ℕ
stage_draws Absent = 0
stage_draws (Starting first) = 1
stage_draws (Waiting t) = 0
stage_draws (Cut t) = 0
stage_draws (HandedOver t task) = 0
stage_draws (Running t) = 0

-- how many tickets a step uses: a job's is the last of them
abbrev pub draws : {X : Type 0} → Stage X → PoolDeed X → ℕ
draws stage (Handed w job) = 1
draws stage (Started w job) = 1
draws stage (Kept job) = 1
draws stage (KeptStart w job) = 1
draws stage (Aborted job) = 1
draws stage (CallerRunsIt job) = 1
draws stage (Dropped job) = 1
draws stage (DroppedOldest u old job) = 3
draws stage (Runs u job) = stage_draws stage
draws stage Waits = stage_draws stage
draws stage Exits = stage_draws stage
draws stage (Finished a) = 0
draws stage IdleExit = 0
draws stage Leaves = 0
draws stage StartFailed = 0
draws stage ShutDown = 0
draws stage (ShutDownNow count) = 0
