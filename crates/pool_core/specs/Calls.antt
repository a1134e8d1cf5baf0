-- The calls of a pool: why each is refused, and which deed each answer tells.
use Rattle.std.specs.Prelude.{◌≡◌, ℕ, ◌+◌, ◌<◌, nat_lt, nat_le, ◌==◌, ◌&&◌, ◌||◌, Bool, true, false, not, Option, Some}
use Rattle.std.specs.Prelude.{None, List, length, if◌then◌else◌}
use Rattle.meet_tickets.specs.declared.refusals.Refusal.{Refusal}
use Rattle.meet_tickets.specs.declared.refusals.Refusal.TheVariants.{TicketsSpent, NoSuchSeat, NotOpen, BadSizes}
use Rattle.meet_tickets.specs.declared.refusals.Refusal.TheVariants.{PolicyNeedsBuffer}
use Rattle.meet_tickets.specs.declared.places.Order.TheVariants.{Fair, Unfair, Transfer}
use Rattle.pool_core.specs.declared.settings.PoolQueue.{PoolQueue}
use Rattle.pool_core.specs.declared.settings.PoolQueue.TheVariants.{Hand, Unbounded, Bounded}
use Rattle.pool_core.specs.declared.settings.Settings.{Settings}
use Rattle.pool_core.specs.declared.settings.Policy.{Policy}
use Rattle.pool_core.specs.declared.settings.Policy.TheVariants.{DiscardOldest}
use Rattle.pool_core.specs.declared.stages.Task.{Task}
use Rattle.pool_core.specs.declared.stages.Stage.{Stage}
use Rattle.pool_core.specs.declared.stages.Stage.TheVariants.{Starting, Waiting, Cut, HandedOver, Running}
use Rattle.pool_core.specs.declared.deeds.PoolDeed.{PoolDeed}
use Rattle.pool_core.specs.declared.deeds.PoolDeed.TheVariants.{Handed as HandedDeed, Started as StartedDeed}
use Rattle.pool_core.specs.declared.deeds.PoolDeed.TheVariants.{Kept as KeptDeed, KeptStart as KeptStartDeed}
use Rattle.pool_core.specs.declared.deeds.PoolDeed.TheVariants.{Aborted as AbortedDeed, CallerRuns as CallerRunsDeed}
use Rattle.pool_core.specs.declared.deeds.PoolDeed.TheVariants.{Dropped as DroppedDeed}
use Rattle.pool_core.specs.declared.deeds.PoolDeed.TheVariants.{DroppedOldest as DroppedOldestDeed, Runs}
use Rattle.pool_core.specs.declared.deeds.PoolDeed.TheVariants.{Waits as WaitsDeed, Exits, IdleExit, StartFailed}
use Rattle.pool_core.specs.declared.deeds.PoolDeed.TheVariants.{ShutDownNow}
use Rattle.pool_core.specs.declared.answers.Executed.{Executed}
use Rattle.pool_core.specs.declared.answers.Executed.TheVariants.{Handed, Started, Kept, KeptStart, Aborted, CallerRuns}
use Rattle.pool_core.specs.declared.answers.Executed.TheVariants.{Dropped, DroppedOldest}
use Rattle.pool_core.specs.declared.answers.Ready.{Ready}
use Rattle.pool_core.specs.declared.answers.Ready.TheVariants.{Run, Waits, Exit}
use Rattle.pool_core.specs.declared.answers.Followed.{Followed}
use Rattle.pool_core.specs.declared.answers.Followed.TheVariants.{Run as FollowRun, Exit as FollowExit, NotYet}
use Rattle.pool_core.specs.declared.answers.IdleEnd.{IdleEnd}
use Rattle.pool_core.specs.declared.answers.IdleEnd.TheVariants.{Exit as IdleExits, Stay, Late}
use Rattle.pool_core.specs.Pools.{stage_of, owed, kept_tasks}
use Rattle.pool_core.specs.Steps.{Allows, after, draws, may_expire}
use Rattle.pool_core.specs.Shown.{Shown}
use Rattle.pool_core.specs.Limits.{most_together}
use Rattle.meet_tickets.specs.Limits.{last_ticket, most_kept}

-- a step of a pool: which deed, by whom, at which ticket
pub record Step {X : Type 0} (old : Shown X) (seat ticket : ℕ) (deed : PoolDeed X) (new : Shown X) : Type 0 where
  pub allowed : Allows old.settings old.pool seat ticket deed
  pub pool_is : new.pool ≡ after old.settings old.pool seat ticket deed
  pub used : new.next ≡ old.next + draws (stage_of old.settings old.pool seat) deed
  pub newest : 0 < draws (stage_of old.settings old.pool seat) deed → ticket + 1 ≡ new.next
  pub settings : new.settings ≡ old.settings

-- why a caller's job is refused, HistoryFull and Memory aside: the first that applies
abbrev pub execute_refusal : {X : Type 0} → Shown X → (seat : ℕ) → Option Refusal
execute_refusal p i =
    if nat_le p.settings.sizes.callers i then Some NoSuchSeat
    else (if nat_lt (last_ticket + 1) (p.next + owed p.pool + 6) then Some TicketsSpent else None)

-- why a shutdown is refused
abbrev pub shutdown_refusal : {X : Type 0} → Shown X → (seat : ℕ) → Option Refusal
shutdown_refusal p i = if nat_le p.settings.sizes.callers i then Some NoSuchSeat else None

-- a worker's seat
abbrev pub is_worker : Settings → (seat : ℕ) → Bool
is_worker s i = nat_le s.sizes.callers i && nat_lt i (s.sizes.callers + s.sizes.maximum)

-- why a worker's call is refused: from another seat, or where it isn't in the state that the call names
abbrev pub worker_refusal : {X : Type 0} → (Stage X → Bool) → Shown X → (seat : ℕ) → Option Refusal
worker_refusal names p i =
    if not (is_worker p.settings i) then Some NoSuchSeat
    else (if names (stage_of p.settings p.pool i) then None else Some NotOpen)

-- the states that the calls name
abbrev pub is_starting : {X : Type 0} → Stage X → Bool
is_starting (Starting first) = true
is_starting stage = false

abbrev pub is_at_queue : {X : Type 0} → Stage X → Bool
is_at_queue (Waiting t) = true
is_at_queue (Cut t) = true
is_at_queue (HandedOver t task) = true
is_at_queue stage = false

abbrev pub is_running : {X : Type 0} → Stage X → Bool
is_running (Running t) = true
is_running stage = false

abbrev pub is_jobless : {X : Type 0} → Stage X → Bool
is_jobless (Starting None) = true
is_jobless stage = false

-- the deed of an answer to `execute`
abbrev pub execute_deed : {X : Type 0} → X → Executed X → PoolDeed X
execute_deed job (Handed w) = HandedDeed w job
execute_deed job (Started w) = StartedDeed w job
execute_deed job Kept = KeptDeed job
execute_deed job (KeptStart w) = KeptStartDeed w job
execute_deed job (Aborted back) = AbortedDeed back
execute_deed job (CallerRuns back) = CallerRunsDeed back
execute_deed job (Dropped back) = DroppedDeed back
execute_deed job (DroppedOldest u old) = DroppedOldestDeed u old job

-- a job that comes back is the one that came
abbrev pub ComesBack : {X : Type 0} → X → Executed X → Type 0
ComesBack job (Aborted back) = back ≡ job
ComesBack job (CallerRuns back) = back ≡ job
ComesBack job (Dropped back) = back ≡ job
ComesBack job answer = Unit {0}

-- of an answer to `ready`
abbrev pub ready_deed : {X : Type 0} → Ready X → PoolDeed X
ready_deed (Run u job) = Runs u job
ready_deed Waits = WaitsDeed
ready_deed Exit = Exits

-- of an answer to `follow`, and of one that writes none
abbrev pub FollowStep : {X : Type 0} → Shown X → (seat ticket : ℕ) → Followed X → Shown X → Type 0
FollowStep old i t (FollowRun u job) new = Step old i t (Runs u job) new
FollowStep old i t FollowExit new = Step old i t Exits new
FollowStep old i t NotYet new = (stage_of old.settings old.pool i ≡ Waiting t) × (new ≡ old)

-- of an answer to `idle_end`
abbrev pub IdleStep : {X : Type 0} → Shown X → (seat ticket : ℕ) → IdleEnd → Shown X → Type 0
IdleStep old i t IdleExits new = Step old i t IdleExit new
IdleStep old i t Stay new =
    (stage_of old.settings old.pool i ≡ Waiting t) × (may_expire old.settings old.pool ≡ false) × (new ≡ old)
IdleStep {X} old i t Late new = (not_waiting : (u : ℕ) → stage_of old.settings old.pool i ≡ Waiting u → ⊥) × (new ≡ old)

-- the first job of a worker, as it comes back
abbrev pub first_task : {X : Type 0} → (ticket : ℕ) → Option X → Option (Task X)
first_task t None = None
first_task t (Some job) = Some (record { ticket = t; job = job })

-- of an answer to `shutdown_now`: the kept jobs, in the order in which they came
abbrev pub ReturnStep : {X : Type 0} → Shown X → (seat : ℕ) → List (Task X) → Shown X → Type 0
ReturnStep old i jobs new = Step old i 0 (ShutDownNow (length jobs)) new × (jobs ≡ kept_tasks old.pool.line)

-- of an answer to `start_failed`: the job that the worker would have begun with
abbrev pub StartStep : {X : Type 0} → Shown X → (seat ticket : ℕ) → Option X → Shown X → Type 0
StartStep old i t job new =
    Step old i t StartFailed new × (stage_of old.settings old.pool i ≡ Starting (first_task t job))

-- what `follow` and `idle_end` look for
abbrev pub is_waiting : {X : Type 0} → Stage X → Bool
is_waiting (Waiting t) = true
is_waiting stage = false

abbrev pub is_cut : {X : Type 0} → Stage X → Bool
is_cut (Cut t) = true
is_cut stage = false

abbrev pub take_of : {X : Type 0} → Stage X → Option ℕ
take_of (Waiting t) = Some t
take_of (Cut t) = Some t
take_of (HandedOver t task) = Some t
take_of stage = None

-- a bound out of its limits; a transfer queue keeps jobs, and doesn't only hand them over
abbrev pub bad_queue : PoolQueue → Bool
bad_queue (Hand Fair) = false
bad_queue (Hand Unfair) = false
bad_queue (Hand Transfer) = true
bad_queue Unbounded = false
bad_queue (Bounded most) = (most == 0) || nat_lt most_kept most

-- a policy that drops a kept job, and a queue that keeps none
abbrev pub needs_buffer : Policy → PoolQueue → Bool
needs_buffer DiscardOldest (Hand order) = true
needs_buffer policy queue = false

-- why a pool can't be made, Memory aside: the first that applies
abbrev pub settings_refusal : Settings → Option Refusal
settings_refusal s =
    if (s.sizes.callers == 0) || (s.sizes.maximum == 0) || nat_lt s.sizes.maximum s.sizes.core
    || nat_lt most_together (s.sizes.callers + s.sizes.maximum)
    || (s.sizes.core_timeout && (s.sizes.keep_alive == 0)) || bad_queue s.queue
    then Some BadSizes else (if needs_buffer s.policy s.queue then Some PolicyNeedsBuffer else None)

abbrev pub IsHanded : {X : Type 0} → Stage X → Type 0
IsHanded (HandedOver t task) = Unit {0}
IsHanded stage = ⊥

abbrev pub IsHandedTask : {X : Type 0} → Stage X → Task X → Type 0
IsHandedTask (HandedOver t task) own = task ≡ own
IsHandedTask stage own = ⊥
