-- Why a pool's record can't come next, and what the checker shows of itself.
use Rattle.std.specs.Prelude.{◌≡◌, ℕ, ◌+◌, ◌<◌, ◌≤◌, ◌||◌, nat_lt, Bool, true, false, Option, List, [], ◌∷◌, ◌++◌}
use Rattle.std.specs.Prelude.{length}
use Rattle.std.specs.Prelude.{if◌then◌else◌}
use Rattle.meet_tickets.specs.declared.records.Record.{Record}
use Rattle.pool_core.specs.declared.settings.Settings.{Settings}
use Rattle.pool_core.specs.declared.stages.Task.{Task}
use Rattle.pool_core.specs.declared.stages.Stage.{Stage}
use Rattle.pool_core.specs.declared.stages.Stage.TheVariants.{Starting}
use Rattle.pool_core.specs.declared.deeds.PoolDeed.{PoolDeed}
use Rattle.pool_core.specs.declared.deeds.PoolDeed.TheVariants.{Handed, Started, Kept, KeptStart, Aborted, CallerRuns}
use Rattle.pool_core.specs.declared.deeds.PoolDeed.TheVariants.{Dropped, DroppedOldest, Runs, Waits, Exits, Finished}
use Rattle.pool_core.specs.declared.deeds.PoolDeed.TheVariants.{IdleExit, Leaves, StartFailed, ShutDown, ShutDownNow}
use Rattle.pool_core.specs.Pools.{Pool, stage_of}
use Rattle.pool_core.specs.Calls.{is_worker, is_starting, is_at_queue, is_running, is_jobless}
use Rattle.pool_core.specs.Steps.{IsOwn, Allows, draws, first_ticket}
use Rattle.pool_core.specs.Histories.{Moment, Based, IsLegalOn, moment_of_base, moment_from}
use Rattle.pool_history.specs.declared.checker.PoolWhy.{PoolWhy}
use Rattle.pool_history.specs.declared.checker.PoolWhy.TheVariants.{NoSuchSeat, NotOpen, TicketOrder, WrongReply}
use Rattle.pool_history.specs.declared.checker.PoolFault.{PoolFault}
use Rattle.pool_history.specs.declared.checker.PoolFault.TheVariants.{Illegal, Memory}

-- whether a step is a caller's: `execute` and the shutdowns are
abbrev pub is_callers : PoolDeed ℕ → Bool
is_callers (Handed w tag) = true
is_callers (Started w tag) = true
is_callers (Kept tag) = true
is_callers (KeptStart w tag) = true
is_callers (Aborted tag) = true
is_callers (CallerRuns tag) = true
is_callers (Dropped tag) = true
is_callers (DroppedOldest u old tag) = true
is_callers (Runs u tag) = false
is_callers Waits = false
is_callers Exits = false
is_callers (Finished a) = false
is_callers IdleExit = false
is_callers Leaves = false
is_callers StartFailed = false
is_callers ShutDown = true
is_callers (ShutDownNow count) = true

-- the seat is one of those whose step it is
abbrev pub is_seated : Settings → (seat : ℕ) → PoolDeed ℕ → Bool
is_seated s i deed = if is_callers deed then nat_lt i s.sizes.callers else is_worker s i

-- whether a step of this kind comes from a worker in this state; a caller's comes from none
abbrev pub comes_from : Stage ℕ → PoolDeed ℕ → Bool
comes_from stage (Handed w tag) = false
comes_from stage (Started w tag) = false
comes_from stage (Kept tag) = false
comes_from stage (KeptStart w tag) = false
comes_from stage (Aborted tag) = false
comes_from stage (CallerRuns tag) = false
comes_from stage (Dropped tag) = false
comes_from stage (DroppedOldest u old tag) = false
comes_from stage (Runs u tag) = is_starting stage || is_at_queue stage
comes_from stage Waits = is_starting stage
comes_from stage Exits = is_starting stage || is_at_queue stage
comes_from stage (Finished a) = is_running stage
comes_from stage IdleExit = is_at_queue stage
comes_from stage Leaves = is_jobless stage
comes_from stage StartFailed = is_starting stage
comes_from stage ShutDown = false
comes_from stage (ShutDownNow count) = false

-- a worker starts, with the job of this ticket, or with none where it is 0
abbrev pub Starts : Stage ℕ → (ticket : ℕ) → Type 0
Starts stage t = (first : Option (Task ℕ)) × (stage ≡ Starting first) × (t ≡ first_ticket first)

-- a worker's step comes from its state, and is of the ticket that it has open there
abbrev pub IsOpen : Settings → Pool ℕ → Record (PoolDeed ℕ) → Type 0
IsOpen s p r = (comes_from (stage_of s p r.seat) r.deed ≡ true) × IsOwn (stage_of s p r.seat) r.ticket

-- a step of the right seat, and of an open worker where it is a worker's
pub record IsPlaced (s : Settings) (p : Pool ℕ) (r : Record (PoolDeed ℕ)) : Type 0 where
  pub seated : is_seated s r.seat r.deed ≡ true
  pub opened : is_callers r.deed ≡ false → IsOpen s p r

-- the first reason for which a record can't come next (our choice of words and order)
abbrev pub IsFaulty : Settings → Moment → Record (PoolDeed ℕ) → PoolWhy → Type 0
IsFaulty s m r NoSuchSeat = is_seated s r.seat r.deed ≡ false
IsFaulty s m r NotOpen =
    (is_seated s r.seat r.deed ≡ true) × (is_callers r.deed ≡ false) × (IsOpen s m.pool r → ⊥)
IsFaulty s m r TicketOrder =
    IsPlaced s m.pool r × (0 < draws (stage_of s m.pool r.seat) r.deed) × (r.ticket ≤ m.last)
IsFaulty s m r WrongReply =
    IsPlaced s m.pool r × (0 < draws (stage_of s m.pool r.seat) r.deed → m.last < r.ticket)
    × (Allows s m.pool r.seat r.ticket r.deed → ⊥)

-- the record of this number is the last of the shortest prefix that isn't legal after a base, whose records count
pub record IsIllegalAt (s : Settings) (base : Based) (records : List (Record (PoolDeed ℕ))) (number : ℕ)
    (why : PoolWhy) : Type 0 where
  pub prefix : List (Record (PoolDeed ℕ))
  pub bad : Record (PoolDeed ℕ)
  pub rest : List (Record (PoolDeed ℕ))
  pub parts : records ≡ prefix ++ bad ∷ rest
  pub last : number ≡ base.gone + length prefix + 1
  pub legal : IsLegalOn s base prefix
  pub illegal : IsLegalOn s base (prefix ++ bad ∷ []) → ⊥
  pub faulty : IsFaulty s (moment_from s (moment_of_base s base) prefix) bad why

-- what the checker says of records that aren't legal; want of memory says nothing
abbrev pub IsPoolFault : Settings → Based → List (Record (PoolDeed ℕ)) → PoolFault → Type 0
IsPoolFault s base records (Illegal number why) = IsIllegalAt s base records number why
IsPoolFault s base records Memory = Unit {0}

-- what a checked pool shows of itself
pub record Checked : Type 0 where
  pub settings : Settings
  pub moment : Moment
  pub room : ℕ  -- how many entries more its line takes without growth
