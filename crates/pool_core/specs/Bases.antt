-- What stands for the records of a pool that were folded away.
use Rattle.std.specs.Prelude.{◌≡◌, ℕ, ◌+◌, ◌<◌, ◌≤◌, ◌==◌, Bool, false, option_map, List, map, count_by}
use Rattle.std.specs.Prelude.{IsPermutation}
use Rattle.std.specs.Option.{option_map_or}
use Rattle.std.specs.List.Sorted.{IsNonDecreasingBy}
use Rattle.meet_tickets.specs.declared.records.Record.{Record}
use Rattle.meet_line.specs.Seen.{marked_entry}
use Rattle.pool_core.specs.declared.settings.Settings.{Settings}
use Rattle.pool_core.specs.declared.stages.Task.{Task}
use Rattle.pool_core.specs.declared.stages.Stage.{Stage}
use Rattle.pool_core.specs.declared.stages.Stage.TheVariants.{Absent, Starting, Waiting, Cut, HandedOver, Running}
use Rattle.pool_core.specs.declared.deeds.PoolDeed.{PoolDeed}
use Rattle.pool_core.specs.declared.deeds.PoolDeed.TheVariants.{Finished as FinishedDeed, Handed, Started, Kept}
use Rattle.pool_core.specs.declared.deeds.PoolDeed.TheVariants.{KeptStart, Aborted, CallerRuns, Dropped, DroppedOldest}
use Rattle.pool_core.specs.declared.deeds.PoolDeed.TheVariants.{Runs, Waits, Exits, IdleExit, Leaves, StartFailed}
use Rattle.pool_core.specs.declared.deeds.PoolDeed.TheVariants.{ShutDown, ShutDownNow}
use Rattle.pool_core.specs.Pools.{Pool, left_in}
use Rattle.pool_core.specs.Calls.{take_of}
use Rattle.pool_core.specs.Histories.{Moment, Based, IsLegalOn, moment_of_base, moment_from}
use Rattle.pool_core.specs.Standings.{jobs_in, standing_count}
use Rattle.pool_core.specs.Shown.{Shown}
use Rattle.pool_core.specs.Sound.{IsSound}

-- jobs by their tags
abbrev pub tagged_task : {X : Type 0} → (X → ℕ) → Task X → Task ℕ
tagged_task mark task = record { ticket = task.ticket; job = mark task.job }

abbrev pub tagged_stage : {X : Type 0} → (X → ℕ) → Stage X → Stage ℕ
tagged_stage mark Absent = Absent
tagged_stage mark (Starting first) = Starting (option_map (tagged_task mark) first)
tagged_stage mark (Waiting t) = Waiting t
tagged_stage mark (Cut t) = Cut t
tagged_stage mark (HandedOver t task) = HandedOver t (tagged_task mark task)
tagged_stage mark (Running t) = Running t

abbrev pub tagged : {X : Type 0} → (X → ℕ) → Pool X → Pool ℕ
tagged mark p = record {
  shut = p.shut;
  line = map (marked_entry mark) p.line;
  workers = map (tagged_stage mark) p.workers;
  largest = p.largest;
  done = p.done;
  back = p.back;
  dropped = p.dropped;
  ran = p.ran;
}

abbrev pub tagged_deed : {X : Type 0} → (X → ℕ) → PoolDeed X → PoolDeed ℕ
tagged_deed mark (Handed w job) = Handed w (mark job)
tagged_deed mark (Started w job) = Started w (mark job)
tagged_deed mark (Kept job) = Kept (mark job)
tagged_deed mark (KeptStart w job) = KeptStart w (mark job)
tagged_deed mark (Aborted job) = Aborted (mark job)
tagged_deed mark (CallerRuns job) = CallerRuns (mark job)
tagged_deed mark (Dropped job) = Dropped (mark job)
tagged_deed mark (DroppedOldest u old job) = DroppedOldest u (mark old) (mark job)
tagged_deed mark (Runs u job) = Runs u (mark job)
tagged_deed mark Waits = Waits
tagged_deed mark Exits = Exits
tagged_deed mark (FinishedDeed a) = FinishedDeed a
tagged_deed mark IdleExit = IdleExit
tagged_deed mark Leaves = Leaves
tagged_deed mark StartFailed = StartFailed
tagged_deed mark ShutDown = ShutDown
tagged_deed mark (ShutDownNow count) = ShutDownNow count

-- whether a worker has this take, that it awaits, was met or was cut
abbrev pub has_take : (take : ℕ) → Stage ℕ → Bool
has_take t stage = option_map_or (λ u. u == t) (take_of stage) false

-- a moment that legal records may have led to: the pool is sound, each of its jobs stands there once, and each take is
-- one worker's
pub record IsOrderly (s : Settings) (m : Moment) : Type 0 where
  pub sound : IsSound s m.pool (m.last + 1)
  pub once : (t : ℕ) → standing_count (jobs_in m.pool) t ≤ 1
  pub used : (t : ℕ) → m.last < t → standing_count (jobs_in m.pool) t ≡ 0
  pub takes : (t : ℕ) → count_by (has_take t) m.pool.workers ≤ 1

-- a base is well formed
abbrev pub IsWellFormed : Settings → Based → Type 0
IsWellFormed s b = IsOrderly s (moment_of_base s b)

-- this base tells all that the pool shows of itself, and that so many records were folded away
pub record IsBaseOf {X : Type 0} (mark : X → ℕ) (p : Shown X) (count : ℕ) (b : Based) : Type 0 where
  pub gone : b.gone ≡ count
  pub last : b.last + 1 ≡ p.next
  pub pool : b.pool ≡ tagged mark p.pool

-- these records are legal after this base, their last ticket is the one before the pool's next, and they leave the pool
-- as it is
pub record LeadsTo {X : Type 0} (mark : X → ℕ) (b : Based) (records : List (Record (PoolDeed ℕ)))
    (p : Shown X) : Type 0 where
  pub well_formed : IsWellFormed p.settings b
  pub legal : IsLegalOn p.settings b records
  pub next : (moment_from p.settings (moment_of_base p.settings b) records).last + 1 ≡ p.next
  pub leaves : (moment_from p.settings (moment_of_base p.settings b) records).pool ≡ tagged mark p.pool

-- what is left in a pool to which these records lead after this base, by some settings: the kept jobs, and those in the
-- hands of workers, each once and by rising ticket
pub record AreLeft {X : Type 0} (mark : X → ℕ) (b : Based) (records : List (Record (PoolDeed ℕ)))
    (left : List (Task X)) : Type 0 where
  pub settings : Settings
  pub well_formed : IsWellFormed settings b
  pub legal : IsLegalOn settings b records
  pub tasks : IsPermutation (left_in (moment_from settings (moment_of_base settings b) records).pool)
      (map (tagged_task mark) left)
  pub rises : IsNonDecreasingBy (λ task. task.ticket) left
