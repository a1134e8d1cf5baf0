-- A pool's promise, whole: each job and each take of a worker is met at most once, by the rule's partner, and never
-- after it was over or taken back (java.util.concurrent's ThreadPoolExecutor over a SynchronousQueue or a
-- LinkedTransferQueue; Scherer, Lea and Scott 2006: a cancelled reservation is never matched). Both are known by their
-- tickets.
use Rattle.std.specs.Prelude.{◌≡◌, ◌≢◌, ℕ, ◌+◌, ◌<◌, ◌≤◌, ◌==◌, Option, Some, None, option_map, option_to_list, List}
use Rattle.std.specs.Prelude.{[], ◌∷◌, ◌++◌, map, slice_index_or, count_by, Contains, All}
use Rattle.std.specs.List.{filter_map}
use Rattle.meet_tickets.specs.declared.lines.Entry.{Entry}
use Rattle.meet_tickets.specs.declared.places.Side.TheVariants.{Giver}
use Rattle.meet_tickets.specs.declared.records.Record.{Record}
use Rattle.meet_tickets.specs.Meeting.{partner}
use Rattle.pool_core.specs.declared.settings.Settings.{Settings}
use Rattle.pool_core.specs.declared.stages.Stage.{Stage}
use Rattle.pool_core.specs.declared.stages.Stage.TheVariants.{Absent, Starting, Waiting, HandedOver, Running}
use Rattle.pool_core.specs.declared.deeds.PoolDeed.{PoolDeed}
use Rattle.pool_core.specs.declared.deeds.PoolDeed.TheVariants.{Handed, Runs, Exits, IdleExit, ShutDown, ShutDownNow}
use Rattle.pool_core.specs.Pools.{Pool, queue_end, stage_of}
use Rattle.pool_core.specs.Steps.{oldest}
use Rattle.pool_core.specs.Histories.{Moment, Based, moment_of_base, next_moment, moment_from}
use Rattle.pool_core.specs.Standings.{ended_from, standing_count}
use Rattle.pool_core.specs.Worked.{WaitsOn}

-- a take and the job that it got
pub record Pair : Type 0 where
  pub take : ℕ
  pub job : ℕ

abbrev pub pair : (take job : ℕ) → Pair
pair t u = record { take = t; job = u }

-- the job that a deed says to run
abbrev pub run_by : PoolDeed ℕ → Option ℕ
run_by (Runs u tag) = Some u
run_by deed = None

-- the jobs that records say to run, each with the take whose ticket the record has
abbrev pub runs_in : List (Record (PoolDeed ℕ)) → List Pair
runs_in records = filter_map (λ r. option_map (pair r.ticket) (run_by r.deed)) records

-- the job that a worker runs
abbrev pub running_at : Stage ℕ → Option ℕ
running_at (Running u) = Some u
running_at stage = None

-- the jobs that ran: those that run on the base, and those since
abbrev pub jobs_run : Settings → Based → List (Record (PoolDeed ℕ)) → List ℕ
jobs_run s b records =
    filter_map running_at (moment_of_base s b).pool.workers ++ map (λ p. p.job) (runs_in records)

-- the take of a worker that waits
abbrev pub waiting_take : Stage ℕ → Option ℕ
waiting_take (Waiting t) = Some t
waiting_take stage = None

-- the take that a deed meets: that of the worker to whom it hands its job
abbrev pub met_by : Pool ℕ → PoolDeed ℕ → Option ℕ
met_by p (Handed w tag) = waiting_take (slice_index_or p.workers w Absent)
met_by p deed = None

-- the pair of a record that hands its job over
abbrev pub handed_by : Pool ℕ → Record (PoolDeed ℕ) → Option Pair
handed_by p r = option_map (λ t. pair t r.ticket) (met_by p r.deed)

-- the jobs that records handed over, each with the take that it met
abbrev pub handed_from : Settings → Moment → List (Record (PoolDeed ℕ)) → List Pair
handed_from s m [] = []
handed_from s m (r ∷ records) = option_to_list (handed_by m.pool r) ++ handed_from s (next_moment s m r) records

-- the take of a worker that was handed a job, with this job
abbrev pub handed_at : Stage ℕ → Option Pair
handed_at (HandedOver t task) = Some (pair t task.ticket)
handed_at stage = None

-- the jobs that were handed over, each with the take that it met: those that the base has, and those since
abbrev pub handed_on : Settings → Based → List (Record (PoolDeed ℕ)) → List Pair
handed_on s b records =
    filter_map handed_at (moment_of_base s b).pool.workers ++ handed_from s (moment_of_base s b) records

-- what records leave after a base
abbrev pub moment_on : Settings → Based → List (Record (PoolDeed ℕ)) → Moment
moment_on s b records = moment_from s (moment_of_base s b) records

-- no job is handed over twice, none runs twice, one that was handed over runs with no other take than it met, and one
-- that is over, being done, handed back, dropped or its caller's, doesn't run any more
pub record JobsMeetOnce (s : Settings) (b : Based) (records : List (Record (PoolDeed ℕ))) : Type 0 where
  pub handed : (job : ℕ) → count_by (λ p. p.job == job) (handed_on s b records) ≤ 1
  pub runs : (job : ℕ) → count_by (λ u. u == job) (jobs_run s b records) ≤ 1
  pub same : (job met run : ℕ) → Contains (handed_on s b records) (pair met job)
      → Contains (runs_in records) (pair run job) → run ≡ met
  pub over : (before after : List (Record (PoolDeed ℕ))) (job : ℕ) → records ≡ before ++ after
      → 0 < standing_count (ended_from s (moment_of_base s b) before) job → All (λ p. p.job ≢ job) (runs_in after)

-- no take is handed two jobs, none runs two, and one that was handed a job runs no other
pub record TakesMeetOnce (s : Settings) (b : Based) (records : List (Record (PoolDeed ℕ))) : Type 0 where
  pub handed : (take : ℕ) → count_by (λ p. p.take == take) (handed_on s b records) ≤ 1
  pub runs : (take : ℕ) → count_by (λ p. p.take == take) (runs_in records) ≤ 1
  pub same : (take met run : ℕ) → Contains (handed_on s b records) (pair take met)
      → Contains (runs_in records) (pair take run) → run ≡ met

-- a job that is handed over meets the take that the queue's order meets: that of the worker that the record names, with
-- which it was last recorded to wait. With a take that isn't new a worker runs the job that met it; and a worker that
-- starts without a job runs the kept one that came first
pub record PartnersMeet (s : Settings) (b : Based) (records : List (Record (PoolDeed ℕ))) : Type 0 where
  pub takes : (before after : List (Record (PoolDeed ℕ))) (r : Record (PoolDeed ℕ)) (w tag : ℕ)
      → records ≡ before ++ r ∷ after → r.deed ≡ Handed w tag
      → (e : Entry ℕ) × (partner (queue_end s.queue) (moment_on s b before).pool.line Giver ≡ Some e)
      × (e.seat ≡ s.sizes.callers + w) × WaitsOn s b before e.seat e.ticket
      × (handed_by (moment_on s b before).pool r ≡ Some (pair e.ticket r.ticket))
  pub follows : (before after : List (Record (PoolDeed ℕ))) (r : Record (PoolDeed ℕ)) (u tag : ℕ)
      → records ≡ before ++ r ∷ after → r.deed ≡ Runs u tag → r.ticket ≤ (moment_on s b before).last
      → Contains (handed_on s b before) (pair r.ticket u)
  pub kept : (before after : List (Record (PoolDeed ℕ))) (r : Record (PoolDeed ℕ)) (u tag : ℕ)
      → records ≡ before ++ r ∷ after → r.deed ≡ Runs u tag
      → stage_of s (moment_on s b before).pool r.seat ≡ Starting None
      → oldest s (moment_on s b before).pool ≡ Some (record { ticket = u; job = tag })

-- a deed takes this take back: it is its worker's exit; or it shuts the pool while the worker waits
abbrev pub Withdraws : Settings → Pool ℕ → (ticket : ℕ) → PoolDeed ℕ → (take : ℕ) → Type 0
Withdraws s p t Exits take = t ≡ take
Withdraws s p t IdleExit take = t ≡ take
Withdraws s p t ShutDown take = (seat : ℕ) × (stage_of s p seat ≡ Waiting take)
Withdraws s p t (ShutDownNow count) take = (seat : ℕ) × (stage_of s p seat ≡ Waiting take)
Withdraws s p t deed take = ⊥

-- a take that was taken back is handed no job by what comes behind, and runs none
abbrev pub WithdrawnMeetNone : Settings → Based → List (Record (PoolDeed ℕ)) → Type 0
WithdrawnMeetNone s b records = (before after : List (Record (PoolDeed ℕ))) (r : Record (PoolDeed ℕ)) (take : ℕ)
    → records ≡ before ++ r ∷ after → Withdraws s (moment_on s b before).pool r.ticket r.deed take
    → All (λ p. p.take ≢ take) (handed_from s (moment_on s b (before ++ r ∷ [])) after ++ runs_in after)
