-- How large a drive of a pool is, and what it finds (our choice).
use Rattle.std.specs.Prelude.{◌≡◌, ℕ, ◌+◌, ◌*◌, ◌<◌, ◌≤◌, false, Option, Some, None, is_some, List, length, count_by}
use Rattle.std.specs.Prelude.{sum_by}
use Rattle.std.specs.Option.{option_map_or}
use Rattle.meet_tickets.specs.declared.records.Record.{Record}
use Rattle.pool_core.specs.declared.deeds.PoolDeed.{PoolDeed}
use Rattle.pool_core.specs.declared.deeds.PoolDeed.TheVariants.{Finished}
use Rattle.pool_core.specs.declared.settings.Settings.{Settings}
use Rattle.pool_core.specs.declared.settings.PoolQueue.TheVariants.{Unbounded}
use Rattle.pool_core.specs.declared.settings.Policy.TheVariants.{Abort}
use Rattle.pool_core.specs.Histories.{no_base, IsLegalOn}
use Rattle.pool_history.specs.Pushing.{counters_on}
use Rattle.pool_drive.specs.declared.whole.PoolDrive.{PoolDrive}

-- how many callers there are at most, how many jobs each hands in, and how many workers run them
abbrev pub most_callers : ℕ
most_callers = 64

abbrev pub most_each : ℕ
most_each = 1000

abbrev pub most_workers : ℕ
most_workers = 64

-- a drive can have so many callers, so many jobs of each, and so many workers
pub record IsPoolSized (callers each workers : ℕ) : Type 0 where
  pub some_call : 0 < callers
  pub few_call : callers ≤ most_callers
  pub some_jobs : 0 < each
  pub few_jobs : each ≤ most_each
  pub some_work : 0 < workers
  pub few_work : workers ≤ most_workers

-- its pool, that of `Executors.newFixedThreadPool`
abbrev pub fixed : (callers workers : ℕ) → Settings
fixed callers workers = record {
  sizes = record { core = workers; maximum = workers; callers = callers; keep_alive = 0; core_timeout = false };
  queue = Unbounded;
  policy = Abort;
}

-- what a job answered, where a deed tells it
abbrev pub answer_of : PoolDeed ℕ → Option ℕ
answer_of (Finished answer) = Some answer
answer_of deed = None

-- how many jobs are done, and the sum of what they answered
abbrev pub done_in : List (Record (PoolDeed ℕ)) → ℕ
done_in records = count_by (λ r. is_some (answer_of r.deed)) records

abbrev pub sum_in : List (Record (PoolDeed ℕ)) → ℕ
sum_in records = sum_by (λ r. option_map_or (λ answer. answer) (answer_of r.deed) 0) records

-- there is a legal history of such a pool, which has so many records and leaves what the pool counts; by it just so
-- many jobs are done, and what they answered has the sum of the numbers from 1 up to `each`, of each caller
pub record IsPoolDriven (callers each workers : ℕ) (drive : PoolDrive) : Type 0 where
  pub history : List (Record (PoolDeed ℕ))
  pub legal : IsLegalOn (fixed callers workers) no_base history
  pub records : drive.records ≡ length history
  pub counters : drive.counters ≡ counters_on (fixed callers workers) no_base history
  pub done : drive.done ≡ done_in history
  pub sum : drive.sum ≡ sum_in history
  pub jobs : drive.jobs ≡ callers * each
  pub all : drive.done ≡ drive.jobs
  pub whole : 2 * drive.sum ≡ drive.done * (each + 1)
