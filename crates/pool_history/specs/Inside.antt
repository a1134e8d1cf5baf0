-- The fields of a checked pool, and of a pool that one thread uses.
use Rattle.std.specs.Prelude.{◌≡◌, ℕ, ◌++◌, length}
use Rattle.meet_tickets.specs.Limits.{most_records}
use Rattle.pool_core.specs.Pools.{Pool, queue_end}
use Rattle.pool_core.specs.Histories.{Moment, no_base}
use Rattle.pool_core.specs.Bases.{IsOrderly, LeadsTo}
use Rattle.pool_history.specs.declared.checker.pool.CheckedPool.TheInside.{Inside}
use Rattle.pool_history.specs.declared.one_thread.stepper.PoolStepper.TheInside.{Inside as Stepping}
use Rattle.pool_history.specs.Checking.{Checked}
use Rattle.pool_history.specs.OneThread.{Thread}

-- the pool in the fields
abbrev pub pool_in : Inside → Pool ℕ
pool_in p = record {
  shut = p.shut;
  line = p.line.entries;
  workers = p.workers;
  largest = p.largest;
  done = p.done;
  back = p.back;
  dropped = p.dropped;
  ran = p.ran;
}

-- and the moment
abbrev pub moment_in : Inside → Moment
moment_in p = record { last = p.last; pool = pool_in p }

-- what they show
abbrev pub checked : Inside → Checked
checked p = record { settings = p.settings; moment = moment_in p; room = p.line.room }

-- what stays true of them
pub record IsWell (p : Inside) : Type 0 where
  pub orderly : IsOrderly p.settings (moment_in p)
  pub order : p.line.end ≡ queue_end p.settings.queue

-- a pool that one thread uses: the records that were folded away stand before the book's
abbrev pub thread : Stepping → Thread
thread s = record { pool = s.book.object; written = s.past.items ++ s.book.records; gone = s.book.base.gone }

-- what stays true of it: all records lead to the pool
pub record IsKept (s : Stepping) : Type 0 where
  pub cap : s.book.cap ≡ most_records
  pub gone : length s.past.items ≡ s.book.base.gone
  pub leads : LeadsTo (λ tag. tag) no_base (s.past.items ++ s.book.records) s.book.object
