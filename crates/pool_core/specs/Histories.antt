-- Which histories of a pool are legal. A history is a base and the records since: a base stands for records that were
-- folded away.
use Rattle.std.specs.Prelude.{ℕ, ◌-◌, ◌<◌, ◌≤◌, max, false, List, [], ◌∷◌, ◌++◌, length, replicate}
use Rattle.meet_tickets.specs.Limits.{last_ticket}
use Rattle.meet_tickets.specs.declared.records.Record.{Record}
use Rattle.pool_core.specs.declared.settings.Settings.{Settings}
use Rattle.pool_core.specs.declared.stages.Stage.{Stage}
use Rattle.pool_core.specs.declared.stages.Stage.TheVariants.{Absent}
use Rattle.pool_core.specs.declared.deeds.PoolDeed.{PoolDeed}
use Rattle.pool_core.specs.Pools.{Pool, stage_of}
use Rattle.pool_core.specs.Steps.{Allows, after, draws}

-- what the records so far left: the pool, jobs by their tags, and the greatest ticket
pub record Moment : Type 0 where
  pub last : ℕ
  pub pool : Pool ℕ

-- what a base shows of itself: how many records were folded away, their greatest ticket, and where they left the pool.
-- A worker whose number isn't listed is absent
pub record Based : Type 0 where
  pub gone : ℕ
  pub last : ℕ
  pub pool : Pool ℕ

-- nobody works, and no job was there
abbrev pub nobody : {X : Type 0} → List (Stage X) → Pool X
nobody workers =
    record { shut = false; line = []; workers = workers; largest = 0; done = 0; back = 0; dropped = 0; ran = 0 }

-- no record was folded away
abbrev pub no_base : Based
no_base = record { gone = 0; last = 0; pool = nobody [] }

-- so many workers, those that aren't listed being absent
abbrev pub all_workers : {X : Type 0} → (count : ℕ) → List (Stage X) → List (Stage X)
all_workers count workers = workers ++ replicate (count - length workers) Absent

-- the moment that a base stands for
abbrev pub moment_of_base : Settings → Based → Moment
moment_of_base s b = record {
  last = b.last;
  pool = record b.pool { workers = all_workers s.sizes.maximum b.pool.workers };
}

-- the record may come next: a new ticket is one, and above all earlier ones
pub record IsStep (s : Settings) (m : Moment) (r : Record (PoolDeed ℕ)) : Type 0 where
  pub above : 0 < draws (stage_of s m.pool r.seat) r.deed → (m.last < r.ticket) × (r.ticket ≤ last_ticket)
  pub allowed : Allows s m.pool r.seat r.ticket r.deed

-- what it leaves
abbrev pub next_moment : Settings → Moment → Record (PoolDeed ℕ) → Moment
next_moment s m r = record { last = max m.last r.ticket; pool = after s m.pool r.seat r.ticket r.deed }

-- each record is a step from what the earlier ones left
abbrev pub IsLegalFrom : Settings → Moment → List (Record (PoolDeed ℕ)) → Type 0
IsLegalFrom s m [] = Unit {0}
IsLegalFrom s m (r ∷ records) = IsStep s m r × IsLegalFrom s (next_moment s m r) records

-- records are legal after a base
abbrev pub IsLegalOn : Settings → Based → List (Record (PoolDeed ℕ)) → Type 0
IsLegalOn s b records = IsLegalFrom s (moment_of_base s b) records

-- what records leave
abbrev pub moment_from : Settings → Moment → List (Record (PoolDeed ℕ)) → Moment
moment_from s m [] = m
moment_from s m (r ∷ records) = moment_from s (next_moment s m r) records
