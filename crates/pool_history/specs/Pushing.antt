-- What a checker that takes a pool's records one by one shows of itself, and how that is tied to the records.
use Rattle.std.specs.Prelude.{◌≡◌, ℕ, ◌+◌, ◌<◌, ◌^◌, Option, Some, None, List, [], ◌∷◌, ◌++◌, length, count_by}
use Rattle.meet_tickets.specs.declared.records.Record.{Record}
use Rattle.meet_tickets.specs.Meeting.{kept_count}
use Rattle.pool_core.specs.declared.settings.Settings.{Settings}
use Rattle.pool_core.specs.declared.deeds.PoolDeed.{PoolDeed}
use Rattle.pool_core.specs.declared.answers.Counters.{Counters}
use Rattle.pool_core.specs.Pools.{Pool, working}
use Rattle.pool_core.specs.Calls.{is_running}
use Rattle.pool_core.specs.Histories.{Based, IsLegalOn, moment_of_base, moment_from}
use Rattle.pool_core.specs.Bases.{IsWellFormed}
use Rattle.pool_history.specs.declared.checker.PoolFault.{PoolFault}
use Rattle.pool_history.specs.declared.checker.PoolFault.TheVariants.{Illegal, Memory}
use Rattle.pool_history.specs.Checking.{Checked, IsIllegalAt}

-- what a pool counts
abbrev pub counters_of : Pool ℕ → Counters
counters_of p = record {
  workers = working p;
  running = count_by is_running p.workers;
  kept = kept_count p.line;
  done = p.done;
  largest = p.largest;
}

-- what it counts behind records after a base
abbrev pub counters_on : Settings → Based → List (Record (PoolDeed ℕ)) → Counters
counters_on s base records = counters_of (moment_from s (moment_of_base s base) records).pool

-- the pool as the records leave it, how many they are, those of the base included, and the fault that was found
pub record Progress : Type 0 where
  pub pool : Checked
  pub count : ℕ
  pub fault : Option PoolFault

-- these records are legal after this base, and led the checker to where it is
pub record HasTaken (base : Based) (p : Progress) (past : List (Record (PoolDeed ℕ))) : Type 0 where
  pub legal : IsLegalOn p.pool.settings base past
  pub moment : p.pool.moment ≡ moment_from p.pool.settings (moment_of_base p.pool.settings base) past
  pub count : p.count ≡ base.gone + length past

-- what records were pushed, where this fault was found of them, or none
abbrev pub SeenWith : Based → Option PoolFault → Progress → (past : List (Record (PoolDeed ℕ))) → Type 0
SeenWith base None p past = HasTaken base p past
SeenWith base (Some (Illegal number why)) p past = IsIllegalAt p.pool.settings base past number why
SeenWith base (Some Memory) p past = ⊥

-- the checker began with this base, which is well formed, and just these records were pushed, the first one first
abbrev pub HasSeen : Based → Progress → (past : List (Record (PoolDeed ℕ))) → Type 0
HasSeen base p past = IsWellFormed p.pool.settings base × SeenWith base p.fault p past

-- whatever was pushed before, this record was pushed behind it
abbrev pub TakesIn : (old : Progress) → Record (PoolDeed ℕ) → (new : Progress) → Type 0
TakesIn old r new =
    (base : Based) (past : List (Record (PoolDeed ℕ))) → HasSeen base old past → HasSeen base new (past ++ r ∷ [])

-- whatever was pushed, this is what the pool counts behind it
abbrev pub AreCountersOf : Progress → Counters → Type 0
AreCountersOf p counters =
    (base : Based) (past : List (Record (PoolDeed ℕ))) → HasSeen base p past
    → counters ≡ counters_on p.pool.settings base past

-- a record can be pushed without growth
abbrev pub HasRoom : Progress → Type 0
HasRoom p = (0 < p.pool.room) × (p.count + 1 < 2 ^ 64)

-- nothing but room has changed
pub record IsUnchanged (old new : Progress) : Type 0 where
  pub settings : new.pool.settings ≡ old.pool.settings
  pub moment : new.pool.moment ≡ old.pool.moment
  pub count : new.count ≡ old.count
  pub fault : new.fault ≡ old.fault
