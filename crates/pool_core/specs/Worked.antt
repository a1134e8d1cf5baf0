-- What a worker's records tell of the job that it runs, and of the take with which it waits.
use Rattle.std.specs.Prelude.{◌≡◌, ◌⊎◌, ℕ, ◌==◌, Option, Some, None, is_some, List, [], ◌∷◌, if◌then◌else◌}
use Rattle.meet_tickets.specs.declared.records.Record.{Record}
use Rattle.pool_core.specs.declared.settings.Settings.{Settings}
use Rattle.pool_core.specs.declared.stages.Stage.TheVariants.{Running, Waiting}
use Rattle.pool_core.specs.declared.deeds.PoolDeed.{PoolDeed}
use Rattle.pool_core.specs.declared.deeds.PoolDeed.TheVariants.{Runs, Waits}
use Rattle.pool_core.specs.Pools.{stage_of}
use Rattle.pool_core.specs.Histories.{Moment, Based, moment_of_base}

-- the last record of a seat
abbrev pub last_of : (seat : ℕ) → List (Record (PoolDeed ℕ)) → Option (Record (PoolDeed ℕ))
last_of i [] = None
last_of i (r ∷ records) =
    if is_some (last_of i records) then last_of i records else (if r.seat == i then Some r else None)

-- it says that the worker runs the job of this ticket
abbrev pub TellsRuns : (ticket : ℕ) → Option (Record (PoolDeed ℕ)) → Type 0
TellsRuns t None = ⊥
TellsRuns t (Some r) = (tag : ℕ) × (r.deed ≡ Runs t tag)

-- a seat's last record says so; or it has none since, and the worker ran the job before
abbrev pub RanFrom : Settings → Moment → List (Record (PoolDeed ℕ)) → (seat ticket : ℕ) → Type 0
RanFrom s m records i t =
    TellsRuns t (last_of i records) ⊎ ((last_of i records ≡ None) × (stage_of s m.pool i ≡ Running t))

abbrev pub RanOn : Settings → Based → List (Record (PoolDeed ℕ)) → (seat ticket : ℕ) → Type 0
RanOn s b records i t = RanFrom s (moment_of_base s b) records i t

-- it says that the worker waits with this take
abbrev pub TellsWaits : (take : ℕ) → Option (Record (PoolDeed ℕ)) → Type 0
TellsWaits t None = ⊥
TellsWaits t (Some r) = (r.deed ≡ Waits) × (r.ticket ≡ t)

-- a seat's last record says so; or it has none since, and the worker waited before
abbrev pub WaitsFrom : Settings → Moment → List (Record (PoolDeed ℕ)) → (seat take : ℕ) → Type 0
WaitsFrom s m records i t =
    TellsWaits t (last_of i records) ⊎ ((last_of i records ≡ None) × (stage_of s m.pool i ≡ Waiting t))

abbrev pub WaitsOn : Settings → Based → List (Record (PoolDeed ℕ)) → (seat take : ℕ) → Type 0
WaitsOn s b records i t = WaitsFrom s (moment_of_base s b) records i t
