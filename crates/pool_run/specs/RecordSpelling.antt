-- The one spelling of a record (our choice of format).
use Rattle.std.specs.Prelude.{◌≡◌, ◌↔◌, ◌<◌, ◌≤◌, ℕ, ◌^◌, Some, ⊤, List, ◌∷◌, ◌++◌, codes, decimal}
use Rattle.meet_tickets.specs.declared.records.Record.{Record}
use Rattle.meet_tickets.specs.Limits.{most_seats, last_ticket}
use Rattle.pool_core.specs.declared.deeds.PoolDeed.{PoolDeed}
use Rattle.pool_core.specs.declared.deeds.PoolDeed.TheVariants.{Handed, Started, Kept, KeptStart, Aborted, CallerRuns}
use Rattle.pool_core.specs.declared.deeds.PoolDeed.TheVariants.{Dropped, DroppedOldest, Runs, Waits, Exits, Finished}
use Rattle.pool_core.specs.declared.deeds.PoolDeed.TheVariants.{IdleExit, Leaves, StartFailed, ShutDown, ShutDownNow}
use Rattle.pool_run.specs.Records.{pool_record_of}

-- two numbers
abbrev pub pair_text : (first second : ℕ) → List ℕ
pair_text first second = decimal first ++ 32 ∷ decimal second

-- a deed's word, and what it names
abbrev pub deed_text : PoolDeed ℕ → List ℕ
deed_text (Handed worker job) = codes "handed " ++ pair_text worker job
deed_text (Started worker job) = codes "started " ++ pair_text worker job
deed_text (Kept job) = codes "kept " ++ decimal job
deed_text (KeptStart worker job) = codes "kept-start " ++ pair_text worker job
deed_text (Aborted job) = codes "aborted " ++ decimal job
deed_text (CallerRuns job) = codes "caller-runs " ++ decimal job
deed_text (Dropped job) = codes "dropped " ++ decimal job
deed_text (DroppedOldest ticket oldest job) = codes "dropped-oldest " ++ (decimal ticket ++ 32 ∷ pair_text oldest job)
deed_text (Runs ticket job) = codes "runs " ++ pair_text ticket job
deed_text Waits = codes "waits"
deed_text Exits = codes "exits"
deed_text (Finished answer) = codes "finished " ++ decimal answer
deed_text IdleExit = codes "idle-exit"
deed_text Leaves = codes "leaves"
deed_text StartFailed = codes "start-failed"
deed_text ShutDown = codes "shut-down"
deed_text (ShutDownNow jobs) = codes "shut-down-now " ++ decimal jobs

-- the one spelling of a record: its seat, its ticket and its deed
abbrev pub pool_record_text : Record (PoolDeed ℕ) → List ℕ
pool_record_text r = decimal r.seat ++ 32 ∷ (decimal r.ticket ++ 32 ∷ deed_text r.deed)

-- two numbers of a line
abbrev pub FitsPair : (first second : ℕ) → Type 0
FitsPair first second = (first < 2 ^ 64) × (second < 2 ^ 64)

-- a deed's numbers are in their limits
abbrev pub FitsDeed : PoolDeed ℕ → Type 0
FitsDeed (Handed worker job) = FitsPair worker job
FitsDeed (Started worker job) = FitsPair worker job
FitsDeed (Kept job) = job < 2 ^ 64
FitsDeed (KeptStart worker job) = FitsPair worker job
FitsDeed (Aborted job) = job < 2 ^ 64
FitsDeed (CallerRuns job) = job < 2 ^ 64
FitsDeed (Dropped job) = job < 2 ^ 64
FitsDeed (DroppedOldest ticket oldest job) = (ticket ≤ last_ticket) × FitsPair oldest job
FitsDeed (Runs ticket job) = (ticket ≤ last_ticket) × (job < 2 ^ 64)
FitsDeed (Finished answer) = answer < 2 ^ 64
FitsDeed (ShutDownNow jobs) = jobs < 2 ^ 64
FitsDeed deed = ⊤

-- a record has its numbers in their limits
pub record FitsPoolRecord (r : Record (PoolDeed ℕ)) : Type 0 where
  pub seat : r.seat < most_seats
  pub ticket : r.ticket ≤ last_ticket
  pub deed : FitsDeed r.deed

-- a line reads as a record exactly where it is that record's one spelling
abbrev pub PoolRecordsHaveOneSpelling : Type 0
PoolRecordsHaveOneSpelling =
    (line : List ℕ) (r : Record (PoolDeed ℕ))
    → (pool_record_of line ≡ Some r) ↔ ((line ≡ pool_record_text r) × FitsPoolRecord r)
