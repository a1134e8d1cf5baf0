-- The list of a worker.
use Rattle.std.specs.Prelude.{◌≡◌, ℕ, ◌+◌, ◌&&◌, ◌||◌, not, Bool, true, false, Some, List, [], ◌∷◌, slice_get, length}
use Rattle.meet_book.specs.Received.{Received}
use Rattle.pool_core.specs.declared.deeds.PoolDeed.{PoolDeed}
use Rattle.pool_core.specs.declared.deeds.PoolDeed.TheVariants.{Runs, Finished}

-- at this place of the list a job of this tag begins to run
abbrev pub RunsAt : List (Received (PoolDeed ℕ)) → (place tag : ℕ) → Type 0
RunsAt list place tag = (receipt : Received (PoolDeed ℕ)) × (ticket : ℕ) × (slice_get list place ≡ Some receipt)
    × (receipt.entry.deed ≡ Runs ticket tag)

-- each Finished stands right behind a Runs, and its answer is what that tag is worth
abbrev pub IsWorthy : (worth : ℕ → ℕ) → List (Received (PoolDeed ℕ)) → Type 0
IsWorthy worth list =
    (place : ℕ) (receipt : Received (PoolDeed ℕ)) (answer : ℕ) → slice_get list place ≡ Some receipt
    → receipt.entry.deed ≡ Finished answer
    → (before : ℕ) × (tag : ℕ) × (place ≡ before + 1) × RunsAt list before tag × (answer ≡ worth tag)

-- the list ends with a job of this tag that runs
abbrev pub EndsRunning : List (Received (PoolDeed ℕ)) → (tag : ℕ) → Type 0
EndsRunning list tag = (last : ℕ) × (length list ≡ last + 1) × RunsAt list last tag

-- the list ends with a job that runs, and this answer is what its tag is worth
abbrev pub EndsRunningWorth : (worth : ℕ → ℕ) → List (Received (PoolDeed ℕ)) → (answer : ℕ) → Type 0
EndsRunningWorth worth list answer = (tag : ℕ) × EndsRunning list tag × (answer ≡ worth tag)

-- whether a deed is an answer
abbrev pub is_finished : PoolDeed ℕ → Bool
is_finished (Finished answer) = true
is_finished deed = false

-- each answer that stays stands right behind a receipt that stays; `before` says whether one stays in front of the list
abbrev pub stay_together : (stays : Received (PoolDeed ℕ) → Bool) → (before : Bool)
    → List (Received (PoolDeed ℕ)) → Bool
stay_together stays before [] = true
stay_together stays before (r ∷ rs) =
    (not (is_finished r.entry.deed && stays r) || before) && stay_together stays (stays r) rs
