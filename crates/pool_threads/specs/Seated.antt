-- The seats that lie in a pool at its end.
use Rattle.std.specs.Prelude.{◌≡◌, ◌++◌, ⊤, ℕ, List, [], ◌∷◌}
use Rattle.meet_place.specs.Backs.{list_of}
use Rattle.meet_place.specs.declared.seats.Back.{Back}
use Rattle.pool_core.specs.declared.deeds.PoolDeed.{PoolDeed}
use Rattle.pool_threads.specs.Worthy.{IsWorthy}

-- in each of these seats' lists each answer is what its job's tag is worth
abbrev pub AreWorthy : {N : Type 0} → (worth : ℕ → ℕ) → List (Back (PoolDeed ℕ) N) → Type 0
AreWorthy worth [] = ⊤
AreWorthy worth (back ∷ backs) = IsWorthy worth (list_of back) × AreWorthy worth backs

-- such seats came to the list's end
abbrev pub AddsWorthy : {N : Type 0} → (worth : ℕ → ℕ) → (old new : List (Back (PoolDeed ℕ) N)) → Type 0
AddsWorthy {N} worth old new = (workers : List (Back (PoolDeed ℕ) N)) × (new ≡ old ++ workers) × AreWorthy worth workers
