-- What the parts of a pool have in common.
use Rattle.std.specs.Prelude.{◌≡◌, ℕ, ◌+◌}
use Rattle.meet_place.specs.declared.ledgers.Blanks.{Blanks}
use Rattle.pool_core.specs.declared.settings.Sizes.{Sizes}

-- each of both ledgers has a part for each caller and each worker, and there are as many gates as workers
abbrev pub IsOneEach : Sizes → Blanks → (gates : ℕ) → Type 0
IsOneEach sizes blanks gates = (blanks.records.parts ≡ sizes.callers + sizes.maximum)
    × (blanks.folds.parts ≡ sizes.callers + sizes.maximum) × (gates ≡ sizes.maximum)
