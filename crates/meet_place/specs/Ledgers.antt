-- What contracts see of the two ledgers of a place (our choice).
use Rattle.std.specs.Prelude.{◌≡◌, ℕ}
use Rattle.meet_place.specs.declared.ledgers.Blanks.{Blanks}

-- a share's parts, how many records it counts, and how many that were folded away
pub record Staked : Type 0 where
  pub parts : ℕ
  pub amount : ℕ
  pub folds : ℕ

-- how many records all shares count together, and how many that were folded away
pub record Totalled : Type 0 where
  pub total : ℕ
  pub folds : ℕ

-- the two new ledgers and the new counter have these names, and each ledger is cut into so many parts
abbrev pub AreOf : (name folds moments parts : ℕ) → Blanks → Type 0
AreOf name folds moments parts blanks = (blanks.records.name ≡ name) × (blanks.folds.name ≡ folds)
    × (blanks.moments ≡ moments)
    × (blanks.records.parts ≡ parts) × (blanks.folds.parts ≡ parts)
