-- What contracts see of a bell, and what stays known of it (our choice).
use Rattle.std.specs.Prelude.{◌≡◌, ℕ, Option, Some, IfSome}

-- a bell's ticket, and the name of its cell, by which its notes are known
pub record BellView : Type 0 where
  pub ticket : ℕ
  pub cell : ℕ

-- what was known before is known after
abbrev pub KeepsKnown : {X : Type 0} → (old new : Option X) → Type 0
KeepsKnown old new = IfSome old (λ x. new ≡ Some x)
