-- What the tokens own: how far something has come that only grows, and that it has come so far.
use Rattle.std.specs.Prelude.{ℕ}
use base.Fraction.{full_share}
use base.Fml.{Fml}
use base.Growing.{numbers, latest, at_least}

abbrev pub counter_owns : ℕ → ℕ → Fml
counter_owns γ n = latest numbers full_share γ n

abbrev pub moment_owns : ℕ → ℕ → Fml
moment_owns γ n = at_least numbers γ n
