-- Sets of numbers, kept by bits.
use Rattle.std.specs.Prelude.{◌≡◌, ℕ, ◌/◌, ◌%◌, Bool, List, slice_index, slice_index_or, if◌then◌else◌}
use Rattle.std.specs.Int.{bit_at}

-- one for a number that is in the set, else 0: its bit in the word of its 64
abbrev pub holds : (words : List ℕ) → ℕ → ℕ
holds words n = bit_at (slice_index words (n / 64)) (n % 64)

-- the set is that of the places in a list at which p passes, if what stands past its end fails
abbrev pub Marks : {X : Type 0} → (p : X → Bool) → (past : X) → List X → (words : List ℕ) → Type 0
Marks p past xs words = (n : ℕ) → holds words n ≡ (if p (slice_index_or xs n past) then 1 else 0)
