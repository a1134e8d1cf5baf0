-- Runs of keys, linked one to the next (our choice). Links are asked by `Some k` what comes behind the key k, and by
-- None what comes first; they answer None behind the last.
use Rattle.std.specs.Prelude.{◌≡◌, ℕ, ◌+◌, ◌≤◌, ◌==◌, Bool, true, false, Option, Some, None}
use Rattle.std.specs.Prelude.{List, [], ◌∷◌, reverse, if◌then◌else◌}
use Rattle.std.proofs.Common.{zero, suc}

-- whether two answers are the same
abbrev pub is_same : Option ℕ → Option ℕ → Bool
is_same None None = true
is_same None (Some b) = false
is_same (Some a) None = false
is_same (Some a) (Some b) = a == b

-- the links, but for one, which is `to`
abbrev pub put_link : (Option ℕ → Option ℕ) → (at to : Option ℕ) → Option ℕ → Option ℕ
put_link next at to p = if is_same p at then to else next p

-- the links lead from p through these keys, and then to q
abbrev pub IsRun : (Option ℕ → Option ℕ) → Option ℕ → List ℕ → Option ℕ → Type 0
IsRun next p [] q = next p ≡ q
IsRun next p (k ∷ keys) q = (next p ≡ Some k) × IsRun next (Some k) keys q

-- one kind of links leads through these keys from end to end, and the other leads back
pub record IsRing (next back : Option ℕ → Option ℕ) (keys : List ℕ) : Type 0 where
  pub onward : IsRun next None keys None
  pub backward : IsRun back None (reverse keys) None

-- the first of these keys, or p where there is none
abbrev pub first_or : List ℕ → Option ℕ → Option ℕ
first_or [] p = p
first_or (k ∷ keys) p = Some k

-- the keys that links lead to from this one on, but no more than so many
abbrev pub followed : ℕ → (Option ℕ → Option ℕ) → Option ℕ → List ℕ
followed zero next at = []
followed (suc n) next None = []
followed (suc n) next (Some k) = k ∷ followed n next (next (Some k))

-- how often a key stands in a list
abbrev pub occurs : ℕ → List ℕ → ℕ
occurs j [] = 0
occurs j (k ∷ keys) = (if k == j then 1 else 0) + occurs j keys

-- what links answer isn't one of these keys
abbrev pub IsAbsent : Option ℕ → List ℕ → Type 0
IsAbsent None keys = Unit {0}
IsAbsent (Some j) keys = occurs j keys ≡ 0

-- no key stands there twice
abbrev pub IsDistinct : List ℕ → Type 0
IsDistinct keys = (j : ℕ) → occurs j keys ≤ 1
