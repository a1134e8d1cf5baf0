-- What is left where each column was changed.
use Rattle.std.proofs.Common.{◌≡◌, ℕ, ◌≤◌, List, ◌++◌, length, take, drop, map, ◌∙◌, arith}
use Rattle.std.proofs.lemmas.Grind.{common_steps}

module _ {X : Type 0} (f : X → X) (xs : List X) where
  -- so many of the first are changed
  abbrev pub AreChanged : (n : ℕ) (ys : List X) → Type 0
  AreChanged n ys = ys ≡ map f (take n xs) ++ drop n xs

pub all-changed : {X : Type 0} (f : X → X) (xs ys : List X) (n i : ℕ) → AreChanged f xs i ys → length xs ≡ n → length xs ≤ i → take n (ys ++ drop (length ys) xs) ≡ map f xs
all-changed f xs ys n i came long all =
    let is : ys ≡ map f xs = came ∙ grind (arith, common_steps) in
    let same : length ys ≡ n = grind (arith, common_steps) in
    grind (arith, common_steps)
