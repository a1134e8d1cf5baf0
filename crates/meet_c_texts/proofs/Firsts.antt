-- The first bytes of a text are copied.
use Rattle.std.proofs.Common.{◌≡◌, ◌≢◌, ℕ, zero, suc, ◌+◌, ◌<◌, ◌≤◌, refl, ap, sym, subst, ◌∙◌, ⊎_elim, arith, Some, List, [], ◌∷◌, length}
use Rattle.std.specs.Prelude.{slice_get, slice_set}
use Rattle.std.proofs.lemmas.Bool.{cases_eq}

get-set-same : (xs : List ℕ) (i v : ℕ) → i < length xs → slice_get (slice_set xs i v) i ≡ Some v
get-set-same [] i v within = absurd (omega arith)
get-set-same (x ∷ xs) zero v within = refl
get-set-same (x ∷ xs) (suc i) v within = get-set-same xs i v (omega arith)

get-set-other : (xs : List ℕ) (i j v : ℕ) → j ≢ i → slice_get (slice_set xs i v) j ≡ slice_get xs j
get-set-other [] i j v n = refl
get-set-other (x ∷ xs) zero zero v n = absurd (n refl)
get-set-other (x ∷ xs) zero (suc j) v n = refl
get-set-other (x ∷ xs) (suc i) zero v n = refl
get-set-other (x ∷ xs) (suc i) (suc j) v n = get-set-other xs i j v (λ e. n (ap suc e))

-- one byte more is copied
pub first-more : (text out : List ℕ) (at x : ℕ) → at < length out → slice_get text at ≡ Some x → ((k : ℕ) → k < at → slice_get out k ≡ slice_get text k) → (k : ℕ) → k < at + 1 → slice_get (slice_set out at x) k ≡ slice_get text k
first-more text out at x within there before k low = ⊎_elim
    (λ (e : k ≡ at). subst (λ j. slice_get (slice_set out at x) j ≡ slice_get text j) (sym e) (get-set-same out at x within ∙ sym there))
    (λ (n : k ≢ at). get-set-other out at k x n ∙ before k (omega (arith, n)))
    (cases_eq k at)

-- the bytes after it stay
pub others-stay : (was out : List ℕ) (at x : ℕ) → ((k : ℕ) → at ≤ k → slice_get out k ≡ slice_get was k) → (k : ℕ) → at + 1 ≤ k → slice_get (slice_set out at x) k ≡ slice_get was k
others-stay was out at x before k high = let n : k ≢ at = λ e. absurd (omega (arith, e, high)) in get-set-other out at k x n ∙ before k (omega arith)
