-- What leaves a list at the first place that passes.
use Rattle.std.proofs.Common.{◌≡◌, ◌∙◌, ℕ, suc, ◌+◌, ◌<◌, ◌≤◌, Bool, true, false, not, cond, ltb, Some, None, List, [], ◌∷◌, length, get_or, refl, sym, ap, arith}
use Rattle.std.specs.Prelude.{find, slice_get}
use Rattle.std.specs.List.{position, position_or_len, remove}
use Rattle.std.proofs.lemmas.Bool.Decides.{nat_tests}
use Rattle.std.proofs.lemmas.List.{append-nil, take_all, drop_all}
use Rattle.std.proofs.lemmas.List.Folds.{find_at}
use Rattle.std.proofs.lemmas.List.Quantifiers.{position-Some}
use Rattle.std.proofs.lemmas.Option.{cond_some, slice_get_past, slice_get_read}
use Rattle.meet_tickets.specs.BySeat.{without_first}

-- the first that passes leaves its place, which is past the end where nothing passes
without_first-remove : {X : Type 0} (p : X → Bool) (xs : List X) → without_first p xs ≡ remove xs (position_or_len p xs)
without_first-remove p [] = refl
without_first-remove p (x ∷ xs) =
    elim (p x) as (λ b. cond b xs (x ∷ without_first p xs) ≡ remove (x ∷ xs) (cond (not b) (1 + position_or_len p xs) 0)) [
      | true ↦ refl
      | false ↦
          let next : 1 + position_or_len p xs ≡ suc (position_or_len p xs) = omega arith in
          rw next (ap (λ rest. x ∷ rest) (without_first-remove p xs))
    ]

-- past the end nothing is removed
remove_past : {X : Type 0} (xs : List X) (i : ℕ) → length xs ≤ i → remove xs i ≡ xs
remove_past xs i past =
    let after : length xs ≤ suc i = omega arith in
    rw (take_all i xs past, drop_all (suc i) xs after) (append-nil xs)

-- a place that isn't within a length is past it
past-from_none : (n l : ℕ) → cond (ltb n l) (Some n) None ≡ None → l ≤ n
past-from_none n l none = grind (arith, nat_tests)

-- what is taken out at the first place that passes is what is found, and the rest is what is left
pub removed_there : {X : Type 0} (p : X → Bool) (xs ys : List X) (i : ℕ) (x : X) → position p xs ≡ Some i → x ≡ get_or xs i x → ys ≡ remove xs i → (Some x ≡ find p xs) × (ys ≡ without_first p xs)
removed_there p xs ys i x at read left =
    let same : position_or_len p xs ≡ i = (cond_some _ _ _ at).1 in
    let there : i < length xs = (position-Some p xs i x at).0 in (
      sym (find_at p xs ∙ ap (slice_get xs) same ∙ slice_get_read xs (length xs) i x refl there read),
      left ∙ sym (without_first-remove p xs ∙ ap (remove xs) same),
    )

-- where nothing passes, nothing is found and nothing leaves
pub removed_nowhere : {X : Type 0} (p : X → Bool) (xs : List X) → position p xs ≡ None → (None ≡ find p xs) × (xs ≡ without_first p xs)
removed_nowhere p xs nowhere =
    let past : length xs ≤ position_or_len p xs = past-from_none (position_or_len p xs) (length xs) nowhere in (
      sym (find_at p xs ∙ slice_get_past xs (position_or_len p xs) past),
      sym (without_first-remove p xs ∙ remove_past xs (position_or_len p xs) past),
    )
