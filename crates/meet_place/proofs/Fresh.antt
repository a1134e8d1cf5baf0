-- New seats.
use Rattle.std.proofs.Common.{◌≡◌, ℕ, zero, suc, List, [], ◌∷◌, ◌++◌, length, Some, inl, inr, ⊎_elim, ◌⊎◌}
use Rattle.std.proofs.Common.{refl, sym, ap, ◌∙◌}
use Rattle.std.specs.Prelude.{slice_get}
use Rattle.meet_place.specs.Seats.{SeatView, AreFresh}

-- what an index of a list with one more element can name
last_is : {A : Type 0} (xs : List A) (x y : A) (i : ℕ) → slice_get (xs ++ x ∷ []) i ≡ Some y
    → (slice_get xs i ≡ Some y) ⊎ ((i ≡ length xs) × (x ≡ y))
last_is [] x y zero e = inr (refl, cc)
last_is [] x y (suc i) e = absurd (cc)
last_is (z ∷ xs) x y zero e = inl e
last_is (z ∷ xs) x y (suc i) e =
    ⊎_elim (λ h. inl h) (λ (h : (i ≡ length xs) × (x ≡ y)). inr (ap suc h.0, h.1)) (last_is xs x y i e)

pub fresh_push : {D : Type 0} (seats : List (SeatView D)) (s : SeatView D) → AreFresh seats → s.number ≡ length seats
    → s.list ≡ [] → s.past.trimmed ≡ 0 → s.past.folded ≡ 0 → s.past.seen ≡ 0 → AreFresh (seats ++ s ∷ [])
fresh_push seats s h number list trimmed folded seen i t e =
    ⊎_elim (λ was. h i t was)
    (λ (same : (i ≡ length seats) × (s ≡ t)). (
      ap (λ u. u.number) (sym same.1) ∙ number ∙ sym same.0,
      ap (λ u. u.list) (sym same.1) ∙ list,
      ap (λ u. u.past.trimmed) (sym same.1) ∙ trimmed,
      ap (λ u. u.past.folded) (sym same.1) ∙ folded,
      ap (λ u. u.past.seen) (sym same.1) ∙ seen,
    ))
    (last_is seats s t i e)
