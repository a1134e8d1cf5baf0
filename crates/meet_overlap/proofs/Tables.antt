-- What is read of a list that was written to, or that grew, by a function of the place.
use Rattle.std.proofs.Common.{◌≡◌, ◌≢◌, ℕ, suc, zero, ◌<◌, ◌⊎◌, inl, inr, sym, ◌∙◌, ap, refl, List, [], ◌∷◌, ◌++◌, length, get_or, set, true, false, cond, eqb, Some, ⊎_elim}
use Rattle.std.specs.Prelude.{slice_get}
use Rattle.std.proofs.lemmas.Bool.{cases_lt}
use Rattle.std.proofs.lemmas.Option.{slice_get_past}
use Rattle.std.proofs.Math.Path.{fun_ext}
use Rattle.std.proofs.lemmas.List.{get_or-set_other, get_or-set_same}
use Rattle.std.proofs.lemmas.Bool.Decides.{eqb_tells}
use Rattle.meet_tickets.specs.BySeat.{put_at}

-- reading a list that was written to is reading a function that was changed there
put_at-set_here : {A : Type 0} (xs : List A) (i k : ℕ) (value d : A) → i < length xs → ((eqb k i ≡ true) × (k ≡ i)) ⊎ ((eqb k i ≡ false) × (k ≢ i)) → get_or (set xs i value) k d ≡ put_at (λ j. get_or xs j d) i value k
put_at-set_here xs i k value d there (inl h) =
    ap (λ j. get_or (set xs i value) j d) h.1 ∙ get_or-set_same xs i value d there ∙ sym (ap (λ b. cond b value (get_or xs k d)) h.0)
put_at-set_here xs i k value d there (inr h) =
    get_or-set_other xs i k value d h.1 ∙ sym (ap (λ b. cond b value (get_or xs k d)) h.0)

pub put_at-set : {A : Type 0} (xs : List A) (i : ℕ) (value d : A) → i < length xs → (λ (k : ℕ). get_or (set xs i value) k d) ≡ put_at (λ j. get_or xs j d) i value
put_at-set xs i value d there = fun_ext λ k. put_at-set_here xs i k value d there (eqb_tells k i)

pub padded_here : {A : Type 0} (xs : List A) (d : A) (k : ℕ) → get_or (xs ++ d ∷ []) k d ≡ get_or xs k d
padded_here [] d zero = refl
padded_here [] d (suc k) = refl
padded_here (x ∷ xs) d zero = refl
padded_here (x ∷ xs) d (suc k) = padded_here xs d k

-- what is read past the end may as well stand there
pub padded : {A : Type 0} (xs : List A) (d : A) → (let after : ℕ → A = λ k. get_or (xs ++ d ∷ []) k d in after ≡ (λ k. get_or xs k d))
padded xs d = fun_ext λ k. padded_here xs d k

-- a number at which something stands is below the length
pub got_below : {X : Type 0} (xs : List X) (n : ℕ) (x : X) → slice_get xs n ≡ Some x → n < length xs
got_below xs n x e = ⊎_elim (λ lt. lt) (λ le. let none = slice_get_past xs n le in absurd (cc)) (cases_lt n (length xs))
