-- What is read of a table that was written to.
use Rattle.std.proofs.Common.{◌≡◌, ◌≢◌, ℕ, ◌<◌, ◌⊎◌, inl, inr, sym, ◌∙◌, ap, List, length, get_or, set, true, false, cond, eqb}
use Rattle.std.proofs.Math.Path.{fun_ext}
use Rattle.std.proofs.lemmas.List.{get_or-set_other, get_or-set_same}
use Rattle.std.proofs.lemmas.Bool.Decides.{eqb_tells}
use Rattle.meet_tickets.specs.BySeat.{put_at}

-- reading a list that was written to is reading a function that was changed there
put_at-set_here : {A : Type 0} (xs : List A) (i k : ℕ) (value d : A) → i < length xs → ((eqb k i ≡ true) × (k ≡ i)) ⊎ ((eqb k i ≡ false) × (k ≢ i)) → get_or (set xs i value) k d ≡ put_at (λ j. get_or xs j d) i value k
put_at-set_here xs i k value d there (inl h) =
    ap (λ j. get_or (set xs i value) j d) h.1 ∙ get_or-set_same xs i value d there ∙ sym (ap (λ b. cond b value (get_or xs k d)) h.0)
put_at-set_here xs i k value d there (inr h) =
    get_or-set_other xs i k value d h.1 ∙ sym (ap (λ b. cond b value (get_or xs k d)) h.0)

pub put_at-set : {A : Type 0} (xs : List A) (i : ℕ) (value d : A) → i < length xs → (λ (k : ℕ). get_or (set xs i value) k d) ≡ put_at (λ j. get_or xs j d) i value
put_at-set xs i value d there = fun_ext λ k. put_at-set_here xs i k value d there (eqb_tells k i)
