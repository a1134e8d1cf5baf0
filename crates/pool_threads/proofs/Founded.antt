-- A new pool.
use Rattle.std.proofs.Common.{◌≡◌, ℕ, zero, suc, Bool, false, List, [], ◌∷◌, Option, Some, None, refl, sym, ap, subst, ◌∙◌}
use Rattle.std.specs.Prelude.{map, replicate, slice_get, slice_index_or, take, drop, All}
use Rattle.std.proofs.lemmas.Option.{slice_get-get_or}
use Rattle.std.proofs.lemmas.List.Elements.{All-drop}
use Rattle.meet_place.specs.Seats.{SeatView, AreFresh}
use Rattle.pool_core.specs.Histories.{nobody}
use Rattle.pool_core.specs.Moves.{Jobs, jobs_of, given_at}
use Rattle.pool_core.specs.Pools.{Pool, is_there}
use Rattle.pool_core.specs.declared.stages.Stage.TheVariants.{Absent}

-- the same so many times
map-replicate : {A B : Type 0} (f : A → B) (x : A) (n : ℕ) → map f (replicate n x) ≡ replicate n (f x)
map-replicate f x zero = refl
map-replicate f x (suc n) = ap (λ l. f x ∷ l) (map-replicate f x n)

-- nobody works, and no job is there
nobody-jobs : (m : ℕ) → jobs_of (nobody {X = ℕ} (replicate m Absent)) ≡ record { kept = []; given = replicate m None; there = replicate m false }
nobody-jobs m =
    ap (λ (g : List (Option ℕ)). let j : Jobs ℕ = record { kept = []; given = g; there = map (is_there {X = ℕ}) (replicate m Absent) } in j) (map-replicate (given_at {X = ℕ}) Absent m)
    ∙ ap (λ (t : List Bool). let j : Jobs ℕ = record { kept = []; given = replicate m None; there = t } in j) (map-replicate (is_there {X = ℕ}) Absent m)

pub new_jobs : (m n : ℕ) (given : List (Option ℕ)) (there : List Bool) (p : Pool ℕ) → given ≡ replicate m None
    → there ≡ replicate n false → n ≡ m → p ≡ nobody (replicate m Absent)
    → record { kept = []; given = given; there = there } ≡ jobs_of p
new_jobs m n given there p g t same is =
    ap (λ (x : List (Option ℕ)). let j : Jobs ℕ = record { kept = []; given = x; there = there } in j) g
    ∙ ap (λ (x : List Bool). let j : Jobs ℕ = record { kept = []; given = replicate m None; there = x } in j) (t ∙ ap (λ k. replicate k false) same)
    ∙ sym (nobody-jobs m) ∙ ap jobs_of (sym is)

-- new seats have no receipt
pub fresh_rest : {D : Type 0} (n : ℕ) (xs ys : List (SeatView D)) → AreFresh xs → ys ≡ drop n xs → All (λ seat. seat.list ≡ []) ys
fresh_rest n xs ys fresh is =
    subst (All (λ seat. seat.list ≡ [])) (sym is)
    (All-drop (λ seat. seat.list ≡ []) n xs (λ k d within. (fresh k (slice_index_or xs k d) (slice_get-get_or xs k d within)).1))

-- what stands in the first of a list stands in it
first_there : {A : Type 0} (n : ℕ) (xs : List A) (i : ℕ) (y : A) → slice_get (take n xs) i ≡ Some y → slice_get xs i ≡ Some y
first_there zero xs i y e = absurd (cc)
first_there (suc n) [] i y e = absurd (cc)
first_there (suc n) (x ∷ xs) zero y e = e
first_there (suc n) (x ∷ xs) (suc i) y e = first_there n xs i y e

pub fresh_first : {D : Type 0} (n : ℕ) (xs ys : List (SeatView D)) → AreFresh xs → ys ≡ take n xs → AreFresh ys
fresh_first n xs ys fresh is i seat e = fresh i seat (first_there n xs i seat (subst (λ l. slice_get l i ≡ Some seat) is e))
