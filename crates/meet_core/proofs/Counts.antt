-- How many seats of a table have an open ticket.
use Rattle.std.proofs.Common.{◌≡◌, ℕ, zero, suc, ◌+◌, Bool, false, cond, refl, sym, ◌∙◌, ap, List, [], ◌∷◌, ◌++◌, length, get_or, replicate, arith}
use Rattle.std.proofs.Math.Path.{fun_ext, ap₂}
use Rattle.std.proofs.lemmas.List.Sums.{sum_by-cons}
use Rattle.std.specs.Prelude.{count_by}
use Rattle.std.specs.List.{range_with_len}
use Rattle.meet_tickets.specs.declared.lines.Hold.{Hold}
use Rattle.meet_tickets.specs.declared.lines.Hold.TheVariants.{Free}
use Rattle.meet_core.specs.Table.{hold_at, flag_at}

-- of seats that hold nothing, none is counted
pub count_by-replicate_free : {X : Type 0} (p : Hold X → Bool) → p Free ≡ false → (n : ℕ) → count_by p (replicate n Free) ≡ 0
count_by-replicate_free p free zero = refl
count_by-replicate_free p free (suc n) =
    sum_by-cons (λ hold. cond (p hold) 1 0) Free (replicate n Free) ∙ ap₂ ◌+◌ (ap (λ b. cond b 1 0) free) (count_by-replicate_free p free n)

-- counting the places of a list is counting the list
count_by-places : {X : Type 0} (p : X → Bool) (d : X) (xs : List X) (g : ℕ → X) (a : ℕ) → ((k : ℕ) → g (a + k) ≡ get_or xs k d) → count_by (λ j. p (g j)) (range_with_len a (length xs)) ≡ count_by p xs
count_by-places p d [] g a same = refl
count_by-places p d (x ∷ xs) g a same =
    let here : g a ≡ x = ap g (omega arith) ∙ same 0 in
    let rest : (k : ℕ) → g (a + 1 + k) ≡ get_or xs k d = λ k. ap g (omega arith) ∙ same (suc k) in
    sum_by-cons (λ j. cond (p (g j)) 1 0) a (range_with_len (a + 1) (length xs))
    ∙ ap₂ ◌+◌ (ap (λ y. cond (p y) 1 0) here) (count_by-places p d xs g (a + 1) rest)
    ∙ sym (sum_by-cons (λ y. cond (p y) 1 0) x xs)

-- so the seats may be counted by number
pub count_by-holds : {T : Type 0} (p : Hold T → Bool) (holds : List (Hold T)) → count_by (λ seat. p (hold_at holds seat)) (range_with_len 0 (length holds)) ≡ count_by p holds
count_by-holds p holds = count_by-places p Free holds (hold_at holds) 0 (λ k. ap (hold_at holds) (omega arith))

-- of seats that hold nothing, each holds nothing
pub hold_at-replicate : (T : Type 0) (n : ℕ) → hold_at {T = T} (replicate n Free) ≡ (λ _. Free)
hold_at-replicate T n = fun_ext (free_at T n)
  where
    free_at : (T : Type 0) (n k : ℕ) → hold_at {T = T} (replicate n Free) k ≡ Free
    free_at T zero k = refl
    free_at T (suc n) zero = refl
    free_at T (suc n) (suc k) = free_at T n k

-- of seats that aren't flagged, none is
pub flag_at-replicate : (n : ℕ) → flag_at (replicate n false) ≡ (λ _. false)
flag_at-replicate n = fun_ext (clear_at n)
  where
    clear_at : (n k : ℕ) → flag_at (replicate n false) k ≡ false
    clear_at zero k = refl
    clear_at (suc n) zero = refl
    clear_at (suc n) (suc k) = clear_at n k

-- seats that hold nothing change no count
pub count_by-more_free : {X : Type 0} (p : Hold X → Bool) → p Free ≡ false → (holds : List (Hold X)) (n : ℕ) → count_by p (holds ++ replicate n Free) ≡ count_by p holds
count_by-more_free p free [] n = count_by-replicate_free p free n
count_by-more_free p free (hold ∷ holds) n =
    sum_by-cons (λ h. cond (p h) 1 0) hold (holds ++ replicate n Free)
    ∙ ap (λ k. cond (p hold) 1 0 + k) (count_by-more_free p free holds n)
    ∙ sym (sum_by-cons (λ h. cond (p h) 1 0) hold holds)

-- nor what a seat holds
pub hold_at-more : {T : Type 0} (holds : List (Hold T)) (n : ℕ) → hold_at (holds ++ replicate n Free) ≡ hold_at holds
hold_at-more {T} holds n = fun_ext (at holds n)
  where
    at : (holds : List (Hold T)) (n k : ℕ) → hold_at (holds ++ replicate n Free) k ≡ hold_at holds k
    at [] n k = ap (λ f. f k) (hold_at-replicate T n)
    at (hold ∷ holds) n zero = refl
    at (hold ∷ holds) n (suc k) = at holds n k

-- and seats that aren't flagged, nor which are
pub flag_at-more : (flags : List Bool) (n : ℕ) → flag_at (flags ++ replicate n false) ≡ flag_at flags
flag_at-more flags n = fun_ext (at flags n)
  where
    at : (flags : List Bool) (n k : ℕ) → flag_at (flags ++ replicate n false) k ≡ flag_at flags k
    at [] n k = ap (λ f. f k) (flag_at-replicate n)
    at (flag ∷ flags) n zero = refl
    at (flag ∷ flags) n (suc k) = at flags n k

-- where no seat holds anything the first doesn't
pub hold_at-none_first : {T : Type 0} (hold : Hold T) (holds : List (Hold T)) → hold_at (hold ∷ holds) ≡ (λ _. Free) → hold ≡ Free
hold_at-none_first hold holds none = ap (λ held. held 0) none

-- and no other does
pub hold_at-none_later : {T : Type 0} (hold : Hold T) (holds : List (Hold T)) → hold_at (hold ∷ holds) ≡ (λ _. Free) → hold_at holds ≡ (λ _. Free)
hold_at-none_later hold holds none = ap (λ held seat. held (suc seat)) none
