-- The numbers from 0 that pass a test, one number after another.
use Rattle.std.proofs.Common.{◌≡◌, ℕ, zero, suc, ◌+◌, ◌++◌, ◌∙◌, ap, sym, refl, Bool, true, false, List, [], ◌∷◌, arith}
use Rattle.std.specs.Prelude.{filter}
use Rattle.std.specs.List.{range_with_len}
use Rattle.std.proofs.lemmas.List.Elements.{filter-append}
use Rattle.std.proofs.lemmas.List.{append-nil}

one_more : (n a : ℕ) → range_with_len a (suc n) ≡ range_with_len a n ++ (a + n) ∷ []
one_more zero a = let e : a ≡ a + 0 = omega arith in ap (λ x. x ∷ []) e
one_more (suc n) a =
    let e : a + 1 + n ≡ a + suc n = omega arith in
    ap (λ l. a ∷ l) (one_more n (a + 1) ∙ ap (λ x. range_with_len (a + 1) n ++ x ∷ []) e)

filtered : (p : ℕ → Bool) (n : ℕ) → filter p (range_with_len 0 (n + 1)) ≡ filter p (range_with_len 0 n) ++ filter p (n ∷ [])
filtered p n =
    let e : n + 1 ≡ suc n = omega arith in
    let first : 0 + n ≡ n = omega arith in
    ap (λ m. filter p (range_with_len 0 m)) e
    ∙ ap (filter p) (one_more n 0 ∙ ap (λ m. range_with_len 0 n ++ m ∷ []) first)
    ∙ filter-append p (range_with_len 0 n) (n ∷ [])

-- one that passes stands at the end
pub passes : (p : ℕ → Bool) (n : ℕ) (list : List ℕ) → list ≡ filter p (range_with_len 0 n) → p n ≡ true
    → list ++ n ∷ [] ≡ filter p (range_with_len 0 (n + 1))
passes p n list is true_is =
    let alone : filter p (n ∷ []) ≡ n ∷ [] = rw true_is refl in
    ap (λ l. l ++ n ∷ []) is ∙ sym (filtered p n ∙ ap (λ l. filter p (range_with_len 0 n) ++ l) alone)

-- one that doesn't pass isn't there
pub falls : (p : ℕ → Bool) (n : ℕ) (list : List ℕ) → list ≡ filter p (range_with_len 0 n) → p n ≡ false
    → list ≡ filter p (range_with_len 0 (n + 1))
falls p n list is false_is =
    let alone : filter p (n ∷ []) ≡ [] = rw false_is refl in
    is ∙ sym (filtered p n ∙ ap (λ l. filter p (range_with_len 0 n) ++ l) alone ∙ append-nil (filter p (range_with_len 0 n)))
