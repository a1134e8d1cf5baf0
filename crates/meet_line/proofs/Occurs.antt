-- How often a key stands in a list.
use Rattle.std.proofs.Common.{◌≡◌, ◌≢◌, ℕ, ◌+◌, ◌<◌, ◌≤◌, ◌==◌, ◌||◌, length, eqb, Bool, true, false, cond, Option, Some, None, List, [], ◌∷◌, ◌++◌, refl, sym, ap, ◌∙◌, inl, inr, arith, reverse}
use Rattle.std.specs.List.{filter, list_any, AllByRecursion}
use Rattle.std.specs.List.{IsDistinct as StdDistinct}
use Rattle.std.proofs.lemmas.List.{reverse-append}
use Rattle.std.proofs.lemmas.Bool.Decides.{eqb_tells}
use Rattle.std.proofs.lemmas.Map.Steps.{length-le_from_distinct_below}
use Rattle.meet_line.specs.Runs.{occurs, IsAbsent, IsDistinct}

pub occurs-append : (j : ℕ) (xs ys : List ℕ) → occurs j (xs ++ ys) ≡ occurs j xs + occurs j ys
occurs-append j [] ys = omega arith
occurs-append j (x ∷ xs) ys = omega (arith, occurs-append j xs ys)

pub occurs-reverse : (j : ℕ) (xs : List ℕ) → occurs j (reverse xs) ≡ occurs j xs
occurs-reverse j [] = refl
occurs-reverse j (x ∷ xs) =
    ap (occurs j) (reverse-append (x ∷ []) xs) ∙ omega (arith, occurs-append j (reverse xs) (x ∷ []), occurs-reverse j xs)

pub occurs-filter : (f : ℕ → Bool) (j : ℕ) (xs : List ℕ) → occurs j (filter f xs) ≤ occurs j xs
occurs-filter f j [] = omega arith
occurs-filter f j (x ∷ xs) =
    elim (f x) as (λ b. occurs j (cond b (x ∷ filter f xs) (filter f xs)) ≤ cond (x == j) 1 0 + occurs j xs) [
      | true ↦ omega (arith, occurs-filter f j xs)
      | false ↦ omega (arith, occurs-filter f j xs)
    ]

pub occurs-same : (j k : ℕ) → k ≡ j → ◌≡◌ {A = ℕ} (cond (k == j) 1 0) 1
occurs-same j k same = elim (eqb_tells k j) [ inl y ↦ ap {B = ℕ} (λ b. cond b 1 0) y.0 | inr n ↦ absurd (n.1 same) ]

pub occurs-other : (j k : ℕ) → k ≢ j → ◌≡◌ {A = ℕ} (cond (k == j) 1 0) 0
occurs-other j k other = elim (eqb_tells k j) [ inl y ↦ absurd (other y.1) | inr n ↦ ap {B = ℕ} (λ b. cond b 1 0) n.0 ]

-- who isn't among them isn't the first
pub absent-head : (p : Option ℕ) (k : ℕ) (keys : List ℕ) → IsAbsent p (k ∷ keys) → Some k ≢ p
absent-head None k keys absent same = absurd (cc)
absent-head (Some j) k keys absent same =
    let same_key : k ≡ j = cc in
    absurd (omega (arith, occurs-same j k same_key, absent))

pub absent-tail : (p : Option ℕ) (k : ℕ) (keys : List ℕ) → IsAbsent p (k ∷ keys) → IsAbsent p keys
absent-tail None k keys absent = tt
absent-tail (Some j) k keys absent = omega (arith, absent)

pub distinct-tail : (k : ℕ) (keys : List ℕ) → IsDistinct (k ∷ keys) → IsDistinct keys
distinct-tail k keys distinct j = omega (arith, distinct j)

pub distinct-head : (k : ℕ) (keys : List ℕ) → IsDistinct (k ∷ keys) → IsAbsent (Some k) keys
distinct-head k keys distinct = omega (arith, distinct k, occurs-same k k refl)

pub absent-filter : (f : ℕ → Bool) (p : Option ℕ) (keys : List ℕ) → IsAbsent p keys → IsAbsent p (filter f keys)
absent-filter f None keys absent = tt
absent-filter f (Some j) keys absent = omega (arith, absent, occurs-filter f j keys)

pub distinct-filter : (f : ℕ → Bool) (keys : List ℕ) → IsDistinct keys → IsDistinct (filter f keys)
distinct-filter f keys distinct j = omega (arith, distinct j, occurs-filter f j keys)

pub absent-reverse : (p : Option ℕ) (keys : List ℕ) → IsAbsent p keys → IsAbsent p (reverse keys)
absent-reverse None keys absent = tt
absent-reverse (Some j) keys absent = occurs-reverse j keys ∙ absent

pub distinct-reverse : (keys : List ℕ) → IsDistinct keys → IsDistinct (reverse keys)
distinct-reverse keys distinct j = omega (arith, distinct j, occurs-reverse j keys)

-- a key between others stands nowhere else
pub distinct-middle : (xs : List ℕ) (k : ℕ) (ys : List ℕ) → IsDistinct (xs ++ k ∷ ys) → IsAbsent (Some k) (xs ++ ys)
distinct-middle xs k ys distinct =
    omega (arith, distinct k, occurs-append k xs (k ∷ ys), occurs-append k xs ys, occurs-same k k refl)

pub distinct-less : (xs : List ℕ) (k : ℕ) (ys : List ℕ) → IsDistinct (xs ++ k ∷ ys) → IsDistinct (xs ++ ys)
distinct-less xs k ys distinct j = omega (arith, distinct j, occurs-append j xs (k ∷ ys), occurs-append j xs ys)

pub distinct-push : (keys : List ℕ) (n : ℕ) → IsDistinct keys → IsAbsent (Some n) keys → IsDistinct (keys ++ n ∷ [])
distinct-push keys n distinct absent j =
    elim (eqb_tells n j) [
      | inl y ↦
          let none : occurs j keys ≡ 0 = ap (λ i. occurs i keys) (sym y.1) ∙ absent in
          omega (arith, none, occurs-append j keys (n ∷ []), occurs-same j n y.1)
      | inr m ↦ omega (arith, distinct j, occurs-append j keys (n ∷ []), occurs-other j n m.1)
    ]

-- a key that occurs is among them
any_from_occurs : (q : ℕ) (keys : List ℕ) → list_any (λ k. q == k) keys ≡ true → 1 ≤ occurs q keys
any_from_occurs q [] any = absurd (cc)
any_from_occurs q (k ∷ keys) any =
    elim (eqb_tells q k) [
      | inl y ↦ omega (arith, occurs-same q k (sym y.1))
      | inr n ↦
          let rest : list_any (λ i. q == i) keys ≡ true = ap (λ b. b || list_any (λ i. q == i) keys) (sym n.0) ∙ any in
          omega (arith, any_from_occurs q keys rest)
    ]

differs_from_absent : (k : ℕ) (keys : List ℕ) → IsAbsent (Some k) keys → AllByRecursion (λ j. (k == j) ≡ false) keys
differs_from_absent k [] absent = tt
differs_from_absent k (j ∷ keys) absent =
    let here : (k == j) ≡ false = elim (eqb_tells k j) [
      | inl y ↦ let same : Some j ≡ Some k = ap (λ i. Some i) (sym y.1) in absurd (absent-head (Some k) j keys absent same)
      | inr n ↦ n.0
    ] in
    (here, differs_from_absent k keys (absent-tail (Some k) j keys absent))

distinct-std : (keys : List ℕ) → IsDistinct keys → StdDistinct eqb keys
unfolding StdDistinct
distinct-std [] distinct = tt
distinct-std (k ∷ keys) distinct =
    (differs_from_absent k keys (distinct-head k keys distinct), distinct-std keys (distinct-tail k keys distinct))

-- there are no more keys below a number than that
pub length-below : (keys : List ℕ) (n : ℕ) → IsDistinct keys → ((j : ℕ) → 1 ≤ occurs j keys → j < n) → length keys ≤ n
length-below keys n distinct below =
    length-le_from_distinct_below keys n (distinct-std keys distinct) (λ q any. below q (any_from_occurs q keys any))
