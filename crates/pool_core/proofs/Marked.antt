-- Which places of a list are in a set of numbers.
use Rattle.std.proofs.Common.{◌≡◌, ◌≢◌, ℕ, ◌<◌, ◌≤◌, refl, sym, ap, ◌∙◌, subst, Bool, true, false, cond, Option, Some, None, List, length, replicate, get_or, set, arith, get_or-set_same, get_or-set_other, inl, inr, ◌⊎◌}
use Rattle.std.specs.Prelude.{position, MatchOption, nat_lt}
use Rattle.std.specs.List.{position_or_len}
use Rattle.std.proofs.lemmas.Bool.{cases_eq, cases_lt, lt-ltb}
use Rattle.std.proofs.lemmas.Bool.Decides.{nat_tests}
use Rattle.std.proofs.lemmas.List.{get_or_past, get_or-replicate, length-replicate}
use Rattle.std.proofs.lemmas.List.Sums.{position_or_len_is}
use Rattle.pool_core.specs.Numbers.{holds, Marks}

abbrev one : Bool → ℕ
one b = cond b 1 0

is-in : (b : Bool) → one b ≡ 1 → b ≡ true
is-in true is = refl
is-in false is = absurd (omega arith)

is-out : (b : Bool) → one b ≡ 0 → b ≡ false
is-out true is = absurd (omega arith)
is-out false is = refl

-- a list of items at which p passes, and one at which it fails
pub marks-all : {X : Type 0} (p : X → Bool) (past x : X) (n : ℕ) (words : List ℕ) → p x ≡ true → p past ≡ false → ((k : ℕ) → holds words k ≡ one (nat_lt k n)) → Marks p past (replicate n x) words
marks-all {X} p past x n words passes fails held k = by_order (cases_lt k n)
  where
    by_order : (k < n) ⊎ (n ≤ k) → holds words k ≡ one (p (get_or (replicate n x) k past))
    by_order (inl lt) = held k ∙ ap one (lt-ltb k n lt) ∙ sym (ap (λ y. one (p y)) (get_or-replicate n k x past lt) ∙ ap one passes)
    by_order (inr ge) = held k ∙ ap one (not-below ge) ∙ sym (ap (λ y. one (p y)) (get_or_past (replicate n x) k past (past-end ge)) ∙ ap one fails)
      where
        past-end : n ≤ k → length (replicate n x) ≤ k
        past-end ge = omega (arith, length-replicate n x)

        not-below : n ≤ k → nat_lt k n ≡ false
        not-below ge = grind (arith, nat_tests)

pub marks-none : {X : Type 0} (p : X → Bool) (x : X) (n : ℕ) (words : List ℕ) → p x ≡ false → ((k : ℕ) → holds words k ≡ 0) → Marks p x (replicate n x) words
marks-none p x n words fails held k = by_order (cases_lt k n)
  where
    by_order : (k < n) ⊎ (n ≤ k) → holds words k ≡ one (p (get_or (replicate n x) k x))
    by_order (inl lt) = held k ∙ sym (ap (λ y. one (p y)) (get_or-replicate n k x x lt) ∙ ap one fails)
    by_order (inr ge) = held k ∙ sym (ap (λ y. one (p y)) (get_or_past (replicate n x) k x (past-end ge)) ∙ ap one fails)
      where
        past-end : n ≤ k → length (replicate n x) ≤ k
        past-end ge = omega (arith, length-replicate n x)

module _ {X : Type 0} (p : X → Bool) (past : X) (xs : List X) (words : List ℕ) (marks : Marks p past xs words) where
  -- another item comes to a place
  pub marks-set : (w : ℕ) (y : X) (after : List ℕ) → w < length xs → holds after w ≡ one (p y) → ((n : ℕ) → n ≢ w → holds after n ≡ holds words n) → Marks p past (set xs w y) after
  marks-set w y after there own others n = by_case (cases_eq n w)
    where
      by_case : (n ≡ w) ⊎ (n ≢ w) → holds after n ≡ one (p (get_or (set xs w y) n past))
      by_case (inl is) = subst (λ k. holds after k ≡ one (p (get_or (set xs w y) k past))) (sym is) (own ∙ ap (λ x. one (p x)) (sym (get_or-set_same xs w y past there)))
      by_case (inr is) = others n is ∙ marks n ∙ ap (λ x. one (p x)) (sym (get_or-set_other xs w n y past is))

  -- the first place at which p passes is the least number in the set
  pub marks-least : p past ≡ false → (least : Option ℕ) → MatchOption least ((n : ℕ) → holds words n ≡ 0) (λ k. (holds words k ≡ 1) × ((n : ℕ) → n < k → holds words n ≡ 0)) → position p xs ≡ least
  marks-least fails None none = at-end (position_or_len_is p xs (length xs) past (omega arith) (λ k below. out-at k (none k)) (λ less. absurd (omega arith)))
    where
      out-at : (n : ℕ) → holds words n ≡ 0 → p (get_or xs n past) ≡ false
      out-at n is = is-out (p (get_or xs n past)) (sym (marks n) ∙ is)

      at-end : position_or_len p xs ≡ length xs → position p xs ≡ None
      at-end is = rw is (grind arith)
  marks-least fails (Some k) found = at-place (position_or_len_is p xs k past (let lt : k < length xs = within in omega arith) (λ n below. is-out (p (get_or xs n past)) (sym (marks n) ∙ found.1 n below)) (λ less. in-at))
    where
      in-at : p (get_or xs k past) ≡ true
      in-at = is-in (p (get_or xs k past)) (sym (marks k) ∙ found.0)

      below-or : (k < length xs) ⊎ (length xs ≤ k) → k < length xs
      below-or (inl lt) = lt
      below-or (inr ge) = absurd (let no : true ≡ false = sym in-at ∙ ap p (get_or_past xs k past ge) ∙ fails in cc)

      within : k < length xs
      within = below-or (cases_lt k (length xs))

      at-place : position_or_len p xs ≡ k → position p xs ≡ Some k
      at-place is = rw is (grind (arith, within))
