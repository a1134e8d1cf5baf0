-- The longest wait, one story more.
use Rattle.std.proofs.Common.{◌≡◌, ℕ, ◌+◌, ◌<◌, ◌≤◌, refl, sym, ap, ◌∙◌, subst, arith, Option, Some, None, List, [], ◌∷◌, ◌++◌, length, take, get_or}
use Rattle.std.specs.Prelude.{IfSome, All}
use Rattle.std.proofs.lemmas.List.{append_assoc, take_more}
use Rattle.std.proofs.lemmas.List.Elements.{All-append, All-nil, All-cons, All-push, All-weaker}
use Rattle.meet_sum.specs.declared.stories.Story.{Story}
use Rattle.meet_sum.specs.declared.waits.Wait.{Wait}
use Rattle.meet_sum.specs.Waits.{stay_told, IsStay, IsLongest}

-- what holds of a number, if there is one, holds more weakly
weaker : (P Q : ℕ → Type 0) → ((n : ℕ) → P n → Q n) → (o : Option ℕ) → IfSome o P → IfSome o Q
weaker P Q more None is = tt
weaker P Q more (Some n) is = more n is

-- and of none anything
vacuous : (Q : ℕ → Type 0) (o : Option ℕ) → o ≡ None → IfSome o Q
vacuous Q o none = subst (λ x. IfSome x Q) (sym none) tt

at_number : (Q : ℕ → Type 0) (o : Option ℕ) (n : ℕ) → o ≡ Some n → Q n → IfSome o Q
at_number Q o n is own = subst (λ x. IfSome x Q) (sym is) own

module _ (opened all : ℕ) (done : List Story) (s : Story) where
  abbrev stay : Story → Option ℕ
  stay = stay_told opened all

  abbrev Below : ℕ → Story → Type 0
  Below m x = IfSome (stay x) (λ n. n < m)

  abbrev NoMore : ℕ → Story → Type 0
  NoMore m x = IfSome (stay x) (λ n. n ≤ m)

  -- it never stood, or no longer than what was found
  pub longest-stays : (wait : Wait) → NoMore wait.records s → IsLongest opened all done (Some wait) → IsLongest opened all (done ++ s ∷ []) (Some wait)
  longest-stays wait under found = (
    found.0,
    found.1,
    found.2 ++ s ∷ [],
    ap (λ xs. xs ++ s ∷ []) found.3 ∙ append_assoc found.0 (found.1 ∷ found.2) (s ∷ []),
    found.4,
    found.5,
    All-push (NoMore wait.records) found.2 s found.6 under,
  )

  pub longest-unmoved : (best : Option Wait) → stay s ≡ None → IsLongest opened all done best → IsLongest opened all (done ++ s ∷ []) best
  longest-unmoved None none found = All-push (λ x. stay x ≡ None) done s found none
  longest-unmoved (Some wait) none found = longest-stays wait (vacuous (λ n. n ≤ wait.records) (stay s) none) found

  -- it is the first that stood
  pub longest-first : (wait : Wait) → IsStay opened all s wait → IsLongest opened all done None → IsLongest opened all (done ++ s ∷ []) (Some wait)
  longest-first wait own found =
      (done, s, [], refl, own, All-weaker (λ x. stay x ≡ None) (Below wait.records) (λ x none. vacuous (λ n. n < wait.records) (stay x) none) done found, All-nil (NoMore wait.records))

  -- it stood longer
  pub longest-longer : (old wait : Wait) → IsStay opened all s wait → old.records < wait.records → IsLongest opened all done (Some old) → IsLongest opened all (done ++ s ∷ []) (Some wait)
  longest-longer old wait own above found = (done, s, [], refl, own, subst (All (Below wait.records)) (sym found.3) before, All-nil (NoMore wait.records))
    where
      before : All (Below wait.records) (found.0 ++ found.1 ∷ found.2)
      before = All-append (Below wait.records) found.0 (found.1 ∷ found.2)
          (All-weaker (Below old.records) (Below wait.records) (λ x under. weaker (λ n. n < old.records) (λ n. n < wait.records) (λ n u. omega arith) (stay x) under) found.0 found.5)
          (All-cons (Below wait.records) found.1 found.2 (at_number (λ n. n < wait.records) (stay found.1) old.records found.4.stay above)
          (All-weaker (NoMore old.records) (Below wait.records) (λ x under. weaker (λ n. n ≤ old.records) (λ n. n < wait.records) (λ n u. omega arith) (stay x) under) found.2 found.6))

-- the longer of what was found so far and one more
pub longer-either : (opened all : ℕ) (done : List Story) (s : Story) (old here : Wait) → here.records ≤ old.records → IsStay opened all s here → IsLongest opened all done (Some old) → IsLongest opened all (done ++ s ∷ []) (Some old)
longer-either opened all done s old here under own found =
    longest-stays opened all done s old (at_number (λ n. n ≤ old.records) (stay_told opened all s) here.records own.stay under) found

-- of one story more that was told of
pub one-more : (opened all : ℕ) (stories : List Story) (i : ℕ) (s : Story) (best : Option Wait) → i < length stories → s ≡ get_or stories i s → IsLongest opened all (take i stories ++ s ∷ []) best → IsLongest opened all (take (i + 1) stories) best
one-more opened all stories i s best within is found =
    subst (λ xs. IsLongest opened all xs best) (ap (λ x. take i stories ++ x ∷ []) is ∙ sym (take_more stories i s within)) found
