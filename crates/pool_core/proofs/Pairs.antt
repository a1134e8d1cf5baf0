-- Pairs of takes and jobs, counted.
use Rattle.std.proofs.Common.{◌≡◌, ◌≢◌, ℕ, ◌+◌, ◌≤◌, ◌==◌, ◌&&◌, refl, ap, ◌∙◌, subst, Bool, true, false, not, eqb, Option, Some, None, List, [], ◌∷◌, Contains, All, arith, ◌⊎◌, inl, inr}
use Rattle.std.specs.Prelude.{count_by, option_to_list}
use Rattle.std.specs.List.{cons_option}
use Rattle.std.proofs.lemmas.Bool.{eq-eqb}
use Rattle.std.proofs.lemmas.Bool.Decides.{eqb_tells}
use Rattle.std.proofs.lemmas.List.Elements.{All-nil, All-cons}
use Rattle.meet_tickets.proofs.Lists.Changed.{one, count-cons}
use Rattle.meet_tickets.proofs.Lists.Members.{Contains-nil, Contains-cases, Contains-first, Contains-rest}
use Rattle.pool_core.specs.Promise.{Pair, pair}

-- what passes and is there is counted
pub counted : {X : Type 0} (q : X → Bool) (xs : List X) (x : X) → Contains xs x → q x ≡ true → 1 ≤ count_by q xs
counted q [] x there is = absurd (Contains-nil x there)
counted {X} q (y ∷ xs) x there is = by_place (λ more. counted q xs x more is) (Contains-cases y xs x there)
  where
    by_place : (Contains xs x → 1 ≤ count_by q xs) → (y ≡ x) ⊎ Contains xs x → 1 ≤ count_by q (y ∷ xs)
    by_place later (inl same) = let own : one (q y) ≡ 1 = ap one (ap q same ∙ is) in omega (arith, own, count-cons q y xs)
    by_place later (inr more) = omega (arith, later more, count-cons q y xs)

-- where none is counted, none has this number
pub all-apart : {X : Type 0} (key : X → ℕ) (t : ℕ) (xs : List X) → count_by (λ x. key x == t) xs ≡ 0 → All (λ x. key x ≢ t) xs
all-apart key t [] none = All-nil (λ x. key x ≢ t)
all-apart key t (y ∷ xs) none =
    let cons : count_by (λ x. key x == t) (y ∷ xs) ≡ one (key y == t) + count_by (λ x. key x == t) xs = count-cons (λ x. key x == t) y xs in
    let rest : count_by (λ x. key x == t) xs ≡ 0 = omega (arith, cons, none) in
    let apart : key y ≢ t = λ same. (let own : one (key y == t) ≡ 1 = ap one (eq-eqb (key y) t same) in omega (arith, cons, none, own)) in
    All-cons (λ x. key x ≢ t) y xs apart (all-apart key t xs rest)

-- one more that may be there
pub count-option : {X : Type 0} (q : X → Bool) (o : Option X) (xs : List X) → count_by q (cons_option o xs) ≡ count_by q (option_to_list o) + count_by q xs
count-option q None xs = omega arith
count-option q (Some x) xs = omega (arith, count-cons q x xs, count-cons q x [])

module _ (t u : ℕ) where
  -- how many of these pairs are this one
  abbrev pub both_in : List Pair → ℕ
  both_in pairs = count_by (λ x. (x.take == t) && (x.job == u)) pairs

  -- what is counted is there
  pub found-pair : (pairs : List Pair) → 1 ≤ both_in pairs → Contains pairs (pair t u)
  found-pair [] some = absurd (omega arith)
  found-pair (x ∷ pairs) some = by_test (found-pair pairs) (eqb_tells x.take t) (eqb_tells x.job u)
    where
      cons : both_in (x ∷ pairs) ≡ one ((x.take == t) && (x.job == u)) + both_in pairs
      cons = count-cons (λ y. (y.take == t) && (y.job == u)) x pairs

      by_test : (1 ≤ both_in pairs → Contains pairs (pair t u)) → ((eqb x.take t ≡ true) × (x.take ≡ t)) ⊎ ((eqb x.take t ≡ false) × (x.take ≢ t)) → ((eqb x.job u ≡ true) × (x.job ≡ u)) ⊎ ((eqb x.job u ≡ false) × (x.job ≢ u)) → Contains (x ∷ pairs) (pair t u)
      by_test rest (inl h) (inl k) = let same : x ≡ pair t u = λ j. pair (h.1 j) (k.1 j) in subst (λ y. Contains (x ∷ pairs) y) same (Contains-first x pairs)
      by_test rest (inr h) k = let none : one ((x.take == t) && (x.job == u)) ≡ 0 = ap (λ b. one (b && (x.job == u))) h.0 in Contains-rest x pairs (pair t u) (rest (omega (arith, some, cons, none)))
      by_test rest (inl h) (inr k) = let none : one ((x.take == t) && (x.job == u)) ≡ 0 = ap (λ b. one (b && (x.job == u))) h.0 ∙ ap one k.0 in Contains-rest x pairs (pair t u) (rest (omega (arith, some, cons, none)))

  -- those of this job are of this take, or of another
  pub both-split : (pairs : List Pair) → both_in pairs + count_by (λ p. not (p.take == t) && (p.job == u)) pairs ≡ count_by (λ p. p.job == u) pairs
  both-split [] = refl
  both-split (x ∷ pairs) =
      omega (arith, both-split pairs, one-both (x.take == t) (x.job == u), count-cons (λ p. (p.take == t) && (p.job == u)) x pairs, count-cons (λ p. not (p.take == t) && (p.job == u)) x pairs, count-cons (λ p. p.job == u) x pairs)
    where
      one-both : (a b : Bool) → one (a && b) + one (not a && b) ≡ one b
      one-both true b = omega arith
      one-both false b = omega arith
