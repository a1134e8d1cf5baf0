-- As many different numbers as pass a test are all that pass it.
use Rattle.std.proofs.Common.{◌≡◌, ◌≢◌, ℕ, ◌+◌, ◌≤◌, ◌==◌, ◌&&◌, refl, sym, ap, ◌∙◌, subst, ⊎_elim, Bool, true, false, not, List, [], ◌∷◌, length, Contains, arith}
use Rattle.std.specs.Prelude.{count_by}
use Rattle.std.proofs.lemmas.Bool.{cases_eq, eq-eqb, ne_eqb}
use Rattle.meet_tickets.proofs.Lists.Changed.{one, times, count_once}
use Rattle.meet_tickets.proofs.Lists.Lookups.{AreKeyed}
use Rattle.meet_tickets.proofs.Lists.Members.{Contains-first, Contains-rest}

-- the test without this number
abbrev but : (ℕ → Bool) → ℕ → ℕ → Bool
but p k x = p x && not (x == k)

and_true : (b : Bool) → (b && true) ≡ b
and_true true = refl
and_true false = refl

and_false : (b : Bool) → (b && false) ≡ false
and_false true = refl
and_false false = refl

-- others pass as before
but_other : (p : ℕ → Bool) (k x : ℕ) → x ≢ k → but p k x ≡ p x
but_other p k x other = ap (λ b. p x && not b) (ne_eqb x k other) ∙ and_true (p x)

but_own : (p : ℕ → Bool) (k : ℕ) → but p k k ≡ false
but_own p k = ap (λ b. p k && not b) (eq-eqb k k refl) ∙ and_false (p k)

and_first : (a b : Bool) → (a && b) ≡ true → a ≡ true
and_first true b both = refl
and_first false b both = both

-- one fewer passes
counted_but : (p : ℕ → Bool) (k : ℕ) (xs : List ℕ) → times k xs ≡ 1 → p k ≡ true → count_by (but p k) xs + 1 ≡ count_by p xs
counted_but p k xs once is =
    let changed = count_once (but p k) p k (λ x other. but_other p k x other) xs once in
    let here : ◌≡◌ {A = ℕ} (one (p k)) 1 = ap one is in
    let none : ◌≡◌ {A = ℕ} (one (but p k k)) 0 = ap one (but_own p k) in
    omega (arith, changed, here, none)

-- where each number that passes stands once in a list, and there are no more of them than these, which all pass
pub all_found : (p : ℕ → Bool) (numbers these : List ℕ) → ((x : ℕ) → p x ≡ true → times x numbers ≡ 1) → AreKeyed (λ x. x) these →
    ((x : ℕ) → Contains these x → p x ≡ true) → count_by p numbers ≤ length these → (x : ℕ) → p x ≡ true → Contains these x
all_found p numbers [] once apart pass few x is =
    let more = counted_but p x numbers (once x is) is in
    absurd (omega (arith, more, few))
all_found p numbers (y ∷ these) once apart pass few x is =
    ⊎_elim (λ same. subst (λ z. Contains (y ∷ these) z) (sym same) (Contains-first y these)) (λ other. Contains-rest y these x
    (all_found (but p y) numbers these (λ z passes. once z (and_first (p z) (not (z == y)) passes)) apart.1
    (λ z there. but_other p y z (apart.0 z there) ∙ pass z (Contains-rest y these z there)) fewer x (but_other p y x other ∙ is)))
    (cases_eq x y)
  where
    passes_first : p y ≡ true
    passes_first = pass y (Contains-first y these)

    counted : count_by (but p y) numbers + 1 ≡ count_by p numbers
    counted = counted_but p y numbers (once y passes_first) passes_first

    fewer : count_by (but p y) numbers ≤ length these
    fewer = omega (arith, counted, few)
