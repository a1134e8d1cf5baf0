-- Who is in a bucket, and who isn't.
use Rattle.std.proofs.Common.{◌≡◌, ◌≢◌, ◌⊎◌, ℕ, ◌≤◌, Bool, true, false, cond, Option, Some, None, List, [], ◌∷◌, ◌++◌, refl, sym, ap, ◌∙◌, inl, inr, arith}
use Rattle.std.specs.List.{filter}
use Rattle.std.proofs.lemmas.List.Elements.{filter-append}
use Rattle.std.proofs.lemmas.Bool.{cases_Bool}
use Rattle.slab.specs.Slab.{Slab, get}
use Rattle.meet_line.specs.declared.nodes.Node.{Node}
use Rattle.meet_line.specs.Runs.{first_or, occurs, IsAbsent}
use Rattle.meet_line.proofs.Occurs.{occurs-same, occurs-other, absent-head, absent-tail}
use Rattle.meet_line.proofs.Runs.{last_or}

-- tests that are alike but for one key that isn't there
pub filter-alike : (f g : ℕ → Bool) (k : ℕ) (keys : List ℕ) → ((j : ℕ) → j ≢ k → f j ≡ g j) → IsAbsent (Some k) keys → filter f keys ≡ filter g keys
filter-alike f g k [] alike absent = refl
filter-alike f g k (x ∷ keys) alike absent =
    let other : x ≢ k = λ same. absent-head (Some k) x keys absent (ap (λ i. Some i) same) in
    ap (λ b. cond b (x ∷ filter f keys) (filter f keys)) (alike x other)
    ∙ ap (λ rest. cond (g x) (x ∷ rest) rest) (filter-alike f g k keys alike (absent-tail (Some k) x keys absent))

-- who doesn't pass isn't in what passes
pub absent-filtered : (f : ℕ → Bool) (j : ℕ) (keys : List ℕ) → f j ≡ false → occurs j (filter f keys) ≡ 0
absent-filtered f j [] fails = refl
absent-filtered f j (x ∷ keys) fails =
    elim (cases_Bool (f x)) [
      | inl passes ↦
          let other : x ≢ j = λ same. let clash : true ≡ false = sym passes ∙ ap f same ∙ fails in absurd (cc) in
          ap (λ b. occurs j (cond b (x ∷ filter f keys) (filter f keys))) passes
          ∙ omega (arith, occurs-other j x other, absent-filtered f j keys fails)
      | inr not ↦ ap (λ b. occurs j (cond b (x ∷ filter f keys) (filter f keys))) not ∙ absent-filtered f j keys fails
    ]

pub first-occurs : (keys : List ℕ) (j : ℕ) → first_or keys None ≡ Some j → 1 ≤ occurs j keys
first-occurs [] j first = absurd (cc)
first-occurs (k ∷ keys) j first = let same : k ≡ j = cc in omega (arith, occurs-same j k same)

last-occurs_from : (p : Option ℕ) (keys : List ℕ) (j : ℕ) → last_or p keys ≡ Some j → (p ≡ Some j) ⊎ (1 ≤ occurs j keys)
last-occurs_from p [] j last = inl last
last-occurs_from p (k ∷ keys) j last =
    elim (last-occurs_from (Some k) keys j last) [
      | inl here ↦ let same : k ≡ j = cc in inr (omega (arith, occurs-same j k same))
      | inr there ↦ inr (omega (arith, there))
    ]

pub last-occurs : (keys : List ℕ) (j : ℕ) → last_or None keys ≡ Some j → 1 ≤ occurs j keys
last-occurs keys j last = elim (last-occurs_from None keys j last) [ inl none ↦ absurd (cc) | inr there ↦ there ]

-- who is in what passes passes
pub passes-from_occurs : (f : ℕ → Bool) (j : ℕ) (keys : List ℕ) → 1 ≤ occurs j (filter f keys) → f j ≡ true
passes-from_occurs f j keys there =
    elim (cases_Bool (f j)) [ inl passes ↦ passes | inr fails ↦ absurd (omega (arith, there, absent-filtered f j keys fails)) ]

-- who stands in a list that has no vacant key has a node
pub there-from_occurs : (s : Slab Node) (keys : List ℕ) (j : ℕ) → ((k : ℕ) → get s k ≡ None → IsAbsent (Some k) keys) → 1 ≤ occurs j keys → get s j ≢ None
there-from_occurs s keys j present there none =
    let gone : occurs j keys ≡ 0 = present j none in
    absurd (omega (arith, there, gone))

-- one key more, or one between others
pub filter-passes : (f : ℕ → Bool) (xs : List ℕ) (k : ℕ) (ys : List ℕ) → f k ≡ true → filter f (xs ++ k ∷ ys) ≡ filter f xs ++ k ∷ filter f ys
filter-passes f xs k ys passes = filter-append f xs (k ∷ ys) ∙ ap (λ b. filter f xs ++ cond b (k ∷ filter f ys) (filter f ys)) passes

pub filter-fails : (f : ℕ → Bool) (xs : List ℕ) (k : ℕ) (ys : List ℕ) → f k ≡ false → filter f (xs ++ k ∷ ys) ≡ filter f (xs ++ ys)
filter-fails f xs k ys fails =
    filter-append f xs (k ∷ ys) ∙ ap (λ b. filter f xs ++ cond b (k ∷ filter f ys) (filter f ys)) fails ∙ sym (filter-append f xs ys)
