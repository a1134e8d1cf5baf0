-- What becomes of a run where a key is taken out of it, or comes in.
use Rattle.std.proofs.Common.{◌≡◌, ◌≢◌, ◌⊎◌, ℕ, zero, suc, ◌≤◌, true, false, cond, Option, Some, None, List, [], ◌∷◌, ◌++◌, length, refl, sym, ap, ◌∙◌, inl, inr, subst, arith, reverse}
use Rattle.std.proofs.lemmas.List.{reverse-append, reverse-reverse, append_assoc, append-nil}
use Rattle.std.proofs.lemmas.Bool.Decides.{eqb_tells}
use Rattle.meet_line.specs.Runs.{is_same, put_link, IsRun, IsRing, first_or, followed, IsAbsent, IsDistinct}
use Rattle.meet_line.proofs.Occurs.{absent-head, absent-tail, distinct-tail, distinct-head, absent-reverse, distinct-reverse}

pub same_tells : (p q : Option ℕ) → ((is_same p q ≡ true) × (p ≡ q)) ⊎ ((is_same p q ≡ false) × (p ≢ q))
same_tells None None = inl (refl, refl)
same_tells None (Some b) = inr (refl, λ e. absurd (cc))
same_tells (Some a) None = inr (refl, λ e. absurd (cc))
same_tells (Some a) (Some b) =
    elim (eqb_tells a b) [
      | inl y ↦ inl (y.0, ap (λ k. Some k) y.1)
      | inr n ↦ inr (n.0, λ e. let same : a ≡ b = cc in n.1 same)
    ]

pub put_same : (next : Option ℕ → Option ℕ) (at to p : Option ℕ) → p ≡ at → put_link next at to p ≡ to
put_same next at to p same =
    elim (same_tells p at) [ inl y ↦ ap (λ b. cond b to (next p)) y.0 | inr n ↦ absurd (n.1 same) ]

pub put_other : (next : Option ℕ → Option ℕ) (at to p : Option ℕ) → p ≢ at → put_link next at to p ≡ next p
put_other next at to p other =
    elim (same_tells p at) [ inl y ↦ absurd (other y.1) | inr n ↦ ap (λ b. cond b to (next p)) n.0 ]

-- links that differ at one place alone lead through a run elsewhere alike
pub run-elsewhere : (next other : Option ℕ → Option ℕ) (at p : Option ℕ) (keys : List ℕ) (q : Option ℕ) → ((r : Option ℕ) → r ≢ at → other r ≡ next r) → p ≢ at → IsAbsent at keys → IsRun next p keys q → IsRun other p keys q
run-elsewhere next other at p [] q alike apart absent run = alike p apart ∙ run
run-elsewhere next other at p (k ∷ keys) q alike apart absent run = (
  alike p apart ∙ run.0,
  run-elsewhere next other at (Some k) keys q alike (absent-head at k keys absent) (absent-tail at k keys absent) run.1,
)

-- the last key, or p where there is none
abbrev pub last_or : Option ℕ → List ℕ → Option ℕ
last_or p [] = p
last_or p (k ∷ keys) = last_or (Some k) keys

-- who isn't among them isn't the last
not_last : (p : Option ℕ) (x : ℕ) (xs zs : List ℕ) → IsAbsent p (x ∷ xs ++ zs) → p ≢ last_or (Some x) xs
not_last p x [] zs absent same = absent-head p x zs absent (sym same)
not_last p x (y ∷ xs) zs absent same = not_last p y xs zs (absent-tail p x (y ∷ xs ++ zs) absent) same

-- a key leaves a run
pub run-take : (next : Option ℕ → Option ℕ) (p : Option ℕ) (xs : List ℕ) (k : ℕ) (ys : List ℕ) (q : Option ℕ) → IsDistinct (xs ++ k ∷ ys) → IsAbsent p (xs ++ k ∷ ys) → IsRun next p (xs ++ k ∷ ys) q → IsRun (put_link next (last_or p xs) (next (Some k))) p (xs ++ ys) q
run-take next p [] k [] q distinct absent run = put_same next p (next (Some k)) p refl ∙ run.1
run-take next p [] k (y ∷ ys) q distinct absent run =
    let behind = absent-tail p k (y ∷ ys) absent in (
      put_same next p (next (Some k)) p refl ∙ run.1.0,
      run-elsewhere next (put_link next p (next (Some k))) p (Some y) ys q (put_other next p (next (Some k))) (absent-head p y ys behind) (absent-tail p y ys behind) run.1.1,
    )
run-take next p (x ∷ xs) k ys q distinct absent run = (
  put_other next (last_or (Some x) xs) (next (Some k)) p (not_last p x xs (k ∷ ys) absent) ∙ run.0,
  run-take next (Some x) xs k ys q (distinct-tail x (xs ++ k ∷ ys) distinct) (distinct-head x (xs ++ k ∷ ys) distinct) run.1,
)

-- a key comes into a run
pub run-add : (next : Option ℕ → Option ℕ) (p : Option ℕ) (xs : List ℕ) (n : ℕ) (ys : List ℕ) (q : Option ℕ) → IsDistinct (xs ++ ys) → IsAbsent p (xs ++ ys) → IsAbsent (Some n) (xs ++ ys) → p ≢ Some n → IsRun next p (xs ++ ys) q → IsRun (put_link (put_link next (Some n) (next (last_or p xs))) (last_or p xs) (Some n)) p (xs ++ n ∷ ys) q
run-add next p [] n [] q distinct absent fresh apart run =
    let one = put_link next (Some n) (next p) in (
      put_same one p (Some n) p refl,
      put_other one p (Some n) (Some n) (λ e. apart (sym e)) ∙ put_same next (Some n) (next p) (Some n) refl ∙ run,
    )
run-add next p [] n (y ∷ ys) q distinct absent fresh apart run =
    let one = put_link next (Some n) (next p) in
    let two = put_link one p (Some n) in (
      put_same one p (Some n) p refl,
      (
        put_other one p (Some n) (Some n) (λ e. apart (sym e)) ∙ put_same next (Some n) (next p) (Some n) refl ∙ run.0,
        run-elsewhere one two p (Some y) ys q (put_other one p (Some n)) (absent-head p y ys absent) (absent-tail p y ys absent) (
            run-elsewhere next one (Some n) (Some y) ys q (put_other next (Some n) (next p)) (absent-head (Some n) y ys fresh) (absent-tail (Some n) y ys fresh) run.1
            ),
      ),
    )
run-add next p (x ∷ xs) n ys q distinct absent fresh apart run =
    let last = last_or (Some x) xs in
    let one = put_link next (Some n) (next last) in (
      put_other one last (Some n) p (not_last p x xs ys absent) ∙ put_other next (Some n) (next last) p apart ∙ run.0,
      run-add next (Some x) xs n ys q (distinct-tail x (xs ++ ys) distinct) (distinct-head x (xs ++ ys) distinct) (absent-tail (Some n) x (xs ++ ys) fresh) (absent-head (Some n) x (xs ++ ys) fresh) run.1,
    )

-- what comes behind a key of a run
pub run-next : (next : Option ℕ → Option ℕ) (p : Option ℕ) (xs : List ℕ) (k : ℕ) (ys : List ℕ) (q : Option ℕ) → IsRun next p (xs ++ k ∷ ys) q → next (Some k) ≡ first_or ys q
run-next next p [] k [] q run = run.1
run-next next p [] k (y ∷ ys) q run = run.1.0
run-next next p (x ∷ xs) k ys q run = run-next next (Some x) xs k ys q run.1

pub run-first : (next : Option ℕ → Option ℕ) (p : Option ℕ) (keys : List ℕ) (q : Option ℕ) → IsRun next p keys q → next p ≡ first_or keys q
run-first next p [] q run = run
run-first next p (k ∷ keys) q run = run.0

run-last : (next : Option ℕ → Option ℕ) (p : Option ℕ) (keys : List ℕ) (q : Option ℕ) → IsRun next p keys q → next (last_or p keys) ≡ q
run-last next p [] q run = run
run-last next p (k ∷ keys) q run = run-last next (Some k) keys q run.1

first_or-push : (keys : List ℕ) (k : ℕ) (p : Option ℕ) → first_or (keys ++ k ∷ []) p ≡ first_or keys (Some k)
first_or-push [] k p = refl
first_or-push (x ∷ keys) k p = refl

pub first_or-reverse : (p : Option ℕ) (keys : List ℕ) → first_or (reverse keys) p ≡ last_or p keys
first_or-reverse p [] = refl
first_or-reverse p (k ∷ keys) =
    ap (λ ks. first_or ks p) (reverse-append (k ∷ []) keys) ∙ first_or-push (reverse keys) k p ∙ first_or-reverse (Some k) keys

pub last_or-reverse : (p : Option ℕ) (keys : List ℕ) → last_or p (reverse keys) ≡ first_or keys p
last_or-reverse p keys = sym (first_or-reverse p (reverse keys)) ∙ ap (λ ks. first_or ks p) (reverse-reverse keys)

pub reverse-middle : (xs : List ℕ) (k : ℕ) (ys : List ℕ) → reverse (xs ++ k ∷ ys) ≡ reverse ys ++ k ∷ reverse xs
reverse-middle xs k ys =
    reverse-append xs (k ∷ ys) ∙ ap (λ zs. zs ++ reverse xs) (reverse-append (k ∷ []) ys) ∙ append_assoc (reverse ys) (k ∷ []) (reverse xs)

-- a key leaves a ring: its neighbours are linked
pub ring-take : (next back : Option ℕ → Option ℕ) (xs : List ℕ) (k : ℕ) (ys : List ℕ) → IsDistinct (xs ++ k ∷ ys) → IsRing next back (xs ++ k ∷ ys) → IsRing (put_link next (back (Some k)) (next (Some k))) (put_link back (next (Some k)) (back (Some k))) (xs ++ ys)
ring-take next back xs k ys distinct ring =
    let turned : IsRun back None (reverse ys ++ k ∷ reverse xs) None = subst (λ ks. IsRun back None ks None) (reverse-middle xs k ys) ring.backward in
    let before : back (Some k) ≡ last_or None xs = run-next back None (reverse ys) k (reverse xs) None turned ∙ first_or-reverse None xs in
    let after : next (Some k) ≡ last_or None (reverse ys) = run-next next None xs k ys None ring.onward ∙ sym (last_or-reverse None ys) in
    let apart : IsDistinct (reverse ys ++ k ∷ reverse xs) = subst IsDistinct (reverse-middle xs k ys) (distinct-reverse (xs ++ k ∷ ys) distinct) in
    let there = run-take next None xs k ys None distinct tt ring.onward in
    let here = run-take back None (reverse ys) k (reverse xs) None apart tt turned in
    record {
      onward = subst (λ p. IsRun (put_link next p (next (Some k))) None (xs ++ ys) None) (sym before) there;
      backward = subst (λ p. IsRun (put_link back p (back (Some k))) None (reverse (xs ++ ys)) None) (sym after) (
          subst (λ ks. IsRun (put_link back (last_or None (reverse ys)) (back (Some k))) None ks None) (sym (reverse-append xs ys)) here
          );
    }

-- a key comes to a ring's end
pub ring-push : (next back : Option ℕ → Option ℕ) (keys : List ℕ) (n : ℕ) → IsDistinct keys → IsAbsent (Some n) keys → IsRing next back keys → IsRing (put_link (put_link next (Some n) None) (back None) (Some n)) (put_link (put_link back (Some n) (back None)) None (Some n)) (keys ++ n ∷ [])
ring-push next back keys n distinct absent ring =
    let end : back None ≡ last_or None keys = run-first back None (reverse keys) None ring.backward ∙ first_or-reverse None keys in
    let all : keys ≡ keys ++ [] = sym (append-nil keys) in
    let last : next (last_or None keys) ≡ None = run-last next None keys None ring.onward in
    let there = run-add next None keys n [] None (subst IsDistinct all distinct) tt (subst (IsAbsent (Some n)) all absent) (λ e. absurd (cc)) (subst (λ ks. IsRun next None ks None) all ring.onward) in
    let here = run-add back None [] n (reverse keys) None (distinct-reverse keys distinct) tt (absent-reverse (Some n) keys absent) (λ e. absurd (cc)) ring.backward in
    record {
      onward = subst (λ p. IsRun (put_link (put_link next (Some n) None) p (Some n)) None (keys ++ n ∷ []) None) (sym end) (
          subst (λ p. IsRun (put_link (put_link next (Some n) p) (last_or None keys) (Some n)) None (keys ++ n ∷ []) None) last there
          );
      backward = subst (λ ks. IsRun (put_link (put_link back (Some n) (back None)) None (Some n)) None ks None) (sym (reverse-append keys (n ∷ []))) here;
    }

-- links that are alike but for one key that isn't there
pub ring-elsewhere : (next next' back back' : Option ℕ → Option ℕ) (k : ℕ) (keys : List ℕ) → ((r : Option ℕ) → r ≢ Some k → next' r ≡ next r) → ((r : Option ℕ) → r ≢ Some k → back' r ≡ back r) → IsAbsent (Some k) keys → IsRing next back keys → IsRing next' back' keys
ring-elsewhere next next' back back' k keys alike alike' absent ring = record {
  onward = run-elsewhere next next' (Some k) None keys None alike (λ e. absurd (cc)) absent ring.onward;
  backward = run-elsewhere back back' (Some k) None (reverse keys) None alike' (λ e. absurd (cc)) (absent-reverse (Some k) keys absent) ring.backward;
}

-- what is followed is the run
pub followed-run : (fuel : ℕ) (next : Option ℕ → Option ℕ) (p : Option ℕ) (keys : List ℕ) → length keys ≤ fuel → IsRun next p keys None → followed fuel next (next p) ≡ keys
followed-run zero next p [] fuel run = refl
followed-run zero next p (k ∷ keys) fuel run = absurd (omega (arith, fuel))
followed-run (suc n) next p [] fuel run = ap (followed (suc n) next) run
followed-run (suc n) next p (k ∷ keys) fuel run =
    ap (followed (suc n) next) run.0 ∙ ap (λ ks. k ∷ ks) (followed-run n next (Some k) keys (omega (arith, fuel)) run.1)

pub run-alike : (next other : Option ℕ → Option ℕ) (p : Option ℕ) (keys : List ℕ) (q : Option ℕ) → ((r : Option ℕ) → other r ≡ next r) → IsRun next p keys q → IsRun other p keys q
run-alike next other p [] q alike run = alike p ∙ run
run-alike next other p (k ∷ keys) q alike run = (alike p ∙ run.0, run-alike next other (Some k) keys q alike run.1)

pub ring-alike : (next next' back back' : Option ℕ → Option ℕ) (keys : List ℕ) → ((r : Option ℕ) → next' r ≡ next r) → ((r : Option ℕ) → back' r ≡ back r) → IsRing next back keys → IsRing next' back' keys
ring-alike next next' back back' keys alike alike' ring = record {
  onward = run-alike next next' None keys None alike ring.onward;
  backward = run-alike back back' None (reverse keys) None alike' ring.backward;
}

pub put-alike : (next other : Option ℕ → Option ℕ) (at to r : Option ℕ) → other r ≡ next r → put_link other at to r ≡ put_link next at to r
put-alike next other at to r alike = ap (λ x. cond (is_same r at) to x) alike

-- where a ring's links lead first, and back from its end
pub ring-first : (next back : Option ℕ → Option ℕ) (keys : List ℕ) → IsRing next back keys → next None ≡ first_or keys None
ring-first next back keys ring = run-first next None keys None ring.onward

pub ring-last : (next back : Option ℕ → Option ℕ) (keys : List ℕ) → IsRing next back keys → back None ≡ last_or None keys
ring-last next back keys ring = run-first back None (reverse keys) None ring.backward ∙ first_or-reverse None keys

-- the neighbours of a key in a ring
pub ring-before : (next back : Option ℕ → Option ℕ) (xs : List ℕ) (k : ℕ) (ys : List ℕ) → IsRing next back (xs ++ k ∷ ys) → back (Some k) ≡ last_or None xs
ring-before next back xs k ys ring =
    run-next back None (reverse ys) k (reverse xs) None (subst (λ ks. IsRun back None ks None) (reverse-middle xs k ys) ring.backward) ∙ first_or-reverse None xs

pub ring-after : (next back : Option ℕ → Option ℕ) (xs : List ℕ) (k : ℕ) (ys : List ℕ) → IsRing next back (xs ++ k ∷ ys) → next (Some k) ≡ first_or ys None
ring-after next back xs k ys ring = run-next next None xs k ys None ring.onward
