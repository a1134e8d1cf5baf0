-- How a count changes with the test at one number, and with an entry that leaves the line.
use Rattle.std.proofs.Common.{◌≡◌, ◌≢◌, ℕ, zero, suc, ◌+◌, ◌<◌, ◌≤◌, ◌==◌, refl, sym, ap, ◌∙◌, subst, ⊎_elim, Bool, true, false, cond, List, [], ◌∷◌, ◌++◌, Contains, arith}
use Rattle.std.specs.Prelude.{count_by}
use Rattle.std.specs.List.{range_with_len}
use Rattle.std.proofs.Math.Path.{fun_ext}
use Rattle.std.proofs.lemmas.Bool.{cases_eq, eqb-true, eqb-false, eq-eqb, ne_eqb}
use Rattle.std.proofs.lemmas.List.Sums.{sum_by-cons, sum_by_push}
use Rattle.meet_tickets.specs.declared.lines.Entry.{Entry}
use Rattle.meet_tickets.specs.ByLists.{without}
use Rattle.meet_tickets.proofs.Lists.Members.{Contains-nil, Contains-cases, IsDistinct, without_head, without_tail}

-- one where a test passes, else none
abbrev pub one : Bool → ℕ
one b = cond b 1 0

-- how often a number stands in a list
abbrev pub times : ℕ → List ℕ → ℕ
times k xs = count_by (λ x. x == k) xs

-- one element more in front
pub count-cons : {X : Type 0} (p : X → Bool) (x : X) (xs : List X) → count_by p (x ∷ xs) ≡ one (p x) + count_by p xs
count-cons p x xs = sum_by-cons (λ y. one (p y)) x xs

-- one element more at the end
pub count-push : {X : Type 0} (p : X → Bool) (xs : List X) (x : X) → count_by p (xs ++ x ∷ []) ≡ count_by p xs + one (p x)
count-push p xs x = sum_by_push (λ y. one (p y)) xs x

-- where none passes none is counted
pub count-none : {X : Type 0} (xs : List X) → count_by (λ x. false) xs ≡ 0
count-none [] = refl
count-none (x ∷ xs) =
    let cons : count_by (λ y. false) (x ∷ xs) ≡ 0 + count_by (λ y. false) xs = count-cons (λ y. false) x xs in
    let rest = count-none xs in
    omega (arith, cons, rest)

-- tests that pass the same elements count the same
pub count-same : {X : Type 0} (f g : X → Bool) → ((x : X) → f x ≡ g x) → (xs : List X) → count_by f xs ≡ count_by g xs
count-same f g same xs = ap (λ p. count_by p xs) (fun_ext same)

-- one more element in front, where two tests differ at most at one number: `here` where it is that number
changed_first : (here f g fx gx : Bool) (fs gs n fs' gs' n' : ℕ) → fs' ≡ one fx + fs → gs' ≡ one gx + gs → n' ≡ one here + n →
    (here ≡ true → (fx ≡ f) × (gx ≡ g)) → (here ≡ false → fx ≡ gx) →
    fs + cond g n 0 ≡ gs + cond f n 0 → fs' + cond g n' 0 ≡ gs' + cond f n' 0
changed_first false f g fx gx fs gs n fs' gs' n' ff gg nn at away rest =
    let more : ◌≡◌ {A = ℕ} (one fx) (one gx) = ap one (away refl) in
    let same : n' ≡ n = nn ∙ omega arith in
    let left : ◌≡◌ {A = ℕ} (cond g n' 0) (cond g n 0) = ap (λ m. cond g m 0) same in
    let right : ◌≡◌ {A = ℕ} (cond f n' 0) (cond f n 0) = ap (λ m. cond f m 0) same in
    omega (arith, ff, gg, more, left, right, rest)
changed_first true true true fx gx fs gs n fs' gs' n' ff gg nn at away rest =
    let left : ◌≡◌ {A = ℕ} (one fx) 1 = ap one (at refl).0 in
    let right : ◌≡◌ {A = ℕ} (one gx) 1 = ap one (at refl).1 in
    omega (arith, ff, gg, nn, left, right, rest)
changed_first true true false fx gx fs gs n fs' gs' n' ff gg nn at away rest =
    let left : ◌≡◌ {A = ℕ} (one fx) 1 = ap one (at refl).0 in
    let right : ◌≡◌ {A = ℕ} (one gx) 0 = ap one (at refl).1 in
    omega (arith, ff, gg, nn, left, right, rest)
changed_first true false true fx gx fs gs n fs' gs' n' ff gg nn at away rest =
    let left : ◌≡◌ {A = ℕ} (one fx) 0 = ap one (at refl).0 in
    let right : ◌≡◌ {A = ℕ} (one gx) 1 = ap one (at refl).1 in
    omega (arith, ff, gg, nn, left, right, rest)
changed_first true false false fx gx fs gs n fs' gs' n' ff gg nn at away rest =
    let left : ◌≡◌ {A = ℕ} (one fx) 0 = ap one (at refl).0 in
    let right : ◌≡◌ {A = ℕ} (one gx) 0 = ap one (at refl).1 in
    omega (arith, ff, gg, nn, left, right, rest)

-- nothing counts as none
cond_none : (b : Bool) → ◌≡◌ {A = ℕ} (cond b 0 0) 0
cond_none true = refl
cond_none false = refl

cond_most : (b : Bool) (n : ℕ) → cond b n 0 ≤ n
cond_most true n = omega arith
cond_most false n = omega arith

module _ (f g : ℕ → Bool) (k : ℕ) (same : (x : ℕ) → x ≢ k → f x ≡ g x) where
  -- two tests that differ at most at one number
  count_changed : (xs : List ℕ) → count_by f xs + cond (g k) (times k xs) 0 ≡ count_by g xs + cond (f k) (times k xs) 0
  count_changed [] = ap (λ n. 0 + n) (cond_none (g k) ∙ sym (cond_none (f k)))
  count_changed (x ∷ xs) =
      changed_first (x == k) (f k) (g k) (f x) (g x) (count_by f xs) (count_by g xs) (times k xs)
      (count_by f (x ∷ xs)) (count_by g (x ∷ xs)) (times k (x ∷ xs))
      (count-cons f x xs) (count-cons g x xs) (count-cons (λ y. y == k) x xs)
      (λ is. (ap f (eqb-true x k is), ap g (eqb-true x k is))) (λ is. same x (eqb-false x k is)) (count_changed xs)

  -- where the number isn't there
  pub count_apart : (xs : List ℕ) → times k xs ≡ 0 → count_by f xs ≡ count_by g xs
  count_apart xs none =
      let changed = count_changed xs in
      let left : ◌≡◌ {A = ℕ} (cond (g k) (times k xs) 0) 0 = ap (λ n. cond (g k) n 0) none ∙ cond_none (g k) in
      let right : ◌≡◌ {A = ℕ} (cond (f k) (times k xs) 0) 0 = ap (λ n. cond (f k) n 0) none ∙ cond_none (f k) in
      omega (arith, changed, left, right)

  -- where the number is there once
  pub count_once : (xs : List ℕ) → times k xs ≡ 1 → count_by f xs + one (g k) ≡ count_by g xs + one (f k)
  count_once xs once = subst (λ n. count_by f xs + cond (g k) n 0 ≡ count_by g xs + cond (f k) n 0) once (count_changed xs)

  -- where the number is there at most once
  pub count_more : (xs : List ℕ) → times k xs ≤ 1 → count_by f xs ≤ count_by g xs + 1
  count_more xs most =
      let changed = count_changed xs in
      let few : cond (f k) (times k xs) 0 ≤ times k xs = cond_most (f k) (times k xs) in
      omega (arith, changed, few, most)

-- a number below a range isn't in it
times_below : (k a n : ℕ) → k < a → times k (range_with_len a n) ≡ 0
times_below k a zero less = refl
times_below k a (suc n) less =
    let cons = count-cons (λ x. x == k) a (range_with_len (a + 1) n) in
    let here : ◌≡◌ {A = ℕ} (one (a == k)) 0 = ap one (ne_eqb a k (λ e. omega arith)) in
    let rest = times_below k (a + 1) n (omega arith) in
    omega (arith, cons, here, rest)

-- a number of a range is in it once
pub times_range : (k a n : ℕ) → a ≤ k → k < a + n → times k (range_with_len a n) ≡ 1
times_range k a zero from to = absurd (omega arith)
times_range k a (suc n) from to = ⊎_elim at (away (λ apart. times_range k (a + 1) n (omega arith) (omega arith))) (cases_eq a k)
  where
    cons : times k (range_with_len a (suc n)) ≡ one (a == k) + times k (range_with_len (a + 1) n)
    cons = count-cons (λ x. x == k) a (range_with_len (a + 1) n)

    at : a ≡ k → times k (range_with_len a (suc n)) ≡ 1
    at e =
        let here : ◌≡◌ {A = ℕ} (one (a == k)) 1 = ap one (eq-eqb a k e) in
        let rest : times k (range_with_len (a + 1) n) ≡ 0 = times_below k (a + 1) n (omega arith) in
        omega (arith, cons, here, rest)

    away : (a ≢ k → times k (range_with_len (a + 1) n) ≡ 1) → a ≢ k → times k (range_with_len a (suc n)) ≡ 1
    away later apart =
        let here : ◌≡◌ {A = ℕ} (one (a == k)) 0 = ap one (ne_eqb a k apart) in
        let rest = later apart in
        omega (arith, cons, here, rest)

-- no number is in a range twice
pub times_most : (k a n : ℕ) → times k (range_with_len a n) ≤ 1
times_most k a zero = omega arith
times_most k a (suc n) = ⊎_elim at (away (times_most k (a + 1) n)) (cases_eq a k)
  where
    cons : times k (range_with_len a (suc n)) ≡ one (a == k) + times k (range_with_len (a + 1) n)
    cons = count-cons (λ x. x == k) a (range_with_len (a + 1) n)

    at : a ≡ k → times k (range_with_len a (suc n)) ≤ 1
    at e =
        let here : ◌≡◌ {A = ℕ} (one (a == k)) 1 = ap one (eq-eqb a k e) in
        let rest : times k (range_with_len (a + 1) n) ≡ 0 = times_below k (a + 1) n (omega arith) in
        omega (arith, cons, here, rest)

    away : times k (range_with_len (a + 1) n) ≤ 1 → a ≢ k → times k (range_with_len a (suc n)) ≤ 1
    away later apart =
        let here : ◌≡◌ {A = ℕ} (one (a == k)) 0 = ap one (ne_eqb a k apart) in
        omega (arith, cons, here, later)

-- of a longer range no more is counted where none of the rest passes
pub count_longer : (p : ℕ → Bool) (a n m : ℕ) → n ≤ m → ((k : ℕ) → a + n ≤ k → p k ≡ false) → count_by p (range_with_len a m) ≡ count_by p (range_with_len a n)
count_longer p a zero zero long none = refl
count_longer p a zero (suc m) long none =
    let cons : count_by p (range_with_len a (suc m)) ≡ one (p a) + count_by p (range_with_len (a + 1) m) = count-cons p a (range_with_len (a + 1) m) in
    let here : ◌≡◌ {A = ℕ} (one (p a)) 0 = ap one (none a (omega arith)) in
    let rest : count_by p (range_with_len (a + 1) m) ≡ 0 = count_longer p (a + 1) zero m (omega arith) (λ k over. none k (omega arith)) in
    omega (arith, cons, here, rest)
count_longer p a (suc n) zero long none = absurd (omega arith)
count_longer p a (suc n) (suc m) long none =
    let longer : count_by p (range_with_len a (suc m)) ≡ one (p a) + count_by p (range_with_len (a + 1) m) = count-cons p a (range_with_len (a + 1) m) in
    let shorter : count_by p (range_with_len a (suc n)) ≡ one (p a) + count_by p (range_with_len (a + 1) n) = count-cons p a (range_with_len (a + 1) n) in
    let rest = count_longer p (a + 1) n m (omega arith) (λ k over. none k (omega arith)) in
    omega (arith, longer, shorter, rest)

module _ (p : Entry ℕ → Bool) where
  -- an entry that leaves the line is counted no more
  pub count_without : (line : List (Entry ℕ)) (e : Entry ℕ) → IsDistinct line → Contains line e → count_by p (without e.ticket line) + one (p e) ≡ count_by p line
  count_without [] e distinct there = absurd (Contains-nil e there)
  count_without (x ∷ line) e distinct there = ⊎_elim first (λ m. later m (count_without line e distinct.1 m)) (Contains-cases x line e there)
    where
      cons : count_by p (x ∷ line) ≡ one (p x) + count_by p line
      cons = count-cons p x line

      first : x ≡ e → count_by p (without e.ticket (x ∷ line)) + one (p e) ≡ count_by p (x ∷ line)
      first is = subst (λ y. count_by p (without y.ticket (x ∷ line)) + one (p y) ≡ count_by p (x ∷ line)) is
          (let left : ◌≡◌ {A = ℕ} (count_by p (without x.ticket (x ∷ line))) (count_by p line) = ap (count_by p) (without_head x line distinct.0) in omega (arith, left, cons))

      later : Contains line e → count_by p (without e.ticket line) + one (p e) ≡ count_by p line → count_by p (without e.ticket (x ∷ line)) + one (p e) ≡ count_by p (x ∷ line)
      later m rest =
          let left : ◌≡◌ {A = ℕ} (count_by p (without e.ticket (x ∷ line))) (count_by p (x ∷ without e.ticket line)) = ap (count_by p) (without_tail e.ticket x line (λ same. distinct.0 e m (sym same))) in
          let split : count_by p (x ∷ without e.ticket line) ≡ one (p x) + count_by p (without e.ticket line) = count-cons p x (without e.ticket line) in
          omega (arith, left, split, cons, rest)
