-- What the first seats have, in their order.
use Rattle.std.proofs.Common.{◌≡◌, ◌≢◌, ℕ, zero, suc, ◌+◌, ◌<◌, ◌≤◌, ◌==◌, refl, sym, ap, ◌∙◌, subst, ⊎_elim, Bool, true, false, Option, Some, None, List, [], ◌∷◌, ◌++◌, map, Contains, AllPairs, arith}
use Rattle.std.specs.Prelude.{option_to_list}
use Rattle.std.specs.List.{range_with_len, filter_map}
use Rattle.std.proofs.lemmas.Bool.{eqb-true, eqb-false}
use Rattle.std.proofs.lemmas.List.Kept.{AllPairs-cons}
use Rattle.std.proofs.lemmas.List.FromFn.{map-range_with_len_more}
use Rattle.std.proofs.lemmas.List.Elements.{filter_map-append, All-weaker, All-contains_itself, Contains-append_left, Contains-append_right, Contains-append_cases}
use Rattle.meet_tickets.proofs.Lists.Members.{Contains-first, Contains-cases, Contains-nil}
use Rattle.meet_core.specs.Opened.{gathered}

alone : {X : Type 0} (o : Option X) → filter_map (λ y. y) (o ∷ []) ≡ option_to_list o
alone None = refl
alone (Some x) = refl

-- one seat more
pub gathered_more : {X : Type 0} (f : ℕ → Option X) (n : ℕ) → gathered f (n + 1) ≡ gathered f n ++ option_to_list (f n)
gathered_more f n =
    ap (filter_map (λ o. o)) (map-range_with_len_more f 0 n n (omega arith))
    ∙ filter_map-append (λ o. o) (map f (range_with_len 0 n)) (f n ∷ [])
    ∙ ap (λ xs. gathered f n ++ xs) (alone (f n))

gathered_suc : {X : Type 0} (f : ℕ → Option X) (n : ℕ) → gathered f (suc n) ≡ gathered f n ++ option_to_list (f n)
gathered_suc f n = ap (gathered f) (let more : suc n ≡ n + 1 = omega arith in more) ∙ gathered_more f n

-- and what it has put behind the others
pub gathered_one : {X : Type 0} (f : ℕ → Option X) (n : ℕ) (before after : List X) (o : Option X) → before ≡ gathered f n → o ≡ f n → after ≡ before ++ option_to_list o → after ≡ gathered f (n + 1)
gathered_one f n before after o was is more = more ∙ ap (λ xs. xs ++ option_to_list o) was ∙ ap (λ p. gathered f n ++ option_to_list p) is ∙ sym (gathered_more f n)

in_option : {X : Type 0} (o : Option X) (x : X) → Contains (option_to_list o) x → o ≡ Some x
in_option None x m = absurd (Contains-nil x m)
in_option (Some y) x m = ⊎_elim (λ e. ap Some e) (λ n. absurd (Contains-nil x n)) (Contains-cases y [] x m)

-- what a seat has is there
pub there_gathered : {X : Type 0} (f : ℕ → Option X) (n i : ℕ) (x : X) → i < n → f i ≡ Some x → Contains (gathered f n) x
there_gathered f zero i x below is = absurd (omega (arith, below))
there_gathered {X} f (suc n) i x below is = subst (λ xs. Contains xs x) (sym (gathered_suc f n)) (by_test (i == n) refl (there_gathered f n i x))
  where
    by_test : (b : Bool) → (i == n) ≡ b → (i < n → f i ≡ Some x → Contains (gathered f n) x) → Contains (gathered f n ++ option_to_list (f n)) x
    by_test true e earlier = Contains-append_right (gathered f n) (option_to_list (f n)) x (subst (λ o. Contains (option_to_list o) x) (sym is ∙ ap f (eqb-true i n e)) (Contains-first x []))
    by_test false e earlier = Contains-append_left (gathered f n) (option_to_list (f n)) x (earlier (let other : i ≢ n = eqb-false i n e in omega (arith, below, other)) is)

-- what is there some seat has
pub had_by : {X : Type 0} (f : ℕ → Option X) (n : ℕ) (x : X) → Contains (gathered f n) x → (i : ℕ) × (i < n) × (f i ≡ Some x)
had_by f zero x m = absurd (Contains-nil x m)
had_by f (suc n) x m =
    ⊎_elim
    (λ earlier. (let r = had_by f n x earlier in (r.0, omega (arith, r.1), r.2)))
    (λ last. (n, omega arith, in_option (f n) x last))
    (Contains-append_cases (gathered f n) (option_to_list (f n)) x (subst (λ xs. Contains xs x) (gathered_suc f n) m))

-- where each seat has what bears its own number, these numbers rise
module _ {X : Type 0} (key : X → ℕ) (f : ℕ → Option X) (own : (i : ℕ) (x : X) → f i ≡ Some x → key x ≡ i) where
  abbrev from : (a n : ℕ) → List X
  from a n = filter_map (λ o. o) (map f (range_with_len a n))

  step : (a n : ℕ) (o : Option X) → f a ≡ o → from a (suc n) ≡ option_to_list o ++ from (a + 1) n
  step a n None is = ap (λ o. filter_map (λ y. y) (o ∷ map f (range_with_len (a + 1) n))) is
  step a n (Some x) is = ap (λ o. filter_map (λ y. y) (o ∷ map f (range_with_len (a + 1) n))) is

  at_least : (n a : ℕ) (x : X) → Contains (from a n) x → a ≤ key x
  at_least zero a x m = absurd (Contains-nil x m)
  at_least (suc n) a x m = by_seat (f a) refl (at_least n (a + 1) x)
    where
      by_seat : (o : Option X) → f a ≡ o → (Contains (from (a + 1) n) x → a + 1 ≤ key x) → a ≤ key x
      by_seat None is later = let more = later (subst (λ xs. Contains xs x) (step a n None is) m) in omega (arith, more)
      by_seat (Some y) is later =
          ⊎_elim
          (λ e. (let at : key x ≡ a = ap key (sym e) ∙ own a y is in omega (arith, at)))
          (λ rest. (let more = later rest in omega (arith, more)))
          (Contains-cases y (from (a + 1) n) x (subst (λ xs. Contains xs x) (step a n (Some y) is) m))

  rising_from : (n a : ℕ) → AllPairs (λ x y. key x < key y) (from a n)
  rising_from zero a = λ i j d less below. absurd (omega arith)
  rising_from (suc n) a = by_seat (f a) refl (rising_from n (a + 1))
    where
      by_seat : (o : Option X) → f a ≡ o → AllPairs (λ x y. key x < key y) (from (a + 1) n) → AllPairs (λ x y. key x < key y) (from a (suc n))
      by_seat None is rest = subst (AllPairs (λ x y. key x < key y)) (sym (step a n None is)) rest
      by_seat (Some y) is rest =
          subst (AllPairs (λ x y. key x < key y)) (sym (step a n (Some y) is)) (AllPairs-cons (λ x z. key x < key z) y (from (a + 1) n)
          (All-weaker (Contains (from (a + 1) n)) (λ z. key y < key z) (λ z m. (let at : key y ≡ a = own a y is in let more = at_least n (a + 1) z m in omega (arith, at, more))) (from (a + 1) n) (All-contains_itself (from (a + 1) n)))
          rest)

  pub rising_gathered : (n : ℕ) → AllPairs (λ x y. key x < key y) (gathered f n)
  rising_gathered n = rising_from n 0
