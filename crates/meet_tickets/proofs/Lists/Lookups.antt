-- What is found in a list by a number that no two elements share.
use Rattle.std.proofs.Common.{◌≡◌, ◌≢◌, ℕ, ◌==◌, refl, sym, ap, ◌∙◌, subst, ⊎_elim, Bool, true, false, cond, Some, None, List, [], ◌∷◌, ◌++◌, map, filter, find, Contains, AllPairs, arith}
use Rattle.std.proofs.lemmas.List.Kept.{AllPairs-cons}
use Rattle.std.proofs.lemmas.Bool.{cond_both, eqb-true, eqb-false, eq-eqb, ne_eqb}
use Rattle.std.proofs.lemmas.List.Elements.{All-contains, All-weaker, All-contains_itself, Contains-append_left, Contains-append_right, Contains-append_cases}
use Rattle.meet_tickets.proofs.Lists.Members.{Contains-unfiltered, Contains-first, Contains-rest, Contains-cases, Contains-nil}
use Rattle.meet_tickets.proofs.Line.Sides.{AllPairs-head, AllPairs-tail}

-- no two elements have one number
abbrev pub AreKeyed : {X : Type 0} → (X → ℕ) → List X → Type 0
AreKeyed key [] = Unit {0}
AreKeyed {X} key (x ∷ xs) = ((y : X) → Contains xs y → key y ≢ key x) × AreKeyed key xs

pub keyed_from : {X : Type 0} (key : X → ℕ) (xs : List X) → AllPairs (λ x y. key x ≢ key y) xs → AreKeyed key xs
keyed_from key [] pairs = tt
keyed_from key (x ∷ xs) pairs = (
  λ y m e. All-contains (λ z. key x ≢ key z) xs y (AllPairs-head (λ a b. key a ≢ key b) x xs pairs) m (sym e),
  keyed_from key xs (AllPairs-tail (λ a b. key a ≢ key b) x xs pairs),
)

-- an element is found by its number
pub find_keyed : {X : Type 0} (key : X → ℕ) (xs : List X) (x : X) → AreKeyed key xs → Contains xs x → find (λ y. key y == key x) xs ≡ Some x
find_keyed key [] x keyed m = absurd (Contains-nil x m)
find_keyed {X} key (y ∷ xs) x keyed m = ⊎_elim here (λ n. there n (find_keyed key xs x keyed.1 n)) (Contains-cases y xs x m)
  where
    here : y ≡ x → find (λ z. key z == key x) (y ∷ xs) ≡ Some x
    here e = ap (λ b. cond b (Some y) (find (λ z. key z == key x) xs)) (eq-eqb (key y) (key x) (ap key e)) ∙ ap (λ z. Some z) e

    there : Contains xs x → find (λ z. key z == key x) xs ≡ Some x → find (λ z. key z == key x) (y ∷ xs) ≡ Some x
    there n found = ap (λ b. cond b (Some y) (find (λ z. key z == key x) xs)) (ne_eqb (key y) (key x) (λ e. keyed.0 x n (sym e))) ∙ found

-- what is found has the number, and stands there
pub found_keyed : {X : Type 0} (key : X → ℕ) (xs : List X) (k : ℕ) (x : X) → find (λ y. key y == k) xs ≡ Some x → Contains xs x × (key x ≡ k)
found_keyed key [] k x is = absurd (cc)
found_keyed {X} key (y ∷ xs) k x is = by_test (key y == k) refl (found_keyed key xs k x) is
  where
    by_test : (b : Bool) → (key y == k) ≡ b → (find (λ z. key z == k) xs ≡ Some x → Contains xs x × (key x ≡ k)) → cond b (Some y) (find (λ z. key z == k) xs) ≡ Some x → Contains (y ∷ xs) x × (key x ≡ k)
    by_test true e later found = let same : y ≡ x = cc in (subst (Contains (y ∷ xs)) same (Contains-first y xs), ap key (sym same) ∙ eqb-true (key y) k e)
    by_test false e later found = let rest = later found in (Contains-rest y xs x rest.0, rest.1)

-- where nothing is found no element has the number
pub missing_keyed : {X : Type 0} (key : X → ℕ) (xs : List X) (k : ℕ) → find (λ y. key y == k) xs ≡ None → (x : X) → Contains xs x → key x ≢ k
missing_keyed key [] k is x m = absurd (Contains-nil x m)
missing_keyed {X} key (y ∷ xs) k is x m = by_test (key y == k) refl (missing_keyed key xs k) is
  where
    by_test : (b : Bool) → (key y == k) ≡ b → (find (λ z. key z == k) xs ≡ None → (z : X) → Contains xs z → key z ≢ k) → cond b (Some y) (find (λ z. key z == k) xs) ≡ None → key x ≢ k
    by_test true e later found = absurd (cc)
    by_test false e later found = ⊎_elim (λ s q. eqb-false (key y) k e (ap key s ∙ q)) (λ n. later found x n) (Contains-cases y xs x m)

-- elements of one number are one
pub keyed_same : {X : Type 0} (key : X → ℕ) (xs : List X) (x y : X) → AreKeyed key xs → Contains xs x → Contains xs y → key x ≡ key y → x ≡ y
keyed_same key [] x y keyed m n e = absurd (Contains-nil x m)
keyed_same {X} key (z ∷ xs) x y keyed m n e = ⊎_elim first (λ k. ⊎_elim (λ q. absurd (keyed.0 x k (e ∙ ap key (sym q)))) (λ l. keyed_same key xs x y keyed.1 k l e) (Contains-cases z xs y n)) (Contains-cases z xs x m)
  where
    first : z ≡ x → x ≡ y
    first s = ⊎_elim (λ q. sym s ∙ q) (λ k. absurd (keyed.0 y k (sym e ∙ ap key (sym s)))) (Contains-cases z xs y n)

-- a part of a mapped list comes from an element
pub Contains-mapped : {X Y : Type 0} (f : X → Y) (xs : List X) (y : Y) → Contains (map f xs) y → (x : X) × Contains xs x × (f x ≡ y)
Contains-mapped f [] y m = absurd (Contains-nil y m)
Contains-mapped {X} f (x ∷ xs) y m = ⊎_elim (λ e. (x, Contains-first x xs, e)) (λ n. (let r = Contains-mapped f xs y n in (r.0, Contains-rest x xs r.0 r.1, r.2))) (Contains-cases (f x) (map f xs) y m)

pub Contains-map : {X Y : Type 0} (f : X → Y) (xs : List X) (x : X) → Contains xs x → Contains (map f xs) (f x)
Contains-map f [] x m = absurd (Contains-nil x m)
Contains-map f (y ∷ xs) x m =
    ⊎_elim (λ e. subst (λ z. Contains (map f (y ∷ xs)) (f z)) e (Contains-first (f y) (map f xs))) (λ n. Contains-rest (f y) (map f xs) (f x) (Contains-map f xs x n)) (Contains-cases y xs x m)

-- numbers of a mapped list
pub keyed_map : {X : Type 0} (key : X → ℕ) (xs : List X) → AreKeyed (λ k. k) (map key xs) → AreKeyed key xs
keyed_map key [] keyed = tt
keyed_map key (x ∷ xs) keyed = (λ y m. keyed.0 (key y) (Contains-map key xs y m), keyed_map key xs keyed.1)

pub map_map : {X Y Z : Type 0} (g : Y → Z) (f : X → Y) (xs : List X) → map g (map f xs) ≡ map (λ x. g (f x)) xs
map_map g f [] = refl
map_map g f (x ∷ xs) = ap (λ ys. g (f x) ∷ ys) (map_map g f xs)

pub map_keyed : {X Y : Type 0} (key : Y → ℕ) (f : X → Y) (xs : List X) → AreKeyed (λ x. key (f x)) xs → AreKeyed key (map f xs)
map_keyed key f [] keyed = tt
map_keyed {X} {Y} key f (x ∷ xs) keyed = (
  λ y m e. (let r = Contains-mapped f xs y m in keyed.0 r.0 r.1 (ap key r.2 ∙ e)),
  map_keyed key f xs keyed.1,
)

-- and the other way round
pub keyed_pairs : {X : Type 0} (key : X → ℕ) (xs : List X) → AreKeyed key xs → AllPairs (λ x y. key x ≢ key y) xs
keyed_pairs key [] keyed = λ i j d less below. absurd (omega arith)
keyed_pairs key (x ∷ xs) keyed = AllPairs-cons (λ a b. key a ≢ key b) x xs (All-weaker (Contains xs) (λ y. key x ≢ key y) (λ y m e. keyed.0 y m (sym e)) xs (All-contains_itself xs)) (keyed_pairs key xs keyed.1)

-- what is left of a list
pub keyed_filter : {X : Type 0} (key : X → ℕ) (p : X → Bool) (xs : List X) → AreKeyed key xs → AreKeyed key (filter p xs)
keyed_filter key p [] keyed = tt
keyed_filter key p (x ∷ xs) keyed =
    let rest = keyed_filter key p xs keyed.1 in
    cond_both (p x) (x ∷ filter p xs) (filter p xs) (AreKeyed key) (λ y. ((λ z m. keyed.0 z (Contains-unfiltered p xs z m)), rest)) (λ n. rest)

-- two lists that share no number
pub keyed_append : {X : Type 0} (key : X → ℕ) (xs ys : List X) → AreKeyed key xs → AreKeyed key ys → ((x y : X) → Contains xs x → Contains ys y → key y ≢ key x) → AreKeyed key (xs ++ ys)
keyed_append key [] ys first second apart = second
keyed_append key (x ∷ xs) ys first second apart = (
  λ y m. ⊎_elim (λ n. first.0 y n) (λ n. apart x y (Contains-first x xs) n) (Contains-append_cases xs ys y m),
  keyed_append key xs ys first.1 second (λ z y m n. apart z y (Contains-rest x xs z m) n),
)

-- the parts of a list without a number twice
pub keyed_left : {X : Type 0} (key : X → ℕ) (xs ys : List X) → AreKeyed key (xs ++ ys) → AreKeyed key xs
keyed_left key [] ys keyed = tt
keyed_left key (x ∷ xs) ys keyed = (λ y m. keyed.0 y (Contains-append_left xs ys y m), keyed_left key xs ys keyed.1)

pub keyed_right : {X : Type 0} (key : X → ℕ) (xs ys : List X) → AreKeyed key (xs ++ ys) → AreKeyed key ys
keyed_right key [] ys keyed = keyed
keyed_right key (x ∷ xs) ys keyed = keyed_right key xs ys keyed.1

pub keyed_cross : {X : Type 0} (key : X → ℕ) (xs ys : List X) → AreKeyed key (xs ++ ys) → (x y : X) → Contains xs x → Contains ys y → key y ≢ key x
keyed_cross key [] ys keyed x y m n = absurd (Contains-nil x m)
keyed_cross key (z ∷ xs) ys keyed x y m n =
    ⊎_elim (λ e q. keyed.0 y (Contains-append_right xs ys y n) (q ∙ ap key (sym e))) (λ l. keyed_cross key xs ys keyed.1 x y l n) (Contains-cases z xs x m)
