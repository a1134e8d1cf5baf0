-- The steps of a comparison: a record more, a receipt more, a seat more.
use Rattle.std.proofs.Common.{◌≡◌, ◌≢◌, ℕ, zero, suc, ◌+◌, ◌<◌, ◌≤◌, List, [], ◌∷◌, ◌++◌, length, take, drop, get_or, Bool, true, false, Option, None, refl, sym, ap, ◌∙◌, subst, arith, cond, length-append, ◌==◌, MatchOption}
use Rattle.std.specs.Prelude.{slice_get, filter, map, nat_lt}
use Rattle.std.proofs.lemmas.Bool.{eq-eqb, lt-ltb, le-ltb}
use Rattle.std.proofs.lemmas.Bool.Decides.{nat_tests}
use Rattle.std.proofs.lemmas.List.{take-take, take-append-drop, drop_more, append-nil, nil_from_length, length-map}
use Rattle.std.proofs.lemmas.List.Elements.{filter_more, filter-append}
use Rattle.std.proofs.Math.ListN.{get_or-eq_default}
use Rattle.meet_tickets.specs.declared.records.Record.{Record}
use Rattle.meet_book.specs.Listed.{is_of, of_seat, is_since, since, numbered, is_own, own_of, IsListed, DifferAt, FewerOrThese}
use Rattle.meet_book.specs.Received.{Received}

apart : (a b : ℕ) → a ≢ b → (a == b) ≡ false
apart a b h = grind (arith, nat_tests)

-- fewer than some, hence than these and more
fewer_more : {A : Type 0} (some these more : List A) → FewerOrThese some these → FewerOrThese some (these ++ more)
fewer_more some these more fewer =
    let n = length-append these more in
    let few = fewer.0 in (
      omega arith,
      λ same.
          let none : more ≡ [] = nil_from_length more (omega arith) in
          fewer.1 (omega arith) ∙ sym (append-nil these) ∙ ap (λ l. these ++ l) (sym none),
    )

-- one more of both
fewer_last : {A : Type 0} (some these : List A) (one : A) → FewerOrThese some these → FewerOrThese (some ++ one ∷ []) (these ++ one ∷ [])
fewer_last some these one fewer =
    let n = length-append some (one ∷ []) in
    let m = length-append these (one ∷ []) in
    let few = fewer.0 in
    (omega arith, λ same. ap (λ l. l ++ one ∷ []) (fewer.1 (omega arith)))

-- a filter's part up to a place is what its part up to a later one begins with
filter_later : {A : Type 0} (p : A → Bool) (xs : List A) (n m : ℕ) → n ≤ m → filter p (take m xs) ≡ filter p (take n xs) ++ filter p (drop n (take m xs))
filter_later p xs n m le =
    ap (filter p) (sym (take-append-drop n (take m xs))) ∙ filter-append p (take n (take m xs)) (drop n (take m xs)) ∙ ap (λ l. filter p l ++ filter p (drop n (take m xs))) (take-take n m xs le)

pub fewer_all : {A : Type 0} (p : A → Bool) (some xs : List A) (n : ℕ) → FewerOrThese some (filter p (take n xs)) → FewerOrThese some (filter p xs)
fewer_all p some xs n fewer =
    subst (FewerOrThese some) (sym (filter-append p (take n xs) (drop n xs)) ∙ ap (filter p) (take-append-drop n xs)) (fewer_more some (filter p (take n xs)) (filter p (drop n xs)) fewer)

-- one element more, which passes or not
pub of_own : {A : Type 0} (p : A → Bool) (xs : List A) (i : ℕ) (r : A) → i < length xs → r ≡ get_or xs i r → p r ≡ true → filter p (take (i + 1) xs) ≡ filter p (take i xs) ++ r ∷ []
of_own p xs i r lt is own =
    let hit : p (get_or xs i r) ≡ true = ap p (sym is) ∙ own in
    filter_more p xs i r lt ∙ (λ j. filter p (take i xs) ++ cond (hit j) (sym is j ∷ []) [])

pub of_other : {A : Type 0} (p : A → Bool) (xs : List A) (i : ℕ) (r : A) → i < length xs → r ≡ get_or xs i r → p r ≡ false → filter p (take (i + 1) xs) ≡ filter p (take i xs)
of_other p xs i r lt is other =
    let miss : p (get_or xs i r) ≡ false = ap p (sym is) ∙ other in
    filter_more p xs i r lt ∙ (λ j. filter p (take i xs) ++ cond (miss j) (get_or xs i r ∷ []) []) ∙ append-nil (filter p (take i xs))

-- one that passes, and stands behind those looked at
pub of_next : {A : Type 0} (p : A → Bool) (xs : List A) (some : List A) (n i : ℕ) (r : A) → n ≤ i → i < length xs → r ≡ get_or xs i r → p r ≡ true → FewerOrThese some (filter p (take n xs)) → FewerOrThese (some ++ r ∷ []) (filter p (take (i + 1) xs))
of_next p xs some n i r le lt is own fewer =
    let so_far = subst (FewerOrThese some) (sym (filter_later p xs n i le)) (fewer_more some (filter p (take n xs)) (filter p (drop n (take i xs))) fewer) in
    subst (FewerOrThese (some ++ r ∷ [])) (sym (of_own p xs i r lt is own)) (fewer_last some (filter p (take i xs)) r so_far)

-- one that passes at the head of what is left, or one that doesn't
pub of_first : {A : Type 0} (p : A → Bool) (xs : List A) (i : ℕ) (r : A) → i < length xs → r ≡ get_or xs i r → p r ≡ true → filter p (drop i xs) ≡ r ∷ filter p (drop (i + 1) xs)
of_first p xs i r lt is hit =
    ap (filter p) (drop_more xs i r lt ∙ ap (λ x. x ∷ drop (i + 1) xs) (sym is)) ∙ (λ j. cond (hit j) (r ∷ filter p (drop (i + 1) xs)) (filter p (drop (i + 1) xs)))

pub of_passed : {A : Type 0} (p : A → Bool) (xs : List A) (i : ℕ) (r : A) → i < length xs → r ≡ get_or xs i r → p r ≡ false → filter p (drop i xs) ≡ filter p (drop (i + 1) xs)
of_passed p xs i r lt is miss =
    ap (filter p) (drop_more xs i r lt ∙ ap (λ x. x ∷ drop (i + 1) xs) (sym is)) ∙ (λ j. cond (miss j) (r ∷ filter p (drop (i + 1) xs)) (filter p (drop (i + 1) xs)))

-- what passes is what passes before this one, this one, and what passes behind it
pub of_here : {A : Type 0} (p : A → Bool) (xs : List A) (i : ℕ) (r : A) → i < length xs → r ≡ get_or xs i r → p r ≡ true → filter p xs ≡ filter p (take i xs) ++ r ∷ filter p (drop (i + 1) xs)
of_here p xs i r lt is own =
    ap (filter p) (sym (take-append-drop i xs)) ∙ filter-append p (take i xs) (drop i xs) ∙ ap (λ l. filter p (take i xs) ++ l) (of_first p xs i r lt is own)

-- whether a receipt is since
pub is_later : {D : Type 0} (gone : ℕ) (receipt : Received D) → gone < receipt.place → is_since gone receipt ≡ true
is_later gone receipt later = lt-ltb _ _ later

pub is_earlier : {D : Type 0} (gone : ℕ) (receipt : Received D) → receipt.place ≤ gone → is_since gone receipt ≡ false
is_earlier gone receipt earlier = le-ltb _ _ earlier

-- whether a receipt is a seat's own
pub is_own_of : {D : Type 0} (seat : ℕ) (receipt : Received D) → receipt.entry.seat ≡ seat → is_own seat receipt ≡ true
is_own_of seat receipt own = eq-eqb _ _ own

pub isn't_own_of : {D : Type 0} (seat : ℕ) (receipt : Received D) → receipt.entry.seat ≢ seat → is_own seat receipt ≡ false
isn't_own_of seat receipt other = apart _ _ other

-- the receipts for some records are as many, and each has its record and the number of that
pub numbered_many : {D : Type 0} (gone : ℕ) (records : List (Record D)) → length (numbered gone records) ≡ length records
numbered_many gone [] = refl
numbered_many gone (r ∷ records) = ap suc (numbered_many (gone + 1) records)

pub numbered_at : {D : Type 0} (gone : ℕ) (records : List (Record D)) (i : ℕ) (r : Record D) (receipt : Received D) → i < length records → r ≡ get_or records i r → r ≡ receipt.entry → receipt.place ≡ gone + i + 1 → receipt ≡ get_or (numbered gone records) i receipt
numbered_at gone [] i r receipt lt is same at = absurd (omega (arith, lt))
numbered_at gone (x ∷ records) zero r receipt lt is same at = let here : receipt.place ≡ gone + 1 = omega (arith, at) in λ j. record { place = here j; entry = (sym same ∙ is) j }
numbered_at gone (x ∷ records) (suc i) r receipt lt is same at = numbered_at (gone + 1) records i r receipt (omega (arith, lt)) is same (omega (arith, at))

-- a seat's receipts are for its records
pub own_entries : {D : Type 0} (gone : ℕ) (records : List (Record D)) (seat : ℕ) → map (λ receipt. receipt.entry) (own_of gone records seat) ≡ of_seat seat records
own_entries gone [] seat = refl
own_entries gone (r ∷ records) seat = one (is_of seat r) (own_entries (gone + 1) records seat)
  where
    one : (b : Bool) → map (λ receipt. receipt.entry) (own_of (gone + 1) records seat) ≡ of_seat seat records → map (λ receipt. receipt.entry) (cond b (record { place = gone + 1; entry = r } ∷ own_of (gone + 1) records seat) (own_of (gone + 1) records seat)) ≡ cond b (r ∷ of_seat seat records) (of_seat seat records)
    one true e = ap (λ l. r ∷ l) e
    one false e = e

pub own_many : {D : Type 0} (gone : ℕ) (records : List (Record D)) (seat : ℕ) → length (own_of gone records seat) ≡ length (of_seat seat records)
own_many gone records seat = sym (length-map (own_of gone records seat) (λ receipt. receipt.entry)) ∙ ap length (own_entries gone records seat)

pub own_none : {D : Type 0} (gone : ℕ) (records : List (Record D)) (seat : ℕ) → of_seat seat records ≡ [] → own_of gone records seat ≡ []
own_none gone records seat none = nil_from_length (own_of gone records seat) (own_many gone records seat ∙ ap length none)

-- behind what they begin with in common, lists differ where their rests differ at once
pub differ_behind : {A : Type 0} (prefix xs ys : List A) → slice_get xs 0 ≢ slice_get ys 0 → DifferAt (prefix ++ xs) (prefix ++ ys) (length prefix)
differ_behind [] xs ys h = (refl, h)
differ_behind (x ∷ prefix) xs ys h = let rest = differ_behind prefix xs ys h in (ap (λ l. x ∷ l) rest.0, rest.1)

-- the records of the seats below this number
abbrev pub below : {D : Type 0} → (number : ℕ) → List (Record D) → List (Record D)
below number records = filter (λ r. nat_lt r.seat number) records

pub below_none : {D : Type 0} (records : List (Record D)) → length (below 0 records) ≡ 0
below_none [] = refl
below_none (r ∷ records) = let none : nat_lt r.seat 0 ≡ false = le-ltb _ _ (omega arith) in ap length (λ j. cond (none j) (r ∷ below 0 records) (below 0 records)) ∙ below_none records

pub below_more : {D : Type 0} (number : ℕ) (records : List (Record D)) → length (below (number + 1) records) ≡ length (below number records) + length (of_seat number records)
below_more number [] = refl
below_more number (r ∷ records) = one (nat_lt r.seat (number + 1)) (nat_lt r.seat number) (r.seat == number) refl refl refl (below_more number records)
  where
    one : (b c d : Bool) → nat_lt r.seat (number + 1) ≡ b → nat_lt r.seat number ≡ c → (r.seat == number) ≡ d → length (below (number + 1) records) ≡ length (below number records) + length (of_seat number records) → length (cond b (r ∷ below (number + 1) records) (below (number + 1) records)) ≡ length (cond c (r ∷ below number records) (below number records)) + length (cond d (r ∷ of_seat number records) (of_seat number records))
    one true true false p q s h = omega arith
    one true false true p q s h = omega arith
    one false false false p q s h = h
    one true true true p q s h = absurd (grind (arith, nat_tests))
    one true false false p q s h = absurd (grind (arith, nat_tests))
    one false true d p q s h = absurd (grind (arith, nat_tests))
    one false false true p q s h = absurd (grind (arith, nat_tests))

-- records of these seats, and of one that isn't among them
pub below_and : {D : Type 0} (number seat : ℕ) (records : List (Record D)) → number ≤ seat → length (below number records) + length (of_seat seat records) ≤ length records
below_and number seat [] le = omega arith
below_and number seat (r ∷ records) le = one (nat_lt r.seat number) (r.seat == seat) refl refl (below_and number seat records le)
  where
    one : (b c : Bool) → nat_lt r.seat number ≡ b → (r.seat == seat) ≡ c → length (below number records) + length (of_seat seat records) ≤ length records → length (cond b (r ∷ below number records) (below number records)) + length (cond c (r ∷ of_seat seat records) (of_seat seat records)) ≤ suc (length records)
    one true false p q h = omega arith
    one false true p q h = omega arith
    one false false p q h = omega arith
    one true true p q h = absurd (grind (arith, nat_tests))

-- a seat without a list is listed where no record is its own
pub listed_past : {D : Type 0} (gone : ℕ) (records : List (Record D)) (lists : List (List (Received D))) (seat : ℕ) → length lists ≤ seat → of_seat seat records ≡ [] → IsListed gone records lists seat
listed_past gone records lists seat past none = own_none gone records seat none ∙ ap (since gone) (sym (get_or-eq_default lists [] past))

-- the least seat from this number that a record is of
abbrev pub IsLeast : {D : Type 0} → (from : ℕ) → List (Record D) → Option ℕ → Type 0
IsLeast from records least =
    MatchOption least ((seat : ℕ) → from ≤ seat → of_seat seat records ≡ [])
    (λ seat. (from ≤ seat) × (of_seat seat records ≢ []) × ((other : ℕ) → from ≤ other → other < seat → of_seat other records ≡ []))

-- a list with an element behind it isn't empty
pub not_empty : {A : Type 0} (xs : List A) (x : A) → xs ++ x ∷ [] ≢ []
not_empty xs x e = let n = length-append xs (x ∷ []) in let m = ap length e in absurd (omega arith)

-- a list that isn't empty has a first element
pub first_there : {A : Type 0} (xs : List A) → xs ≢ [] → slice_get xs 0 ≢ None
first_there [] some e = some refl
first_there (x ∷ xs) some e = cc
