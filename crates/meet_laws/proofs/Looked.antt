-- The tickets that are gone are those of the list, and a search finds whether one is in it.
use Rattle.std.proofs.Common.{◌≡◌, ◌≢◌, ℕ, ◌<◌, ◌≤◌, ◌==◌, refl, sym, ap, ◌∙◌, ⊎_elim, Bool, true, false, not, ◌&&◌, ◌||◌, cond, Option, Some, is_some, List, [], ◌∷◌, map, filter, find, length, get_or, Result, Ok, Err, arith}
use Rattle.std.specs.Prelude.{nat_lt, option_and_then, is_ok}
use Rattle.std.specs.List.Sorted.{IsPermutation, IsNonDecreasing, IsBinarySearchResult}
use Rattle.std.specs.Ordering.{nat_cmp}
use Rattle.std.specs.Result.{MatchResult}
use Rattle.std.proofs.Math.Path.{fun_ext}
use Rattle.std.proofs.lemmas.Bool.{cases_lt, eq-eqb, eqb-true, ne_eqb, false≢true}
use Rattle.std.proofs.lemmas.List.Elements.{All-from_get_or}
use Rattle.std.proofs.lemmas.List.Folds.{list_any_at, list_any_none}
use Rattle.std.proofs.lemmas.List.Sorted.{searched, list_any-IsPermutation}
use Rattle.meet_tickets.specs.declared.records.Record.{Record}
use Rattle.meet_tickets.specs.declared.records.Deed.{Deed}
use Rattle.meet_tickets.specs.Fates.{withdrawn_by, withdrawal_of, was_cut, interrupts}
use Rattle.meet_laws.specs.Erasing.{is_gone, is_left, erase}
use Rattle.meet_laws.specs.Gone.{ends_early, gone_tickets, is_among, stays, staying_among}

-- what a search found
found_among : (xs : List ℕ) (x : ℕ) (r : Result ℕ ℕ) → MatchResult r (λ i. (i < length xs) × (get_or xs i 0 ≡ x)) (λ i. (i ≤ length xs) × ((k : ℕ) → k < i → get_or xs k 0 < x) × ((k : ℕ) → i ≤ k → k < length xs → x < get_or xs k 0)) → is_ok r ≡ is_among xs x
found_among xs x (Ok i) m = sym (list_any_at (λ u. u == x) xs i 0 m.0 (eq-eqb (get_or xs i 0) x m.1))
found_among xs x (Err i) m = sym (list_any_none (λ u. u == x) xs (All-from_get_or (λ u. (u == x) ≡ false) xs 0 (λ k below. ne_eqb (get_or xs k 0) x (other k below))))
  where
    other : (k : ℕ) → k < length xs → get_or xs k 0 ≢ x
    other k below same = ⊎_elim (λ less. (let under = m.1 k less in omega (arith, under, same))) (λ more. (let over = m.2 k more below in omega (arith, over, same))) (cases_lt k i)

pub is_found : (xs : List ℕ) (x : ℕ) (r : Result ℕ ℕ) → IsBinarySearchResult (λ y. nat_cmp y x) xs r → IsNonDecreasing xs → is_ok r ≡ is_among xs x
is_found xs x r position rising = found_among xs x r (searched xs x r position (λ i j less below. rising i j 0 less below))

-- one record more in front
among_cons : (b : Bool) (r : Record Deed) (rest : List (Record Deed)) (t : ℕ) → is_among (map (λ (x : Record Deed). x.ticket) (cond b (r ∷ rest) rest)) t ≡ ((b && (r.ticket == t)) || is_among (map (λ (x : Record Deed). x.ticket) rest) t)
among_cons true r rest t = refl
among_cons false r rest t = refl

-- the cause of the first that has one
first_cause : (r : Record Deed) (e : Bool) (o : Option (Record Deed)) → is_some (option_and_then (λ (x : Record Deed). withdrawn_by x.deed) (cond (is_some (withdrawn_by r.deed) && e) (Some r) o)) ≡ ((is_some (withdrawn_by r.deed) && e) || is_some (option_and_then (λ (x : Record Deed). withdrawn_by x.deed) o))
first_cause r e o = by_test (is_some (withdrawn_by r.deed)) refl e
  where
    by_test : (w : Bool) → is_some (withdrawn_by r.deed) ≡ w → (e : Bool) → is_some (option_and_then (λ (x : Record Deed). withdrawn_by x.deed) (cond (w && e) (Some r) o)) ≡ ((w && e) || is_some (option_and_then (λ (x : Record Deed). withdrawn_by x.deed) o))
    by_test true is true = is
    by_test true is false = refl
    by_test false is e = refl

both_tests : (w i e zt zr c b : Bool) → (e ≡ true → zt ≡ zr) → (((i && zt && e) || c) || ((w && e) || b)) ≡ (((w || (i && zr)) && e) || (c || b))
both_tests w true true true true c b same = by_w w c b
  where
    by_w : (w c b : Bool) → (true || ((w && true) || b)) ≡ (((w || true) && true) || (c || b))
    by_w true c b = refl
    by_w false c b = refl
both_tests w true true true false c b same = absurd (false≢true (sym (same refl)))
both_tests w true true false true c b same = absurd (false≢true (same refl))
both_tests w true true false false c b same = by_w w c b
  where
    by_w : (w c b : Bool) → (c || ((w && true) || b)) ≡ (((w || false) && true) || (c || b))
    by_w true true b = refl
    by_w true false b = refl
    by_w false c b = refl
both_tests w true false zt zr c b same = by_w w zt zr c b
  where
    by_w : (w zt zr c b : Bool) → ((((zt && false)) || c) || ((w && false) || b)) ≡ (((w || zr) && false) || (c || b))
    by_w true true true c b = refl
    by_w true true false c b = refl
    by_w true false zr c b = refl
    by_w false true true c b = refl
    by_w false true false c b = refl
    by_w false false true c b = refl
    by_w false false false c b = refl
both_tests w false e zt zr c b same = by_w w e c b
  where
    by_w : (w e c b : Bool) → (c || ((w && e) || b)) ≡ (((w || false) && e) || (c || b))
    by_w true true true b = refl
    by_w true true false b = refl
    by_w true false c b = refl
    by_w false e c b = refl

-- a ticket is gone where it is in the list
pub gone_listed : (history : List (Record Deed)) (t : ℕ) → is_gone history t ≡ is_among (gone_tickets history) t
gone_listed [] t = refl
gone_listed (r ∷ history) t =
    ap (λ b. ((interrupts r.deed && nat_lt 0 t && (r.ticket == t)) || was_cut history t) || b) (first_cause r (r.ticket == t) (find (λ (x : Record Deed). is_some (withdrawn_by x.deed) && (x.ticket == t)) history))
    ∙ both_tests (is_some (withdrawn_by r.deed)) (interrupts r.deed) (r.ticket == t) (nat_lt 0 t) (nat_lt 0 r.ticket) (was_cut history t) (is_some (withdrawal_of history t)) (λ e. ap (nat_lt 0) (sym (eqb-true r.ticket t e)))
    ∙ ap (λ b. ((is_some (withdrawn_by r.deed) || (interrupts r.deed && nat_lt 0 r.ticket)) && (r.ticket == t)) || b) (gone_listed history t)
    ∙ sym (among_cons (ends_early r) r (filter ends_early history) t)

and_comm : (a b : Bool) → (a && b) ≡ (b && a)
and_comm true true = refl
and_comm true false = refl
and_comm false true = refl
and_comm false false = refl

-- what is left by the list is what is left
pub erased_by : (records : List (Record Deed)) (gone sorted : List ℕ) → gone ≡ gone_tickets records → IsPermutation gone sorted → staying_among sorted records ≡ erase records
erased_by records gone sorted is same = ap (λ p. filter p records) (fun_ext each)
  where
    each : (r : Record Deed) → (stays r.deed && not (is_among sorted r.ticket)) ≡ is_left (is_gone records) r
    each r =
        and_comm (stays r.deed) (not (is_among sorted r.ticket))
        ∙ ap (λ b. not b && stays r.deed) (sym (list_any-IsPermutation (λ u. u == r.ticket) gone sorted same) ∙ ap (λ l. is_among l r.ticket) is ∙ sym (gone_listed records r.ticket))
