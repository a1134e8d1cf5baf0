-- Sums of seats, one record or one story more.
use Rattle.std.proofs.Common.{◌≡◌, ◌≢◌, ℕ, zero, suc, ◌+◌, ◌<◌, ◌≤◌, ◌==◌, refl, sym, ap, ◌∙◌, subst, ⊎_elim, arith, Bool, true, false, cond, ◌&&◌, ◌||◌, Option, Some, None, List, [], ◌∷◌, ◌++◌, length, map, count_by, add-zero, replicate}
use Rattle.std.specs.Prelude.{slice_get, slice_set}
use Rattle.std.specs.List.{list_any}
use Rattle.std.specs.Option.{option_map_or}
use Rattle.std.proofs.lemmas.Bool.{cases_eq, eq-eqb, ne_eqb}
use Rattle.std.proofs.lemmas.List.{length-set, length-replicate, map-append}
use Rattle.std.proofs.lemmas.List.Folds.{list_any-append}
use Rattle.std.proofs.lemmas.List.Sums.{fold-append, count_by-le-length}
use Rattle.meet_tickets.specs.declared.records.Record.{Record}
use Rattle.meet_tickets.specs.declared.records.Deed.{Deed}
use Rattle.meet_tickets.specs.BySeat.{is_request}
use Rattle.meet_tickets.specs.Limits.{most_seats}
use Rattle.meet_tickets.proofs.Lists.Changed.{one, count-push}
use Rattle.meet_sum.specs.declared.seats.SeatSum.{SeatSum}
use Rattle.meet_sum.specs.declared.stories.Asked.{Asked}
use Rattle.meet_sum.specs.declared.stories.Story.{Story}
use Rattle.meet_sum.specs.Seats.{greater, greatest, stay_at, seat_sum, HasSeats}
use Rattle.meet_sum.specs.Waits.{stay_told}

get-set-same : {X : Type 0} (xs : List X) (i : ℕ) (v : X) → i < length xs → slice_get (slice_set xs i v) i ≡ Some v
get-set-same [] i v within = absurd (omega arith)
get-set-same (x ∷ xs) zero v within = refl
get-set-same (x ∷ xs) (suc i) v within = get-set-same xs i v (omega arith)

get-set-other : {X : Type 0} (xs : List X) (i j : ℕ) (v : X) → j ≢ i → slice_get (slice_set xs i v) j ≡ slice_get xs j
get-set-other [] i j v n = refl
get-set-other (x ∷ xs) zero zero v n = absurd (n refl)
get-set-other (x ∷ xs) zero (suc j) v n = refl
get-set-other (x ∷ xs) (suc i) zero v n = refl
get-set-other (x ∷ xs) (suc i) (suc j) v n = get-set-other xs i j v (λ e. n (ap suc e))

-- one seat's sum changes
seats-put : (f g : ℕ → SeatSum) (sums new : List SeatSum) (i : ℕ) (v : SeatSum) → i < most_seats → HasSeats f sums → new ≡ slice_set sums i v → v ≡ g i → ((j : ℕ) → j ≢ i → f j ≡ g j) → HasSeats g new
seats-put f g sums new i v within has put own others = subst (HasSeats g) (sym put) (record {
  every = length-set sums i v ∙ has.every;
  each = λ j low. ⊎_elim
      (λ (e : j ≡ i). subst (λ k. slice_get (slice_set sums i v) k ≡ Some (g k)) (sym e) (let fits : i < length sums = omega (arith, has.every) in get-set-same sums i v fits ∙ ap (λ x. Some x) own))
      (λ (n : j ≢ i). get-set-other sums i j v n ∙ has.each j low ∙ ap (λ x. Some x) (others j n))
      (cases_eq j i);
})

-- what was read is the seat's sum
read-is : (f : ℕ → SeatSum) (sums : List SeatSum) (i : ℕ) (x : SeatSum) → i < most_seats → HasSeats f sums → slice_get sums i ≡ Some x → x ≡ f i
read-is f sums i x within has read = let same : Some x ≡ Some (f i) = sym read ∙ has.each i within in cc

any-push : {X : Type 0} (p : X → Bool) (xs : List X) (x : X) → list_any p (xs ++ x ∷ []) ≡ (list_any p xs || p x)
any-push p xs x = list_any-append p xs (x ∷ []) ∙ ap (λ b. list_any p xs || b) (or-false (p x))
  where
    or-false : (b : Bool) → (b || false) ≡ b
    or-false true = refl
    or-false false = refl

or-true : (b : Bool) → (b || true) ≡ true
or-true true = refl
or-true false = refl

or-none : (b : Bool) → (b || false) ≡ b
or-none true = refl
or-none false = refl

and-true : (b : Bool) → (b && true) ≡ b
and-true true = refl
and-true false = refl

and-false : (b : Bool) → (b && false) ≡ false
and-false true = refl
and-false false = refl

greater-none : (o : Option ℕ) → greater o None ≡ o
greater-none None = refl
greater-none (Some n) = refl

greatest-push : (xs : List (Option ℕ)) (x : Option ℕ) → greatest (xs ++ x ∷ []) ≡ greater (greatest xs) x
greatest-push xs x = fold-append greater None xs (x ∷ [])

module _ (before records : List (Record Deed)) (opened all : ℕ) (stories : List Story) where
  abbrev now : ℕ → SeatSum
  now = seat_sum before records opened all stories

  -- a record more that opens a base
  pub entered : (r : Record Deed) (sums new : List SeatSum) (old v : SeatSum) → r.seat < most_seats → HasSeats now sums → slice_get sums r.seat ≡ Some old → new ≡ slice_set sums r.seat v →
      v ≡ record old { present = true } → HasSeats (seat_sum (before ++ r ∷ []) records opened all stories) new
  entered r sums new old v within has read put is = seats-put now (seat_sum (before ++ r ∷ []) records opened all stories) sums new r.seat v within has put own others
    where
      there : (list_any (λ (q : Record Deed). q.seat == r.seat) (before ++ r ∷ []) || list_any (λ (q : Record Deed). q.seat == r.seat) records) ≡ true
      there = ap (λ b. b || list_any (λ (q : Record Deed). q.seat == r.seat) records)
          (any-push (λ (q : Record Deed). q.seat == r.seat) before r
          ∙ ap (λ b. list_any (λ (q : Record Deed). q.seat == r.seat) before || b) (eq-eqb r.seat r.seat refl)
          ∙ or-true (list_any (λ (q : Record Deed). q.seat == r.seat) before))

      own : v ≡ seat_sum (before ++ r ∷ []) records opened all stories r.seat
      own = is ∙ ap (λ (x : SeatSum). let y : SeatSum = record x { present = true } in y) (read-is now sums r.seat old within has read)
          ∙ (λ i. record (now r.seat) { present = sym there i })

      others : (j : ℕ) → j ≢ r.seat → now j ≡ seat_sum (before ++ r ∷ []) records opened all stories j
      others j n = λ i. record (now j) {
        present = sym (ap (λ b. b || list_any (λ (q : Record Deed). q.seat == j) records)
            (any-push (λ (q : Record Deed). q.seat == j) before r
            ∙ ap (λ b. list_any (λ (q : Record Deed). q.seat == j) before || b) (ne_eqb r.seat j (λ e. n (sym e)))
            ∙ or-none (list_any (λ (q : Record Deed). q.seat == j) before))) i;
      }

  -- a record more is counted
  pub counted : (r : Record Deed) (sums new : List SeatSum) (old v : SeatSum) → r.seat < most_seats → HasSeats now sums → slice_get sums r.seat ≡ Some old → new ≡ slice_set sums r.seat v →
      v ≡ record { present = true; records = old.records + 1; requests = old.requests + one (is_request r.deed); wait = old.wait } → HasSeats (seat_sum before (records ++ r ∷ []) opened all stories) new
  counted r sums new old v within has read put is = seats-put now (seat_sum before (records ++ r ∷ []) opened all stories) sums new r.seat v within has put own others
    where
      own : v ≡ seat_sum before (records ++ r ∷ []) opened all stories r.seat
      own = is ∙ ap (λ (x : SeatSum). let y : SeatSum = record { present = true; records = x.records + 1; requests = x.requests + one (is_request r.deed); wait = x.wait } in y) (read-is now sums r.seat old within has read)
          ∙ (λ i. record {
            present = sym (ap (λ b. list_any (λ (q : Record Deed). q.seat == r.seat) before || b)
                (any-push (λ (q : Record Deed). q.seat == r.seat) records r
                ∙ ap (λ b. list_any (λ (q : Record Deed). q.seat == r.seat) records || b) (eq-eqb r.seat r.seat refl)
                ∙ or-true (list_any (λ (q : Record Deed). q.seat == r.seat) records))
                ∙ or-true (list_any (λ (q : Record Deed). q.seat == r.seat) before)) i;
            records = sym (count-push (λ (q : Record Deed). q.seat == r.seat) records r ∙ ap (λ b. count_by (λ (q : Record Deed). q.seat == r.seat) records + one b) (eq-eqb r.seat r.seat refl)) i;
            requests = sym (count-push (λ (q : Record Deed). is_request q.deed && (q.seat == r.seat)) records r
                ∙ ap (λ b. count_by (λ (q : Record Deed). is_request q.deed && (q.seat == r.seat)) records + one b) (ap (λ b. is_request r.deed && b) (eq-eqb r.seat r.seat refl) ∙ and-true (is_request r.deed))) i;
            wait = (now r.seat).wait;
          })

      others : (j : ℕ) → j ≢ r.seat → now j ≡ seat_sum before (records ++ r ∷ []) opened all stories j
      others j n = λ i. record {
        present = sym (ap (λ b. list_any (λ (q : Record Deed). q.seat == j) before || b)
            (any-push (λ (q : Record Deed). q.seat == j) records r
            ∙ ap (λ b. list_any (λ (q : Record Deed). q.seat == j) records || b) (ne_eqb r.seat j (λ e. n (sym e)))
            ∙ or-none (list_any (λ (q : Record Deed). q.seat == j) records))) i;
        records = sym (count-push (λ (q : Record Deed). q.seat == j) records r ∙ ap (λ b. count_by (λ (q : Record Deed). q.seat == j) records + one b) (ne_eqb r.seat j (λ e. n (sym e))) ∙ add-zero (count_by (λ (q : Record Deed). q.seat == j) records)) i;
        requests = sym (count-push (λ (q : Record Deed). is_request q.deed && (q.seat == j)) records r
            ∙ ap (λ b. count_by (λ (q : Record Deed). is_request q.deed && (q.seat == j)) records + one b) (ap (λ b. is_request r.deed && b) (ne_eqb r.seat j (λ e. n (sym e))) ∙ and-false (is_request r.deed))
            ∙ add-zero (count_by (λ (q : Record Deed). is_request q.deed && (q.seat == j)) records)) i;
        wait = (now j).wait;
      }

  -- so far no seat has more records than there are
  pub few-records : (sums : List SeatSum) (i : ℕ) (x : SeatSum) → i < most_seats → HasSeats now sums → slice_get sums i ≡ Some x → (x.records ≤ length records) × (x.requests ≤ length records)
  few-records sums i x within has read =
      let is = read-is now sums i x within has read in
      let own : x.records ≡ count_by (λ (r : Record Deed). r.seat == i) records = ap (λ (y : SeatSum). y.records) is in
      let asks : x.requests ≡ count_by (λ (r : Record Deed). is_request r.deed && (r.seat == i)) records = ap (λ (y : SeatSum). y.requests) is in
      (omega (arith, own, count_by-le-length (λ (r : Record Deed). r.seat == i) records), omega (arith, asks, count_by-le-length (λ (r : Record Deed). is_request r.deed && (r.seat == i)) records))

  wait-push : (j : ℕ) (s : Story) → greatest (map (stay_at j opened all) (stories ++ s ∷ [])) ≡ greater (greatest (map (stay_at j opened all) stories)) (stay_at j opened all s)
  wait-push j s = ap greatest (map-append (stay_at j opened all) stories (s ∷ [])) ∙ greatest-push (map (stay_at j opened all) stories) (stay_at j opened all s)

  -- the story of a ticket more, whose request is of this seat
  pub noted : (s : Story) (r : Asked) (sums new : List SeatSum) (old v : SeatSum) → s.asked ≡ Some r → r.seat < most_seats → HasSeats now sums → slice_get sums r.seat ≡ Some old → new ≡ slice_set sums r.seat v →
      v ≡ record old { wait = greater old.wait (stay_told opened all s) } → HasSeats (seat_sum before records opened all (stories ++ s ∷ [])) new
  noted s r sums new old v asked within has read put is = seats-put now (seat_sum before records opened all (stories ++ s ∷ [])) sums new r.seat v within has put own others
    where
      at : (j : ℕ) → stay_at j opened all s ≡ cond (r.seat == j) (stay_told opened all s) None
      at j = ap (λ o. cond (option_map_or (λ q. q.seat == j) o false) (stay_told opened all s) None) asked

      own : v ≡ seat_sum before records opened all (stories ++ s ∷ []) r.seat
      own = is ∙ ap (λ (x : SeatSum). let y : SeatSum = record x { wait = greater x.wait (stay_told opened all s) } in y) (read-is now sums r.seat old within has read)
          ∙ (λ i. record (now r.seat) {
            wait = sym (wait-push r.seat s ∙ ap (greater (now r.seat).wait) (at r.seat ∙ ap (λ b. cond b (stay_told opened all s) None) (eq-eqb r.seat r.seat refl))) i;
          })

      others : (j : ℕ) → j ≢ r.seat → now j ≡ seat_sum before records opened all (stories ++ s ∷ []) j
      others j n = λ i. record (now j) {
        wait = sym (wait-push j s ∙ ap (greater (now j).wait) (at j ∙ ap (λ b. cond b (stay_told opened all s) None) (ne_eqb r.seat j (λ e. n (sym e)))) ∙ greater-none (now j).wait) i;
      }

  -- one that was never asked for
  pub unnoted : (s : Story) (sums : List SeatSum) → s.asked ≡ None → HasSeats now sums → HasSeats (seat_sum before records opened all (stories ++ s ∷ [])) sums
  unnoted s sums asked has = record {
    every = has.every;
    each = λ j low. has.each j low ∙ ap (λ (x : SeatSum). Some x) (λ i. record (now j) {
      wait = sym (wait-push j s ∙ ap (greater (now j).wait) (ap (λ o. cond (option_map_or (λ q. q.seat == j) o false) (stay_told opened all s) None) asked) ∙ greater-none (now j).wait) i;
    });
  }

-- of the same records and stories the same is told
pub seats-alike : (before before' records records' : List (Record Deed)) (opened all : ℕ) (stories : List Story) (sums : List SeatSum) → before ≡ before' → records ≡ records' → HasSeats (seat_sum before records opened all stories) sums → HasSeats (seat_sum before' records' opened all stories) sums
seats-alike before before' records records' opened all stories sums e f has =
    subst (λ b. HasSeats (seat_sum b records' opened all stories) sums) e (subst (λ r. HasSeats (seat_sum before r opened all stories) sums) f has)

replicate-get : {X : Type 0} (n : ℕ) (x : X) (i : ℕ) → i < n → slice_get (replicate n x) i ≡ Some x
replicate-get zero x i within = absurd (omega arith)
replicate-get (suc n) x zero within = refl
replicate-get (suc n) x (suc i) within = replicate-get n x i (omega arith)

alike-seats : (n : ℕ) (x : SeatSum) (sums : List SeatSum) → sums ≡ replicate n x → (length sums ≡ n) × ((i : ℕ) → i < n → slice_get sums i ≡ Some x)
alike-seats n x sums are = (ap length are ∙ length-replicate n x, λ i within. ap (λ xs. slice_get xs i) are ∙ replicate-get n x i within)

-- nobody did anything
pub seats-none : (opened all : ℕ) (x : SeatSum) (sums : List SeatSum) → sums ≡ replicate most_seats x → x ≡ record { present = false; records = 0; requests = 0; wait = None } → HasSeats (seat_sum [] [] opened all []) sums
seats-none opened all x sums are none = let alike = alike-seats most_seats x sums are in record {
  every = alike.0;
  each = λ i within. alike.1 i within ∙ ap (λ y. Some y) none;
}
