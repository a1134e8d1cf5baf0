-- Where the records of receipts stand.
use Rattle.std.proofs.Common.{◌≡◌, ℕ, zero, suc, ◌+◌, ◌-◌, ◌<◌, ◌≤◌, List, [], ◌∷◌, Bool, true, false, Some, sym, ap, ◌∙◌, arith, cond}
use Rattle.std.specs.Prelude.{slice_get, filter}
use Rattle.std.proofs.lemmas.Bool.{lt-ltb}
use Rattle.meet_tickets.specs.declared.records.Record.{Record}
use Rattle.meet_book.specs.Listed.{is_since, is_own, since, numbered, own_of, list_of, AreListed, StandsIn, StandsBefore}
use Rattle.meet_book.specs.Received.{Received}

-- what passes is there among those that pass
there_in : {A : Type 0} (p : A → Bool) (xs : List A) (k : ℕ) (x : A) → slice_get xs k ≡ Some x → p x ≡ true → (j : ℕ) × (slice_get (filter p xs) j ≡ Some x)
there_in p [] k x is hit = absurd (cc)
there_in p (y ∷ xs) zero x is hit =
    let same : y ≡ x = cc in
    let hit' : p y ≡ true = ap p same ∙ hit in
    (0, (λ i. slice_get (cond (hit' i) (y ∷ filter p xs) (filter p xs)) 0) ∙ is)
there_in p (y ∷ xs) (suc k) x is hit = later (p y) (there_in p xs k x is hit)
  where
    later : (b : Bool) → (j : ℕ) × (slice_get (filter p xs) j ≡ Some x) → (j : ℕ) × (slice_get (cond b (y ∷ filter p xs) (filter p xs)) j ≡ Some x)
    later true (j, at) = (suc j, at)
    later false (j, at) = (j, at)

-- and was there before
there_from : {A : Type 0} (p : A → Bool) (xs : List A) (j : ℕ) (x : A) → slice_get (filter p xs) j ≡ Some x → (k : ℕ) × (slice_get xs k ≡ Some x)
there_from p [] j x is = absurd (cc)
there_from p (y ∷ xs) j x is = earlier (p y) j (λ i. there_from p xs i x) is
  where
    earlier : (b : Bool) (j : ℕ) → ((i : ℕ) → slice_get (filter p xs) i ≡ Some x → (k : ℕ) × (slice_get xs k ≡ Some x)) → slice_get (cond b (y ∷ filter p xs) (filter p xs)) j ≡ Some x → (k : ℕ) × (slice_get (y ∷ xs) k ≡ Some x)
    earlier true zero from is = (0, is)
    earlier true (suc j) from is = let t = from j is in (suc t.0, t.1)
    earlier false j from is = let t = from j is in (suc t.0, t.1)

-- a receipt for one of these records has its number, and is for that record
numbered_is : {D : Type 0} (gone : ℕ) (records : List (Record D)) (k : ℕ) (receipt : Received D) → slice_get (numbered gone records) k ≡ Some receipt → (receipt.place ≡ gone + k + 1) × (slice_get records k ≡ Some receipt.entry)
numbered_is gone [] k receipt is = absurd (cc)
numbered_is gone (r ∷ records) zero receipt is = let same : record { place = gone + 1; entry = r } ≡ receipt = cc in let at : receipt.place ≡ gone + 1 = ap (λ t. t.place) (sym same) in (omega (arith, at), ap (λ t. Some t.entry) same)
numbered_is gone (r ∷ records) (suc k) receipt is = let t = numbered_is (gone + 1) records k receipt is in let at = t.0 in (omega (arith, at), t.1)

-- each receipt for a record that wasn't folded away tells where that stands
pub listed_stand : {D : Type 0} (gone : ℕ) (records : List (Record D)) (lists : List (List (Received D))) → AreListed gone records lists → (seat k : ℕ) (receipt : Received D) → slice_get (list_of lists seat) k ≡ Some receipt → gone < receipt.place → StandsIn gone records receipt
listed_stand gone records lists listed seat k receipt is later =
    let here = there_in (is_since gone) (list_of lists seat) k receipt is (lt-ltb _ _ later) in
    let own : slice_get (own_of gone records seat) here.0 ≡ Some receipt = ap (λ l. slice_get l here.0) (listed seat) ∙ here.1 in
    let of_all = there_from (is_own seat) (numbered gone records) here.0 receipt own in
    let at = numbered_is gone records of_all.0 receipt of_all.1 in
    let n : receipt.place - gone - 1 ≡ of_all.0 = let p = at.0 in omega (arith, p) in
    (later, ap (slice_get records) n ∙ at.1)

-- what is numbered up to a moment stands before what is numbered above it
pub moment_orders : {D : Type 0} (gone : ℕ) (records : List (Record D)) (lists : List (List (Received D))) → AreListed gone records lists → (one other : Received D) (a b j k moment : ℕ)
    → slice_get (list_of lists a) j ≡ Some one → slice_get (list_of lists b) k ≡ Some other → gone < one.place → one.place ≤ moment → moment < other.place → StandsBefore records one other
moment_orders gone records lists listed one other a b j k moment is is' since low high =
    let first = listed_stand gone records lists listed a j one is since in
    let second = listed_stand gone records lists listed b k other is' (omega (arith, since, low, high)) in
    (one.place - gone - 1, other.place - gone - 1, omega (arith, since, low, high), first.1, second.1)
