-- The records of a history, seat by seat, beside the lists of receipts that the seats hold.
use Rattle.std.specs.Prelude.{◌≡◌, ◌≢◌, ℕ, ◌+◌, ◌-◌, ◌<◌, ◌≤◌, ◌==◌, Bool, Some, List, [], ◌∷◌, length, map, filter, take}
use Rattle.std.specs.Prelude.{get_or, slice_get, nat_lt}
use Rattle.meet_tickets.specs.declared.records.Record.{Record}
use Rattle.meet_book.specs.Received.{Received}

-- two lists differ first at this index: before it they are the same, at it they aren't (our choice)
abbrev pub DifferAt : {A : Type 0} → List A → List A → ℕ → Type 0
DifferAt xs ys index = (take index xs ≡ take index ys) × (slice_get xs index ≢ slice_get ys index)

-- the first are fewer than the others, or they are just these (our choice)
abbrev pub FewerOrThese : {A : Type 0} → List A → List A → Type 0
FewerOrThese some these = (length some ≤ length these) × (length some ≡ length these → some ≡ these)

module _ {D : Type 0} where
  -- the record is of this seat
  abbrev pub is_of : (seat : ℕ) → Record D → Bool
  is_of seat entry = entry.seat == seat

  -- the records of one seat, in order
  abbrev pub of_seat : (seat : ℕ) → List (Record D) → List (Record D)
  of_seat seat records = filter (is_of seat) records

  -- the receipt is for a record that wasn't folded away, where so many were
  abbrev pub is_since : (gone : ℕ) → Received D → Bool
  is_since gone receipt = nat_lt gone receipt.place

  -- the receipts of a list, without those for records that were folded away
  abbrev pub since : (gone : ℕ) → List (Received D) → List (Received D)
  since gone list = filter (is_since gone) list

  -- the records of a list's receipts, without those that were folded away
  abbrev pub entries_since : (gone : ℕ) → List (Received D) → List (Record D)
  entries_since gone list = map (λ receipt. receipt.entry) (since gone list)

  -- the receipts for these records, each with its record's number; the first `gone` records were folded away
  abbrev pub numbered : (gone : ℕ) → List (Record D) → List (Received D)
  numbered gone [] = []
  numbered gone (entry ∷ records) = record { place = gone + 1; entry = entry } ∷ numbered (gone + 1) records

  -- the receipt is for a record of this seat
  abbrev pub is_own : (seat : ℕ) → Received D → Bool
  is_own seat receipt = is_of seat receipt.entry

  -- the receipts for one seat's records, in order
  abbrev pub own_of : (gone : ℕ) → List (Record D) → (seat : ℕ) → List (Received D)
  own_of gone records seat = filter (is_own seat) (numbered gone records)

  -- a seat's list; a seat that has none holds no receipts
  abbrev pub list_of : List (List (Received D)) → (seat : ℕ) → List (Received D)
  list_of lists seat = get_or lists seat []

  -- a seat's receipts are those for its records, in order, each with its record's number
  abbrev pub IsListed : (gone : ℕ) → List (Record D) → List (List (Received D)) → (seat : ℕ) → Type 0
  IsListed gone records lists seat = own_of gone records seat ≡ since gone (list_of lists seat)

  -- each seat's receipts are those for its records, in order, each with its record's number; so there are no others
  -- (our choice)
  abbrev pub AreListed : (gone : ℕ) → List (Record D) → List (List (Received D)) → Type 0
  AreListed gone records lists = (seat : ℕ) → IsListed gone records lists seat

  -- the least seat whose receipts aren't those for its records, and the first index at which they differ (our choice)
  pub record FirstDiffer (gone : ℕ) (records : List (Record D)) (lists : List (List (Received D))) (seat index : ℕ)
      : Type 0 where
    pub least : (other : ℕ) → other < seat → IsListed gone records lists other
    pub differ : DifferAt (own_of gone records seat) (since gone (list_of lists seat)) index

  -- the receipt's record stands at its number; the first `gone` records were folded away
  abbrev pub StandsIn : (gone : ℕ) → List (Record D) → Received D → Type 0
  StandsIn gone records receipt = (gone < receipt.place)
      × (slice_get records (receipt.place - gone - 1) ≡ Some receipt.entry)

  -- the record of the one receipt stands before that of the other
  abbrev pub StandsBefore : List (Record D) → (one other : Received D) → Type 0
  StandsBefore records one other = (i j : ℕ) × (i < j) × (slice_get records i ≡ Some one.entry)
      × (slice_get records j ≡ Some other.entry)
