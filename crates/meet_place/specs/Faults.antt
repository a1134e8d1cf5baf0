-- Why a place was not closed (our choice).
use Rattle.std.specs.Prelude.{◌≡◌, ℕ, ◌+◌, ◌<◌, ◌≤◌, List, [], length, map}
use Rattle.meet_tickets.specs.declared.refusals.Refusal.{Refusal}
use Rattle.meet_tickets.specs.declared.refusals.Refusal.TheVariants.{Memory as NoMemory, Differs as ListDiffers}
use Rattle.meet_tickets.specs.declared.refusals.Refusal.TheVariants.{SeatMissing as NotAllSeats}
use Rattle.meet_book.specs.Listed.{FirstDiffer}
use Rattle.meet_place.specs.Backs.{missing_of, list_of, AreOrdered, shares_in, folded_in}
use Rattle.meet_place.specs.declared.seats.Back.{Back}
use Rattle.meet_place.specs.declared.close.CloseFault.{CloseFault}
use Rattle.meet_place.specs.declared.close.CloseFault.TheVariants.{SeatMissing, Memory, Differs}

module _ {O G N C A D B : Type 0} where
  -- the refusal that a fault is
  abbrev pub why_of : CloseFault O G N C A D B → Refusal
  why_of (SeatMissing have made place seats) = NotAllSeats
  why_of (Memory place seats) = NoMemory
  why_of (Differs seat index book seats) = ListDiffers

  -- the numbers of the seats that are missing, in rising order
  abbrev pub missing_in : CloseFault O G N C A D B → List ℕ
  missing_in (SeatMissing have made place seats) = missing_of made seats.items
  missing_in fault = []

  -- this is why a place with so many seats isn't closed with these. Fewer seats than were made, or no memory: the place
  -- and the seats come back. A difference: the book comes back, with as many records as the seats' shares are together,
  -- and the seats, in the order of their numbers, by which this is the first difference
  abbrev pub FaultFits : (gone_of : B → ℕ) → (count : ℕ) → List (Back D N) → CloseFault O G N C A D B → Type 0
  FaultFits gone_of count seats (SeatMissing have made place back) =
      (have ≡ length seats) × (made ≡ count) × (have < made) × (place ≡ count) × (back.items ≡ seats)
  FaultFits gone_of count seats (Memory place back) =
      (count ≤ length seats) × (place ≡ count) × (back.items ≡ seats)
  FaultFits gone_of count seats (Differs seat index book back) =
      (count ≤ length seats) × AreOrdered seats back.items
      × (gone_of book.base + length book.records ≡ shares_in back.items) × (gone_of book.base ≡ folded_in back.items)
      × FirstDiffer (gone_of book.base) book.records (map list_of back.items) seat index
