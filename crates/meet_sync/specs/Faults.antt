-- Why a queue for threads was not closed (our choice).
use Rattle.std.specs.Prelude.{◌≡◌, ℕ, ◌+◌, ◌<◌, ◌≤◌, List, [], length, map}
use Rattle.meet_tickets.specs.declared.records.Deed.{Deed}
use Rattle.meet_tickets.specs.declared.refusals.Refusal.{Refusal}
use Rattle.meet_tickets.specs.declared.refusals.Refusal.TheVariants.{Memory as NoMemory, Differs as ListDiffers}
use Rattle.meet_tickets.specs.declared.refusals.Refusal.TheVariants.{SeatMissing as NotAllSeats}
use Rattle.meet_tickets.specs.Bases.{Based}
use Rattle.meet_book.specs.Booked.{Booked}
use Rattle.meet_book.specs.Listed.{FirstDiffer}
use Rattle.meet_place.specs.Backs.{missing_of, list_of, AreOrdered, shares_in, folded_in}
use Rattle.meet_place.specs.declared.seats.Back.{Back}
use Rattle.meet_sync.specs.declared.closing.QueueFault.{QueueFault}
use Rattle.meet_sync.specs.declared.closing.QueueFault.TheVariants.{SeatMissing, Memory, Differs}

module _ {Q B N : Type 0} where
  -- the refusal that a fault is
  abbrev pub why_of : QueueFault Q B N → Refusal
  why_of (SeatMissing have made queue seats) = NotAllSeats
  why_of (Memory queue seats) = NoMemory
  why_of (Differs seat index book seats) = ListDiffers

  -- the numbers of the seats that are missing, in rising order
  abbrev pub missing_in : QueueFault Q B N → List ℕ
  missing_in (SeatMissing have made queue seats) = missing_of made seats.items
  missing_in fault = []

module _ {O N : Type 0} where
  -- this is why a queue with so many seats isn't closed with these. Fewer seats than were made, or no memory: the queue
  -- and the seats come back. A difference: the book comes back, with as many records as the seats' shares are together,
  -- and the seats, in the order of their numbers, by which this is the first difference
  abbrev pub QueueFaultFits : (count : ℕ) → List (Back Deed N) → QueueFault ℕ (Booked O Based Deed) N → Type 0
  QueueFaultFits count seats (SeatMissing have made queue back) =
      (have ≡ length seats) × (made ≡ count) × (have < made) × (queue ≡ count) × (back.items ≡ seats)
  QueueFaultFits count seats (Memory queue back) =
      (count ≤ length seats) × (queue ≡ count) × (back.items ≡ seats)
  QueueFaultFits count seats (Differs seat index book back) =
      (count ≤ length seats) × AreOrdered seats back.items
      × (book.base.gone + length book.records ≡ shares_in back.items) × (book.base.gone ≡ folded_in back.items)
      × FirstDiffer book.base.gone book.records (map list_of back.items) seat index
