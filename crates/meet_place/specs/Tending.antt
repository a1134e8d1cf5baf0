-- What a seat does that tends its place (our choice).
use Rattle.std.specs.Prelude.{◌≡◌, ℕ, ◌+◌, ◌-◌, ◌*◌, ◌/◌, nat_lt, ◌&&◌, Bool, true, List, length, if◌then◌else◌}
use Rattle.std.specs.Prelude.{Option, Some, None, slice_get}
use Rattle.meet_book.specs.Received.{Received}
use Rattle.meet_tickets.specs.declared.refusals.Refusal.{Refusal}
use Rattle.meet_tickets.specs.Refusals.{IsWhy}
use Rattle.meet_book.specs.Booked.{Booked}
use Rattle.meet_book.specs.Booking.{cut_refusal}
use Rattle.meet_place.specs.Seats.{SeatView, Checkpoints, Trims}

-- so many receipts may lie in a seat's list before it looks at the book: with as many in each list, a quarter of what
-- the book may hold
abbrev pub may_lie : (cap seats : ℕ) → ℕ
may_lie cap seats = cap / seats / 4

module _ {D : Type 0} where
  -- where a receipt's record stands among all records
  abbrev pub place_of : Option (Received D) → ℕ
  place_of None = 0
  place_of (Some receipt) = receipt.place

  -- where the last receipt of a list stands; 0 where there is none
  abbrev pub last_place : List (Received D) → ℕ
  last_place list = place_of (slice_get list (length list - 1))

  -- a seat that tends looks at the book exactly where more receipts lie in its list than may, and its last record stands
  -- more than half of what the book may hold after those that the seat saw folded away
  abbrev pub is_to_look : (cap seats : ℕ) → SeatView D → Bool
  is_to_look cap seats seat =
      nat_lt (may_lie cap seats) (length seat.list) && nat_lt (cap / 2) (last_place seat.list - seat.past.seen)

module _ {O B D : Type 0} where
  -- a book holds more than half of the records that it may hold
  abbrev pub is_half_full : Booked O B D → Bool
  is_half_full book = nat_lt book.cap (2 * length book.records)

  -- how many records are folded away of a book that is looked at: all, where it is more than half full
  abbrev pub to_fold : Booked O B D → ℕ
  to_fold book = if is_half_full book then length book.records else 0

  -- a seat looked at this book: what was folded away counts for it, and it let go of its receipts for all that is
  abbrev pub LooksAfter : (gone_of : B → ℕ) → Booked O B D → (old new : SeatView D) → Type 0
  LooksAfter gone_of book old new = (between : SeatView D) × Checkpoints (to_fold book) old between
      × Trims (gone_of book.base + to_fold book) between new

  -- this is why the records of this book weren't folded away, though it is more than half full; the seat let go of its
  -- receipts for what had been folded away before
  pub record FoldsNone
      (gone_of : B → ℕ) (book : Booked O B D) (why : Refusal) (old new : SeatView D) : Type 0 where
    pub full : is_half_full book ≡ true
    pub refused : IsWhy (cut_refusal (gone_of book.base) book) why
    pub trims : Trims (gone_of book.base) old new

-- a seat tended its place: some records were folded away for it, and it let go of its receipts for all that are
abbrev pub Tends : {D : Type 0} → (old new : SeatView D) → Type 0
Tends {D} old new = (more gone : ℕ) × (between : SeatView D) × Checkpoints more old between × Trims gone between new
