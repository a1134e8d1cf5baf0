-- What a place answers that other threads may have changed in between (our choice).
use Rattle.std.specs.Prelude.{◌≡◌, ◌≤◌, ℕ, ◌+◌, length, List, Option, Some, None, nat_lt, nat_eq, ◌||◌, if◌then◌else◌}
use Rattle.meet_tickets.specs.declared.records.Record.{Record}
use Rattle.meet_tickets.specs.declared.refusals.Refusal.{Refusal}
use Rattle.meet_tickets.specs.declared.refusals.Refusal.TheVariants.{BadSizes}
use Rattle.meet_tickets.specs.Limits.{most_seats}
use Rattle.meet_tickets.specs.Refusals.{IsWhy}
use Rattle.meet_book.specs.Booked.{Booked}
use Rattle.meet_book.specs.Booking.{book_refusal}

-- a place's book: its object has so many seats, and there are at most so many records at a time
abbrev pub IsBookOf : {O B D : Type 0} → (seat_count_of : O → ℕ) → (seats cap : ℕ) → Booked O B D → Type 0
IsBookOf seat_count_of seats cap book = (seat_count_of book.object ≡ seats) × (book.cap ≡ cap)

-- the book isn't older than this moment: a legal history, with all records up to the moment, leads to its object
abbrev pub IsSince : {O B D : Type 0} → (leads : B → List (Record D) → O → Type 0) → (gone_of : B → ℕ) → (moment : ℕ)
    → Booked O B D → Type 0
IsSince leads gone_of moment book = leads book.base book.records book.object
    × (moment ≤ gone_of book.base + length book.records)

-- there is room for the records that the place owes and that a call may need, and for the call in the place
abbrev pub HasRoom : {O B D : Type 0} → (owed need spare room : ℕ) → Booked O B D → Type 0
HasRoom owed need spare room book = (owed + need ≤ book.room) × (room ≤ spare)

-- this is why a book refuses a call, where this is its place's own reason, and what the place owes and the call needs;
-- a call that needs no record is refused for the place's own reason alone, and Memory is told where there was no room
abbrev pub BookRefuses : {O B D : Type 0} → (first : Option Refusal) → (owed need spare room : ℕ) → Booked O B D
    → Refusal → Type 0
BookRefuses first owed need spare room book why = IsWhy (book_refusal first owed need book) why
    × (need ≡ 0 → first ≡ Some why)
    × (book_refusal first owed need book ≡ None → HasRoom owed need spare room book → ⊥)

-- why a place with so many gates isn't made, Memory aside
abbrev pub sizes_refusal : (gates : ℕ) → Option Refusal
sizes_refusal gates = if nat_eq gates 0 || nat_lt most_seats gates then Some BadSizes else None
