-- What a book answers for a call.
use Rattle.std.specs.Prelude.{ℕ, ◌+◌, None, Bool, nat_lt, length, Option, Some, option_map, if◌then◌else◌}
use Rattle.std.specs.Option.{option_map_or}
use Rattle.meet_tickets.specs.declared.records.Record.{Record}
use Rattle.meet_tickets.specs.declared.refusals.Refusal.{Refusal}
use Rattle.meet_tickets.specs.declared.refusals.Refusal.TheVariants.{HistoryFull}
use Rattle.meet_tickets.specs.Limits.{most_gone}
use Rattle.meet_book.specs.Booked.{Booked}
use Rattle.meet_book.specs.Received.{Received}

-- why a call is refused, Memory aside, where `first` is the place's own reason, and the history has or hasn't room
abbrev pub call_refusal : (first : Option Refusal) → (full : Bool) → Option Refusal
call_refusal first full = option_map_or Some first (if full then Some HistoryFull else None)

-- a book has no room for the records that its place owes and this many more
abbrev pub is_book_full : {O B D : Type 0} → Booked O B D → (owed need : ℕ) → Bool
is_book_full book owed need = nat_lt book.cap (length book.records + owed + need)

-- why a book refuses a call, Memory aside, where this is its place's own reason, and what the place owes and the call
-- needs
abbrev pub book_refusal : {O B D : Type 0} → (first : Option Refusal) → (owed need : ℕ) → Booked O B D → Option Refusal
book_refusal first owed need book = call_refusal first (is_book_full book owed need)

-- the record of a receipt, where there is one
abbrev pub record_of_receipt : {D : Type 0} → Option (Received D) → Option (Record D)
record_of_receipt receipt = option_map (λ r. r.entry) receipt

-- why a book can't fold its records away, Memory aside, where so many are gone
abbrev pub cut_refusal : {O B D : Type 0} → (gone : ℕ) → Booked O B D → Option Refusal
cut_refusal gone book = if nat_lt most_gone (gone + length book.records) then Some HistoryFull else None
