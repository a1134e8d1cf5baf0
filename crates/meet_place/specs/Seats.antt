-- What contracts see of a seat, and what a call leaves in its list (our choice).
use Rattle.std.specs.Prelude.{◌≡◌, ℕ, ◌+◌, ◌<◌, ◌≤◌, Option, Some, List, [], ◌++◌, All, length, map, filter, slice_get}
use Rattle.std.specs.List.{range_with_len}
use Rattle.meet_tickets.specs.declared.records.Record.{Record}
use Rattle.meet_book.specs.Listed.{is_since}
use Rattle.meet_book.specs.Received.{Received}
use Rattle.meet_place.specs.declared.seats.Past.{Past}

-- a seat's number, what it has behind it (how many receipts were dropped from its list, how many records its checkpoints
-- folded away, and how many it saw folded away), how many records had been written at the moment that it knows of, the
-- receipts that it has in order, and how many more the list has room for
pub record SeatView (D : Type 0) : Type 0 where
  pub number : ℕ
  pub past : Past
  pub moment : ℕ
  pub list : List (Received D)
  pub room : ℕ

-- a seat whose ticket is open: its number, what it has behind it, the moment that it knows of, the receipts that it has
-- in order, the ticket, and the mark that its request brought
pub record PendingView (D : Type 0) : Type 0 where
  pub number : ℕ
  pub past : Past
  pub moment : ℕ
  pub list : List (Received D)
  pub ticket : ℕ
  pub mark : Option ℕ

module _ {D : Type 0} where
  -- the records of receipts, in order
  abbrev pub entries : List (Received D) → List (Record D)
  entries list = map (λ receipt. receipt.entry) list

  -- the receipts of these records came to the list's end
  abbrev pub Adds : (old new : List (Received D)) → List (Record D) → Type 0
  Adds old new records = (made : List (Received D)) × (new ≡ old ++ made) × (entries made ≡ records)

  -- the same, where the records follow one another: they are numbered on from this one
  abbrev pub AddsFrom : (last : ℕ) → (old new : List (Received D)) → List (Record D) → Type 0
  AddsFrom last old new records = (made : List (Received D)) × (new ≡ old ++ made) × (entries made ≡ records)
      × (map (λ receipt. receipt.place) made ≡ range_with_len (last + 1) (length made))

  -- the receipts that came to the list's end are for records behind the one moment, and none is behind the other
  abbrev pub IsLater : (before after : ℕ) → (old new : List (Received D)) → Type 0
  IsLater before after old new = (before ≤ after) × (made : List (Received D)) × (new ≡ old ++ made)
      × All (λ receipt. (before < receipt.place) × (receipt.place ≤ after)) made

  -- seats in the order of their numbers, from 0, without receipts, and with nothing behind them
  abbrev pub AreFresh : List (SeatView D) → Type 0
  AreFresh seats = (i : ℕ) (seat : SeatView D) → slice_get seats i ≡ Some seat
      → (seat.number ≡ i) × (seat.list ≡ []) × (seat.past.trimmed ≡ 0) × (seat.past.folded ≡ 0) × (seat.past.seen ≡ 0)

  -- a seat's share of the number of records: how many receipts it ever got
  abbrev pub share_in : SeatView D → ℕ
  share_in seat = seat.past.trimmed + length seat.list

  -- a call hands the same seat back: its number, and what it has behind it; what it called stands behind the moment that
  -- the seat knew of, and it knows of a moment then that isn't before that
  abbrev pub SameSeat : (old new : SeatView D) → Type 0
  SameSeat old new = (new.number ≡ old.number) × (new.past ≡ old.past)
      × IsLater old.moment new.moment old.list new.list

  -- the same, with an open ticket
  abbrev pub ParksSeat : SeatView D → PendingView D → Type 0
  ParksSeat seat p = (p.number ≡ seat.number) × (p.past ≡ seat.past)
      × IsLater seat.moment p.moment seat.list p.list

  -- the same, and its ticket ended
  abbrev pub FreesSeat : PendingView D → SeatView D → Type 0
  FreesSeat p seat = (seat.number ≡ p.number) × (seat.past ≡ p.past)
      × IsLater p.moment seat.moment p.list seat.list

  -- the receipts for the first `gone` records, which were folded away, were dropped from the list; the share stays
  pub record Trims (gone : ℕ) (old new : SeatView D) : Type 0 where
    pub number : new.number ≡ old.number
    pub list : new.list ≡ filter (is_since gone) old.list
    pub share : share_in new ≡ share_in old
    pub folded : new.past.folded ≡ old.past.folded
    pub seen : new.past.seen ≡ gone
    pub moment : new.moment ≡ old.moment
    pub room : length new.list + new.room ≡ length old.list + old.room

  -- the same, of a seat whose ticket is open: that stays open
  pub record TrimsPending (gone : ℕ) (old new : PendingView D) : Type 0 where
    pub number : new.number ≡ old.number
    pub ticket : new.ticket ≡ old.ticket
    pub mark : new.mark ≡ old.mark
    pub list : new.list ≡ filter (is_since gone) old.list
    pub share : new.past.trimmed + length new.list ≡ old.past.trimmed + length old.list
    pub folded : new.past.folded ≡ old.past.folded
    pub seen : new.past.seen ≡ gone
    pub moment : new.moment ≡ old.moment

  -- a checkpoint of the seat folded so many records away, and changed nothing else of it
  pub record Checkpoints (more : ℕ) (old new : SeatView D) : Type 0 where
    pub folded : new.past.folded ≡ old.past.folded + more
    pub trimmed : new.past.trimmed ≡ old.past.trimmed
    pub seen : new.past.seen ≡ old.past.seen
    pub number : new.number ≡ old.number
    pub moment : new.moment ≡ old.moment
    pub list : new.list ≡ old.list
    pub room : new.room ≡ old.room

-- polls that do this were made, whose receipts came to the list's end, and whose answers are these, both in their order
abbrev pub DrainedAs : {A D : Type 0} → (List (A × Received D) → Type 0) → (old new : List (Received D)) → List A
    → Type 0
DrainedAs {A} {D} DoSo old new answers = (got : List (A × Received D)) × DoSo got
    × (new ≡ old ++ map (λ one. one.1) got) × (answers ≡ map (λ one. one.0) got)
