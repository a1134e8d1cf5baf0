-- What the lines of a trace say (our choice of format): its first line names the place, each further one a record.
use Rattle.std.specs.Prelude.{ℕ, nat_lt, nat_le, Option, Some, None, List, [], ◌∷◌, length, codes, if◌then◌else◌}
use Rattle.std.specs.Str.{bytes_eq}
use Rattle.meet_tickets.specs.declared.places.Side.{Side}
use Rattle.meet_tickets.specs.declared.places.Side.TheVariants.{Giver, Taker}
use Rattle.meet_tickets.specs.declared.places.Order.{Order}
use Rattle.meet_tickets.specs.declared.places.Kind.{Kind}
use Rattle.meet_tickets.specs.declared.records.Cause.{Cause}
use Rattle.meet_tickets.specs.declared.records.Cause.TheVariants.{Cancelled, Expired, Interrupted}
use Rattle.meet_tickets.specs.declared.records.Deed.{Deed}
use Rattle.meet_tickets.specs.declared.records.Deed.TheVariants.{GiveWaits, GiveMeets, GiveFails, GiveKept, TakeWaits}
use Rattle.meet_tickets.specs.declared.records.Deed.TheVariants.{TakeMeets, TakeFails, EntryInterrupted, Done, Got}
use Rattle.meet_tickets.specs.declared.records.Deed.TheVariants.{Withdrawn, Interrupt}
use Rattle.meet_tickets.specs.declared.records.Record.{Record}
use Rattle.meet_tickets.specs.Limits.{most_kept, last_ticket}
use Rattle.meet_run.specs.Texts.Words.{word_of, rest_of, behind, number_spelled}
use Rattle.meet_run.specs.Texts.Grammar.{◌>>=◌, provided, seat_of, order_of, option_in, may_have}

-- a ticket's number
unfoldable pub ticket_in : ℕ → Option ℕ
ticket_in n = provided (nat_le n last_ticket) n

-- the ticket of a word
unfoldable pub ticket_of : (word : List ℕ) → Option ℕ
ticket_of word = number_spelled word >>= ticket_in

-- a side by its word
unfoldable pub side_of : (word : List ℕ) → Option Side
side_of word =
    if bytes_eq word (codes "give") then Some Giver else (
    if bytes_eq word (codes "take") then Some Taker else None)

-- why a ticket was withdrawn, by its word
unfoldable pub cause_of : (word : List ℕ) → Option Cause
cause_of word =
    if bytes_eq word (codes "cancelled") then Some Cancelled else (
    if bytes_eq word (codes "expired") then Some Expired else (
    if bytes_eq word (codes "interrupted") then Some Interrupted else None))

-- the deed of a word that stands alone
unfoldable pub bare_deed_of : (word : List ℕ) → Option Deed
bare_deed_of word =
    if bytes_eq word (codes "take-waits") then Some TakeWaits else (
    if bytes_eq word (codes "take-fails") then Some TakeFails else (
    if bytes_eq word (codes "done") then Some Done else None))

-- the deed of a word with a mark behind it
unfoldable pub marked_deed_of : (word : List ℕ) → (mark : ℕ) → Option Deed
marked_deed_of word mark =
    if bytes_eq word (codes "give-waits") then Some (GiveWaits mark) else (
    if bytes_eq word (codes "give-fails") then Some (GiveFails mark) else (
    if bytes_eq word (codes "give-kept") then Some (GiveKept mark) else None))

-- the deed of a word with one word behind it: a side, a cause, a seat or a mark
unfoldable pub worded_deed_of : (word value : List ℕ) → Option Deed
worded_deed_of word value =
    if bytes_eq word (codes "entry-interrupted") then (side_of value >>= λ side. Some (EntryInterrupted side)) else (
    if bytes_eq word (codes "withdrawn") then (cause_of value >>= λ cause. Some (Withdrawn cause)) else (
    if bytes_eq word (codes "interrupt") then (seat_of value >>= λ target. Some (Interrupt target))
    else (number_spelled value >>= marked_deed_of word)))

-- the deed of a word with a mark and a partner's ticket behind it
unfoldable pub paired_deed_of : (word : List ℕ) → (mark partner : ℕ) → Option Deed
paired_deed_of word mark partner =
    if bytes_eq word (codes "give-meets") then Some (GiveMeets mark partner) else (
    if bytes_eq word (codes "take-meets") then Some (TakeMeets mark partner) else (
    if bytes_eq word (codes "got") then Some (Got mark partner) else None))

-- the deed of a word, the word behind it, and the rest of the line: nothing, or a space and a ticket
unfoldable pub deed_with : (word value rest : List ℕ) → Option Deed
deed_with word value [] = worded_deed_of word value
deed_with word value (space ∷ text) = do
  mark ← number_spelled value
  partner ← ticket_of text
  paired_deed_of word mark partner

-- the deed of a word and the rest of its line
unfoldable pub deed_of : (word rest : List ℕ) → Option Deed
deed_of word [] = bare_deed_of word
deed_of word (space ∷ text) = deed_with word (word_of text) (rest_of text)

-- the deed behind a ticket
unfoldable pub deed_behind : (rest : List ℕ) → Option Deed
deed_behind [] = None
deed_behind (space ∷ text) = deed_of (word_of text) (rest_of text)

-- the record of a seat, by what stands behind the seat
unfoldable pub record_behind : (seat : ℕ) → (rest : List ℕ) → Option (Record Deed)
record_behind seat [] = None
record_behind seat (space ∷ text) = do
  ticket ← ticket_of (word_of text)
  deed ← deed_behind (rest_of text)
  Some (record { seat = seat; ticket = ticket; deed = deed })

-- the record of a line, however long
unfoldable pub record_in : (line : List ℕ) → Option (Record Deed)
record_in line = do
  seat ← seat_of (word_of line)
  record_behind seat (rest_of line)

-- the record of a line of a trace
unfoldable pub record_of : (line : List ℕ) → Option (Record Deed)
record_of line = if nat_lt 128 (length line) then None else record_in line

-- the kind of a place, where nothing is left of the line, and the place may have that bound
unfoldable pub kind_at_end : Order → (bound : Option ℕ) → (rest : List ℕ) → Option Kind
kind_at_end order bound [] = provided (may_have order bound) (record { order = order; bound = bound })
kind_at_end order bound (b ∷ rest) = None

-- a kind of place: its word, and its bound where it is spelled out
unfoldable pub kind_in : (text : List ℕ) → Option Kind
kind_in text = do
  order ← order_of (word_of text)
  bound ← option_in (codes " bound ") most_kept (rest_of text)
  kind_at_end order bound.0 bound.1

-- the kind of place that a trace's first line names, however long
unfoldable pub head_in : (line : List ℕ) → Option Kind
head_in line = behind (codes "trace 1 ") line >>= kind_in

-- the kind of place of a trace's first line
unfoldable pub head_of : (line : List ℕ) → Option Kind
head_of line = if nat_lt 128 (length line) then None else head_in line
