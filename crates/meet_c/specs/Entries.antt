-- Records as plain numbers, and the records that plain numbers stand for.
use Rattle.std.specs.Prelude.{◌≡◌, ℕ, ◌+◌, ◌-◌, ◌<◌, ◌≤◌, min, nat_eq, List, length, slice_get, Option, Some, None}
use Rattle.std.specs.Prelude.{option_map}
use Rattle.std.specs.Prelude.{option_and_then, if◌then◌else◌}
use Rattle.meet_tickets.specs.declared.places.Side.{Side}
use Rattle.meet_tickets.specs.declared.places.Side.TheVariants.{Giver, Taker}
use Rattle.meet_tickets.specs.declared.records.Cause.{Cause}
use Rattle.meet_tickets.specs.declared.records.Cause.TheVariants.{Cancelled, Expired, Interrupted as ByInterrupt}
use Rattle.meet_tickets.specs.declared.records.Deed.{Deed}
use Rattle.meet_tickets.specs.declared.records.Deed.TheVariants.{GiveWaits, GiveMeets, GiveFails, GiveKept, TakeWaits}
use Rattle.meet_tickets.specs.declared.records.Deed.TheVariants.{TakeMeets, TakeFails, EntryInterrupted, Done, Got}
use Rattle.meet_tickets.specs.declared.records.Deed.TheVariants.{Withdrawn, Interrupt}
use Rattle.meet_tickets.specs.declared.records.Record.{Record}
use Rattle.meet_c.specs.declared.entries.PlainRecord.{PlainRecord}
use Rattle.meet_c.specs.Names.{ticket_in, seat_in}

-- a deed's number
abbrev pub deed_number : Deed → ℕ
deed_number (GiveWaits m) = 1
deed_number (GiveMeets m u) = 2
deed_number (GiveFails m) = 3
deed_number (GiveKept m) = 4
deed_number TakeWaits = 5
deed_number (TakeMeets m u) = 6
deed_number TakeFails = 7
deed_number (EntryInterrupted side) = 8
deed_number Done = 9
deed_number (Got m u) = 10
deed_number (Withdrawn cause) = 11
deed_number (Interrupt i) = 12

-- its mark, or 0
abbrev pub deed_mark : Deed → ℕ
deed_mark (GiveWaits m) = m
deed_mark (GiveMeets m u) = m
deed_mark (GiveFails m) = m
deed_mark (GiveKept m) = m
deed_mark (TakeMeets m u) = m
deed_mark (Got m u) = m
deed_mark d = 0

abbrev pub side_number : Side → ℕ
side_number Giver = 0
side_number Taker = 1

abbrev pub cause_number : Cause → ℕ
cause_number Cancelled = 0
cause_number Expired = 1
cause_number ByInterrupt = 2

-- its partner, side, cause or target, or 0
abbrev pub deed_other : Deed → ℕ
deed_other (GiveMeets m u) = u
deed_other (TakeMeets m u) = u
deed_other (Got m u) = u
deed_other (EntryInterrupted side) = side_number side
deed_other (Withdrawn cause) = cause_number cause
deed_other (Interrupt i) = i
deed_other d = 0

-- a record
abbrev pub told_record : Record Deed → PlainRecord
told_record r = record {
  seat = r.seat;
  ticket = r.ticket;
  deed = deed_number r.deed;
  mark = deed_mark r.deed;
  other = deed_other r.deed;
}

-- the first `count` places have the records from this index on, as many as there are and as have room; the other places
-- have what they had
pub record AreCopied (records : List (Record Deed)) (from : ℕ) (old : List PlainRecord) (count : ℕ)
    (new : List PlainRecord) : Type 0 where
  pub most : count ≡ min (length old) (length records - from)
  pub copied : (k : ℕ) → k < count → slice_get new k ≡ option_map told_record (slice_get records (from + k))
  pub others : (k : ℕ) → count ≤ k → slice_get new k ≡ slice_get old k

-- a side and a cause, by their numbers
unfoldable pub side_in : ℕ → Option Side
side_in n = if nat_eq n 0 then Some Giver else (if nat_eq n 1 then Some Taker else None)

unfoldable pub cause_in : ℕ → Option Cause
cause_in n =
    if nat_eq n 0 then Some Cancelled else (
    if nat_eq n 1 then Some Expired else (if nat_eq n 2 then Some ByInterrupt else None))

-- a request's deed
unfoldable pub request_of : (deed mark other : ℕ) → Option Deed
request_of deed mark other =
    if nat_eq deed 1 then Some (GiveWaits mark) else (
    if nat_eq deed 2 then option_map (GiveMeets mark) (ticket_in other) else (
    if nat_eq deed 3 then Some (GiveFails mark) else (
    if nat_eq deed 4 then Some (GiveKept mark) else (
    if nat_eq deed 5 then Some TakeWaits else (
    if nat_eq deed 6 then option_map (TakeMeets mark) (ticket_in other) else (
    if nat_eq deed 7 then Some TakeFails else None))))))

-- any deed
unfoldable pub deed_of : (deed mark other : ℕ) → Option Deed
deed_of deed mark other =
    if nat_eq deed 8 then option_map EntryInterrupted (side_in other) else (
    if nat_eq deed 9 then Some Done else (
    if nat_eq deed 10 then option_map (Got mark) (ticket_in other) else (
    if nat_eq deed 11 then option_map Withdrawn (cause_in other) else (
    if nat_eq deed 12 then option_map Interrupt (seat_in other) else request_of deed mark other))))

-- the record that C tells
unfoldable pub record_of : PlainRecord → Option (Record Deed)
record_of r =
    option_and_then (λ seat. option_and_then (λ ticket. option_map
    (λ deed. record { seat = seat; ticket = ticket; deed = deed })
    (deed_of r.deed r.mark r.other)) (ticket_in r.ticket)) (seat_in r.seat)
