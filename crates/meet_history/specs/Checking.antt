-- Why a record can't come next, and what the checker shows of itself.
use Rattle.std.specs.Prelude.{◌≡◌, ◌≢◌, ℕ, ◌+◌, ◌<◌, ◌≤◌, Bool, true, false, Some, List, [], ◌∷◌, ◌++◌, length, All}
use Rattle.meet_tickets.specs.declared.lines.Entry.{Entry}
use Rattle.meet_tickets.specs.declared.places.Kind.{Kind}
use Rattle.meet_tickets.specs.declared.records.Record.{Record}
use Rattle.meet_tickets.specs.declared.records.Deed.{Deed}
use Rattle.meet_tickets.specs.declared.records.Deed.TheVariants.{Done, Got, Withdrawn, Interrupt}
use Rattle.meet_tickets.specs.Bases.{Based, moment_of_base, IsLegalOn}
use Rattle.meet_tickets.specs.BySeat.{Moment, moment_of, open_ticket, is_open, IsFree, is_request, Allows}
use Rattle.meet_core.specs.Table.{Table, hold_at, flag_at}
use Rattle.meet_history.specs.declared.checker.Why.{Why}
use Rattle.meet_history.specs.declared.checker.Why.TheVariants.{SeatOpen, TicketOrder, NotOpen, WrongReply}
use Rattle.meet_history.specs.declared.checker.CheckFault.{CheckFault}
use Rattle.meet_history.specs.declared.checker.CheckFault.TheVariants.{Illegal, Memory}

-- whether a deed ends a ticket
abbrev pub is_ending : Deed → Bool
is_ending Done = true
is_ending (Got mark u) = true
is_ending (Withdrawn cause) = true
is_ending deed = false

-- the number of a reason, for those who can't name it (our choice)
abbrev pub number_of_why : Why → ℕ
number_of_why SeatOpen = 1
number_of_why TicketOrder = 2
number_of_why NotOpen = 3
number_of_why WrongReply = 4

-- a request is of a free seat and has a new ticket; an ending is of the seat's open ticket
pub record IsTimely (m : Moment) (r : Record Deed) : Type 0 where
  pub free : is_request r.deed ≡ true → IsFree m.seats r.seat
  pub above : is_request r.deed ≡ true → m.last < r.ticket
  pub opened : is_ending r.deed ≡ true → open_ticket (m.seats.holds r.seat) ≡ Some r.ticket

-- the first reason for which a record can't come next (our choice of words and order)
abbrev pub IsFaulty : Kind → Moment → Record Deed → Why → Type 0
IsFaulty k m r SeatOpen = (is_request r.deed ≡ true) × (is_open (m.seats.holds r.seat) ≡ true)
IsFaulty k m r TicketOrder = (is_request r.deed ≡ true) × IsFree m.seats r.seat × (r.ticket ≤ m.last)
IsFaulty k m r NotOpen = (is_ending r.deed ≡ true) × (open_ticket (m.seats.holds r.seat) ≢ Some r.ticket)
IsFaulty k m r WrongReply = IsTimely m r × (Allows k m.seats r.seat r.ticket r.deed → ⊥)

-- why a request of this seat with this ticket comes at the wrong time
abbrev pub IsUntimely : Moment → (seat ticket : ℕ) → Why → Type 0
IsUntimely m i t SeatOpen = is_open (m.seats.holds i) ≡ true
IsUntimely m i t TicketOrder = IsFree m.seats i × (t ≤ m.last)
IsUntimely m i t why = ⊥

-- the record of this number is the last of the shortest prefix that isn't legal after a base, whose records count
pub record IsIllegalAt (k : Kind) (base : Based) (records : List (Record Deed)) (number : ℕ) (why : Why) : Type 0 where
  pub prefix : List (Record Deed)
  pub bad : Record Deed
  pub rest : List (Record Deed)
  pub parts : records ≡ prefix ++ bad ∷ rest
  pub last : number ≡ base.gone + length prefix + 1
  pub legal : IsLegalOn k base prefix
  pub illegal : IsLegalOn k base (prefix ++ bad ∷ []) → ⊥
  pub faulty : IsFaulty k (moment_of k (moment_of_base base) prefix) bad why

-- what the checker says of records that aren't legal; want of memory says nothing
abbrev pub IsCheckFault : Kind → Based → List (Record Deed) → CheckFault → Type 0
IsCheckFault k base records (Illegal number why) = IsIllegalAt k base records number why
IsCheckFault k base records Memory = Unit {0}

-- the seat that a record is about: that of an interrupt's target, else its own
abbrev pub subject_of : (seat : ℕ) → Deed → ℕ
subject_of seat (Interrupt target) = target
subject_of seat deed = seat

-- each entry's seat is in a table of so many seats
abbrev pub AreSeated : (count : ℕ) → List (Entry ℕ) → Type 0
AreSeated count line = All (λ e. e.seat < count) line

-- what a checker shows of itself
pub record Checked : Type 0 where
  pub kind : Kind
  pub last : ℕ
  pub line : List (Entry ℕ)
  pub room : ℕ  -- how many entries more the line takes without growth
  pub table : Table ℕ

-- where the place is
abbrev pub moment_at : Checked → Moment
moment_at c = record {
  last = c.last;
  seats = record { line = c.line; holds = hold_at c.table.holds; flags = flag_at c.table.flags };
}

-- there is room for this record without growth: in the line, and in the table for the seats that it names
pub record HasRoom (c : Checked) (r : Record Deed) : Type 0 where
  pub line : 0 < c.room
  pub own : r.seat < length c.table.holds
  pub subject : subject_of r.seat r.deed < length c.table.holds
