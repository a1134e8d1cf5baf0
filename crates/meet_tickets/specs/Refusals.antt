-- The number and the name of each refusal, and which one a request, an ending or an interrupt gets (our choice).
use Rattle.std.specs.Prelude.{◌≡◌, ℕ, nat_eq, nat_lt, nat_le, false, ◌||◌, Option, Some, None, MatchOption, List}
use Rattle.std.specs.Prelude.{codes, if◌then◌else◌}
use Rattle.std.specs.Option.{option_map_or}
use Rattle.meet_tickets.specs.BySeat.{Seats, is_open}
use Rattle.meet_tickets.specs.Limits.{last_ticket}
use Rattle.meet_tickets.specs.declared.refusals.Refusal.{Refusal}
use Rattle.meet_tickets.specs.declared.refusals.Refusal.TheVariants.{Memory, HistoryFull, TicketsSpent, SeatOpen}
use Rattle.meet_tickets.specs.declared.refusals.Refusal.TheVariants.{NoSuchSeat, NotOpen, Differs, SeatMissing}
use Rattle.meet_tickets.specs.declared.refusals.Refusal.TheVariants.{Contended, Worn, BadSizes, PolicyNeedsBuffer}
use Rattle.meet_tickets.specs.declared.refusals.Refusal.TheVariants.{NoThread, BadLine, BadTrace, ReadFault}
use Rattle.meet_tickets.specs.declared.refusals.Refusal.TheVariants.{WriteFault, HasBase}

-- its number
abbrev pub number_of : Refusal → ℕ
number_of Memory = 1
number_of HistoryFull = 2
number_of TicketsSpent = 3
number_of SeatOpen = 4
number_of NoSuchSeat = 5
number_of NotOpen = 6
number_of Differs = 7
number_of SeatMissing = 8
number_of Contended = 9
number_of Worn = 10
number_of BadSizes = 11
number_of PolicyNeedsBuffer = 12
number_of NoThread = 13
number_of BadLine = 14
number_of BadTrace = 15
number_of ReadFault = 16
number_of WriteFault = 17
number_of HasBase = 18

-- its name, as scripts and faults tell it
abbrev pub name_of : Refusal → List ℕ
name_of Memory = codes "Memory"
name_of HistoryFull = codes "HistoryFull"
name_of TicketsSpent = codes "TicketsSpent"
name_of SeatOpen = codes "SeatOpen"
name_of NoSuchSeat = codes "NoSuchSeat"
name_of NotOpen = codes "NotOpen"
name_of Differs = codes "Differs"
name_of SeatMissing = codes "SeatMissing"
name_of Contended = codes "Contended"
name_of Worn = codes "Worn"
name_of BadSizes = codes "BadSizes"
name_of PolicyNeedsBuffer = codes "PolicyNeedsBuffer"
name_of NoThread = codes "NoThread"
name_of BadLine = codes "BadLine"
name_of BadTrace = codes "BadTrace"
name_of ReadFault = codes "ReadFault"
name_of WriteFault = codes "WriteFault"
name_of HasBase = codes "HasBase"

-- why a place with this many seats, whose next ticket is `next`, refuses a request of this seat: the first that applies
abbrev pub refusal_of : {X : Type 0} → (count next : ℕ) → Seats X → (seat : ℕ) → Option Refusal
refusal_of count next s seat =
    if nat_le count seat then Some NoSuchSeat
    else (if is_open (s.holds seat) then Some SeatOpen
    else (if nat_lt last_ticket next then Some TicketsSpent else None))

-- why an ending of this ticket is refused, where this one is open
abbrev pub refusal_unless : (opened : Option ℕ) → (ticket : ℕ) → Option Refusal
refusal_unless opened t = if option_map_or (λ own. nat_eq own t) opened false then None else Some NotOpen

-- why an interrupt of this target is refused, where there are so many seats
abbrev pub absent_refusal : (count seat target : ℕ) → Option Refusal
absent_refusal count i j = if nat_le count i || nat_le count j then Some NoSuchSeat else None

-- this is why a call is refused: the first reason that applies, or Memory where there is none
abbrev pub IsWhy : (first : Option Refusal) → (why : Refusal) → Type 0
IsWhy first why = MatchOption first (why ≡ Memory) (λ own. why ≡ own)
