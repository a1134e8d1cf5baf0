-- What a queue shows of itself.
use Rattle.std.specs.Prelude.{ℕ, ◌+◌, Option, List, length}
use Rattle.meet_tickets.specs.declared.lines.Entry.{Entry}
use Rattle.meet_tickets.specs.declared.refusals.Refusal.{Refusal}
use Rattle.meet_tickets.specs.BySeat.{Seats}
use Rattle.meet_tickets.specs.Refusals.{refusal_of}
use Rattle.meet_core.specs.Table.{Table, hold_at, flag_at}

-- the line and the seats, with the last ticket and the next
pub record Queue (T : Type 0) : Type 0 where
  pub line : List (Entry T)  -- the unmatched tickets in order of request
  pub room : ℕ  -- how many more may come without growth
  pub table : Table T  -- what the seats hold, and which are flagged
  pub last : ℕ  -- the greatest ticket that was used, 0 where none was
  pub next : ℕ  -- the next ticket; 2^63 where none is left

-- the queue in the words of the rules
abbrev pub seats_of : {T : Type 0} → Queue T → Seats T
seats_of q = record { line = q.line; holds = hold_at q.table.holds; flags = flag_at q.table.flags }

-- how many seats there are
abbrev pub count_of : {T : Type 0} → Queue T → ℕ
count_of q = length q.table.holds

-- how many places the line has, taken or not
abbrev pub places_of : {T : Type 0} → Queue T → ℕ
places_of q = length q.line + q.room

-- why the queue refuses a request of this seat, Memory aside: the first that applies
abbrev pub admit_refusal : {T : Type 0} → Queue T → (seat : ℕ) → Option Refusal
admit_refusal q seat = refusal_of (count_of q) q.next (seats_of q) seat
