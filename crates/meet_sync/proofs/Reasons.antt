-- Why a call of a seat that is there may be refused.
use Rattle.std.proofs.Common.{◌≡◌, ℕ, Bool, true, false, refl, Ok, Err, Some, None, ◌+◌, ◌<◌, ◌≤◌, length, arith}
use Rattle.std.specs.Prelude.{nat_le, nat_lt, ◌||◌, if◌then◌else◌, Result, IfErr}
use Rattle.std.proofs.lemmas.Bool.{leb-true}
use Rattle.meet_tickets.specs.BySeat.{is_open}
use Rattle.meet_tickets.specs.Limits.{last_ticket, most_gone}
use Rattle.meet_tickets.specs.Refusals.{IsWhy}
use Rattle.meet_tickets.specs.declared.refusals.Refusal.{Refusal}
use Rattle.meet_tickets.specs.declared.refusals.Refusal.TheVariants.{NoSuchSeat, SeatOpen, TicketsSpent, HistoryFull}
use Rattle.meet_book.specs.Booked.{Booked}
use Rattle.meet_book.specs.Booking.{call_refusal, cut_refusal}
use Rattle.meet_core.specs.Queue.{Queue, seats_of, count_of, admit_refusal}
use Rattle.meet_sync.specs.Told.{IsRequestWhy, IsInterruptWhy, IsCutWhy}

-- a seat that is there isn't missing
pub is_there : (count seats seat : ℕ) → count ≡ seats → seat < seats → nat_le count seat ≡ true → ⊥
is_there count seats seat is there absent =
    let below : count ≤ seat = leb-true count seat absent in absurd (omega (arith, below, is, there))

request_why_by : (absent taken spent full : Bool) (why : Refusal) → (absent ≡ true → ⊥)
    → IsWhy (call_refusal (if absent then Some NoSuchSeat
    else (if taken then Some SeatOpen else (if spent then Some TicketsSpent else None))) full) why → IsRequestWhy why
request_why_by true taken spent full why there e = absurd (there refl)
request_why_by false true spent full why there e = rw e tt
request_why_by false false true full why there e = rw e tt
request_why_by false false false true why there e = rw e tt
request_why_by false false false false why there e = rw e tt

-- why a request of a seat that is there may be refused
pub request_why : {T : Type 0} (q : Queue T) (full : Bool) (seats seat : ℕ) (why : Refusal) → count_of q ≡ seats
    → seat < seats → IsWhy (call_refusal (admit_refusal q seat) full) why → IsRequestWhy why
request_why q full seats seat why is there e =
    request_why_by (nat_le (count_of q) seat) (is_open ((seats_of q).holds seat)) (nat_lt last_ticket q.next) full why
    (is_there (count_of q) seats seat is there) e

interrupt_why_by : (absent missing full : Bool) (seats target : ℕ) (why : Refusal) → (absent ≡ true → ⊥)
    → (missing ≡ true → seats ≤ target)
    → IsWhy (call_refusal (if absent || missing then Some NoSuchSeat else None) full) why
    → IsInterruptWhy seats target why
interrupt_why_by true missing full seats target why there gone e = absurd (there refl)
interrupt_why_by false true full seats target why there gone e = rw e (gone refl)
interrupt_why_by false false true seats target why there gone e = rw e tt
interrupt_why_by false false false seats target why there gone e = rw e tt

-- why its interrupt may be refused
pub interrupt_why : {T : Type 0} (q : Queue T) (full : Bool) (seats seat target : ℕ) (why : Refusal)
    → count_of q ≡ seats → seat < seats
    → IsWhy (call_refusal (if nat_le (count_of q) seat || nat_le (count_of q) target then Some NoSuchSeat else None) full) why
    → IsInterruptWhy seats target why
interrupt_why q full seats seat target why is there e =
    interrupt_why_by (nat_le (count_of q) seat) (nat_le (count_of q) target) full seats target why
    (is_there (count_of q) seats seat is there)
    (λ gone. let below : count_of q ≤ target = leb-true (count_of q) target gone in omega (arith, below, is)) e

target_by : (absent missing : Bool) (target seats : ℕ) → (missing ≡ false → target < seats)
    → (if absent || missing then Some NoSuchSeat else None) ≡ None → target < seats
target_by true missing target seats below none = absurd (cc)
target_by false true target seats below none = absurd (cc)
target_by false false target seats below none = below refl

cut_why_by : (full : Bool) (why : Refusal) → IsWhy (if full then Some HistoryFull else None) why → IsCutWhy why
cut_why_by true why e = rw e tt
cut_why_by false why e = rw e tt

-- why a checkpoint may be refused
pub cut_why : (O D : Type 0) {B A : Type 0} (gone_of : B → ℕ) (r : Result A Refusal)
    → IfErr r (λ why. (book : Booked O B D) × IsWhy (cut_refusal (gone_of book.base) book) why) → IfErr r IsCutWhy
cut_why O D gone_of (Ok done) is = is
cut_why O D gone_of (Err why) (book, is) = cut_why_by (nat_lt most_gone (gone_of book.base + length book.records)) why is
