-- A poll of a queue in which a giver stands.
use Rattle.std.proofs.Common.{◌≤◌, ◌≡◌, ◌≢◌, ℕ, ◌+◌, ◌<◌, refl, sym, ap, ◌∙◌, Bool, true, false, cond, Option, Some, None, arith}
use Rattle.std.specs.Prelude.{nat_lt, nat_le}
use Rattle.std.proofs.lemmas.Bool.{ne_eqb, le-ltb}
use Rattle.std.proofs.lemmas.Bool.Decides.{leb_tells}
use Rattle.meet_tickets.specs.declared.lines.Entry.{Entry}
use Rattle.meet_tickets.specs.declared.lines.Hold.{Hold}
use Rattle.meet_tickets.specs.declared.lines.Hold.TheVariants.{Free, Waiting}
use Rattle.meet_tickets.specs.declared.places.Side.TheVariants.{Giver, Taker}
use Rattle.meet_tickets.specs.declared.places.End.{End}
use Rattle.meet_tickets.specs.declared.refusals.Refusal.TheVariants.{NoSuchSeat, SeatOpen, TicketsSpent}
use Rattle.meet_tickets.specs.declared.places.Kind.{Kind}
use Rattle.meet_tickets.specs.Meeting.{count_on, end_of}
use Rattle.meet_tickets.specs.BySeat.{Seats, put_at, is_open, owed_of, paired_hold}
use Rattle.meet_tickets.specs.Limits.{last_ticket}
use Rattle.meet_tickets.specs.Refusals.{refusal_of}
use Rattle.meet_tickets.proofs.Line.Admitted.{IsAdmitted, IsAdmitted-from}
use Rattle.meet_tickets.proofs.Line.Counted.{HasGiver, giver-there}
use Rattle.meet_line.specs.Sound.{Stands, IsSound}
use Rattle.meet_core.specs.Queue.{Queue, seats_of, count_of}
use Rattle.meet_core.specs.declared.answers.Polled.TheVariants.{Meets, Fails}
use Rattle.meet_line.proofs.Sound.{HasOneSide-sound, Stands-partner}
use Rattle.meet_book.specs.Draining.{TakesOne}
use Rattle.meet_core.specs.declared.calls.queue_calls.QueueCall.TheVariants.{Poll}
use Rattle.meet_core.specs.declared.calls.queue_calls.QueueAnswer.{QueueAnswer}
use Rattle.meet_core.specs.declared.calls.queue_calls.QueueAnswer.TheVariants.{Put as ToPut, Gave as ToGive, Offered as ToOffer, Took as ToTake, Polled as ToPoll, Followed as ToFollowUp, TakenBack as ToWithdrawal, Interrupted as ToInterrupt}
use Rattle.meet_core.specs.QueueRecords.{queue_record}
use Rattle.meet_core.specs.Bounded.{Bounded, BoundedStep}
use Rattle.meet_core.specs.QueueSteps.{DualStep, queue_refusal, queue_owed, queue_available, queue_unspent}
use Rattle.meet_core.proofs.Effects.{met-open}

-- a request is admitted where its seat is there and free, and a ticket is left
admitted-from : {X : Type 0} (count next : ℕ) (s : Seats X) (seat : ℕ) → seat < count → s.holds seat ≡ Free → next ≤ last_ticket → refusal_of count next s seat ≡ None
admitted-from count next s seat there free few =
    let low : nat_le count seat ≡ false = grind (arith, leb_tells) in
    let left : nat_lt last_ticket next ≡ false = le-ltb last_ticket next few in
    λ i. cond (low i) (Some NoSuchSeat) (cond (is_open (free i)) (Some SeatOpen) (cond (left i) (Some TicketsSpent) None))

-- a request isn't refused for want of a ticket where one is left
pub not-spent : {T : Type 0} (q : Queue T) (seat : ℕ) → 0 < queue_unspent q → queue_refusal q seat Poll ≢ Some TicketsSpent
not-spent q seat some spent =
    let left : nat_lt last_ticket q.next ≡ false = le-ltb last_ticket q.next (omega arith) in
    by_test (nat_le (count_of q) seat) (is_open ((seats_of q).holds seat)) (nat_lt last_ticket q.next) left spent
  where
    by_test : (a b c : Bool) → c ≡ false → cond a (Some NoSuchSeat) (cond b (Some SeatOpen) (cond c (Some TicketsSpent) None)) ≡ Some TicketsSpent → ⊥
    by_test true b c low is = cc
    by_test false true c low is = cc
    by_test false false true low is = cc
    by_test false false false low is = cc

-- a taker that polls isn't the seat that is met
others-free : {T : Type 0} (q : Queue T) (seat : ℕ) (e : Entry T) (hold : Hold T) → (seats_of q).holds seat ≡ Free → (w : Bool) → (w ≡ true → (seats_of q).holds e.seat ≡ Waiting e.ticket) → (cond w (put_at (seats_of q).holds e.seat hold) (seats_of q).holds) seat ≡ Free
others-free q seat e hold free true held =
    let apart : seat ≢ e.seat = λ same. (let waits : Free ≡ Waiting e.ticket = sym free ∙ ap (seats_of q).holds same ∙ held refl in cc) in
    ap (λ b. cond b hold ((seats_of q).holds seat)) (ne_eqb seat e.seat apart) ∙ free
others-free q seat e hold free false held = free

pub poll-takes : {T : Type 0} (mark : T → ℕ) (end : End) (old : Queue T) → IsSound old.line (seats_of old).holds old.next → (seat : ℕ) (answer : QueueAnswer T) (new : Queue T) → DualStep mark end old seat Poll answer new → queue_refusal old seat Poll ≡ None → 0 < queue_available old → TakesOne queue_available queue_unspent queue_owed (λ q. queue_refusal q seat Poll) (queue_record mark seat Poll answer) old new
poll-takes {T} mark end old sound seat (ToPoll (Meets t u item)) new (e, found, ticket, own, uses) none some =
    let admitted : IsAdmitted (count_of old) old.next (seats_of old) seat = IsAdmitted-from (count_of old) old.next (seats_of old) seat none in
    let giver : HasGiver end old.line = giver-there end old.line (HasOneSide-sound sound) some in
    let stands : Stands (seats_of old).holds old.next e = Stands-partner end Taker e sound found in
    let used : new.next ≡ old.next + 1 = uses.next in
    record {
      recorded = refl;
      available = ap (λ (s : Seats T). count_on Giver s.line + 1) uses.seats_are ∙ giver.fewer;
      tickets = omega (arith, used, admitted.few);
      owed = ap (λ n. owed_of n (seats_of new).holds) uses.count ∙ ap (λ (s : Seats T). owed_of (count_of old) s.holds) uses.seats_are ∙ met-open mark end old Taker t None e sound found (ap (λ o. is_open (paired_hold mark e.ticket o t None)) own);
      free = λ more. admitted-from (count_of new) new.next (seats_of new) seat
          (omega (arith, admitted.there, uses.count))
          (ap (λ s. s.holds seat) uses.seats_are ∙ others-free old seat e (paired_hold mark e.ticket e.item t None) admitted.free e.waits stands.held)
          (omega (arith, more));
    }
poll-takes mark end old sound seat (ToPoll (Fails t)) new (alone, uses) none some =
    let giver : HasGiver end old.line = giver-there end old.line (HasOneSide-sound sound) some in
    absurd (let is : None ≡ Some giver.giver = sym alone ∙ giver.met in cc)
poll-takes mark end old sound seat (ToPut answer) new step none some = absurd step
poll-takes mark end old sound seat (ToGive answer) new step none some = absurd step
poll-takes mark end old sound seat (ToOffer answer) new step none some = absurd step
poll-takes mark end old sound seat (ToTake answer) new step none some = absurd step
poll-takes mark end old sound seat (ToFollowUp answer) new step none some = absurd step
poll-takes mark end old sound seat (ToWithdrawal answer) new step none some = absurd step
poll-takes mark end old sound seat (ToInterrupt answer) new step none some = absurd step

-- of a queue whose kind is known by its bound, which stays
pub bounded-takes : {T : Type 0} (mark : T → ℕ) (kind : Option ℕ → Kind) (old : Bounded T) → IsSound old.queue.line (seats_of old.queue).holds old.queue.next → (seat : ℕ) (answer : QueueAnswer T) (new : Bounded T) → BoundedStep mark kind old seat Poll answer new → queue_refusal old.queue seat Poll ≡ None → 0 < queue_available old.queue → TakesOne (λ b. queue_available b.queue) (λ b. queue_unspent b.queue) (λ b. queue_owed b.queue) (λ b. queue_refusal b.queue seat Poll) (queue_record mark seat Poll answer) old new
bounded-takes mark kind old sound seat answer new step none some =
    let one = poll-takes mark (end_of (kind old.bound).order) old.queue sound seat answer new.queue step.1 none some in
    record { recorded = one.recorded; available = one.available; tickets = one.tickets; owed = one.owed; free = one.free }
