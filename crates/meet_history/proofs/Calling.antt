-- A call of the stepper's queue, in the words of one thread's replies.
use Rattle.std.proofs.Common.{◌≡◌, ◌≢◌, ℕ, zero, suc, ◌+◌, ◌<◌, ◌≤◌, refl, sym, ap, ◌∙◌, Bool, true, false, Option, Some, None, arith}
use Rattle.std.specs.Prelude.{nat_lt, Result, Ok, Err, IfErr, IsOk}
use Rattle.std.specs.Option.{option_map_or}
use Rattle.meet_tickets.specs.declared.refusals.Refusal.{Refusal}
use Rattle.meet_tickets.specs.declared.refusals.Refusal.TheVariants.{Memory}
use Rattle.meet_tickets.specs.BySeat.{owed_of}
use Rattle.meet_tickets.specs.Refusals.{number_of, refusal_of, absent_refusal, IsWhy}
use Rattle.meet_tickets.proofs.Line.Refusing.{request-own, interrupt-own}
use Rattle.meet_core.specs.Queue.{Queue, seats_of, count_of}
use Rattle.meet_history.specs.declared.one_thread.setup.Setup.{Setup}
use Rattle.meet_core.specs.declared.calls.queue_calls.QueueCall.{QueueCall}
use Rattle.meet_core.specs.declared.calls.queue_calls.QueueCall.TheVariants.{Put, Give, Offer, Take, Poll, FollowUp, Cancel, Expire, Interrupt}
use Rattle.meet_book.specs.Booking.{call_refusal}
use Rattle.meet_core.specs.QueueSteps.{queue_refusal, queue_need, queue_room, queue_owed}
use Rattle.meet_history.specs.declared.one_thread.replies.Reply.{Reply}
use Rattle.meet_history.specs.Stepping.{refusal_at}

-- the book's reason is that of the place
refusal-there : (setup : Setup) (q : Queue ℕ) (gone : ℕ) (cut : Bool) (written seat : ℕ) (call : QueueCall ℕ) → count_of q ≡ setup.seats → 0 < queue_need call → call_refusal (queue_refusal q seat call) (nat_lt setup.cap (written + queue_owed q + queue_need call)) ≡ refusal_at setup (record { next = q.next; seats = seats_of q; gone = gone; cut = cut; records = written }) seat call
refusal-there setup q gone cut written seat (Put mark) count need = ap (λ n. call_refusal (refusal_of n q.next (seats_of q) seat) (nat_lt setup.cap (written + owed_of n (seats_of q).holds + 2))) count
refusal-there setup q gone cut written seat (Give mark) count need = ap (λ n. call_refusal (refusal_of n q.next (seats_of q) seat) (nat_lt setup.cap (written + owed_of n (seats_of q).holds + 2))) count
refusal-there setup q gone cut written seat (Offer mark) count need = ap (λ n. call_refusal (refusal_of n q.next (seats_of q) seat) (nat_lt setup.cap (written + owed_of n (seats_of q).holds + 2))) count
refusal-there setup q gone cut written seat Take count need = ap (λ n. call_refusal (refusal_of n q.next (seats_of q) seat) (nat_lt setup.cap (written + owed_of n (seats_of q).holds + 2))) count
refusal-there setup q gone cut written seat Poll count need = ap (λ n. call_refusal (refusal_of n q.next (seats_of q) seat) (nat_lt setup.cap (written + owed_of n (seats_of q).holds + 2))) count
refusal-there setup q gone cut written seat (FollowUp t) count need = absurd (omega arith)
refusal-there setup q gone cut written seat (Cancel t) count need = absurd (omega arith)
refusal-there setup q gone cut written seat (Expire t) count need = absurd (omega arith)
refusal-there setup q gone cut written seat (Interrupt j) count need = ap (λ n. call_refusal (absent_refusal n seat j) (nat_lt setup.cap (written + owed_of n (seats_of q).holds + 1))) count

-- whatever the book's cap is called
pub refusal_at-is : (setup : Setup) (q : Queue ℕ) (gone : ℕ) (cut : Bool) (cap written seat : ℕ) (call : QueueCall ℕ) → cap ≡ setup.cap → count_of q ≡ setup.seats → 0 < queue_need call → call_refusal (queue_refusal q seat call) (nat_lt cap (written + queue_owed q + queue_need call)) ≡ refusal_at setup (record { next = q.next; seats = seats_of q; gone = gone; cut = cut; records = written }) seat call
refusal_at-is setup q gone cut cap written seat call same count need =
    ap (λ n. call_refusal (queue_refusal q seat call) (nat_lt n (written + queue_owed q + queue_need call))) same ∙ refusal-there setup q gone cut written seat call count need

-- an admitted call isn't refused by the place; an ending of an open ticket isn't anyway
pub admitted-at : (setup : Setup) (q : Queue ℕ) (gone : ℕ) (cut : Bool) (cap written seat : ℕ) (call : QueueCall ℕ) → cap ≡ setup.cap → count_of q ≡ setup.seats → call_refusal (queue_refusal q seat call) (nat_lt cap (written + queue_owed q + queue_need call)) ≡ None → refusal_at setup (record { next = q.next; seats = seats_of q; gone = gone; cut = cut; records = written }) seat call ≡ None
admitted-at setup q gone cut cap written seat (Put mark) same count none = sym (refusal_at-is setup q gone cut cap written seat (Put mark) same count (omega arith)) ∙ none
admitted-at setup q gone cut cap written seat (Give mark) same count none = sym (refusal_at-is setup q gone cut cap written seat (Give mark) same count (omega arith)) ∙ none
admitted-at setup q gone cut cap written seat (Offer mark) same count none = sym (refusal_at-is setup q gone cut cap written seat (Offer mark) same count (omega arith)) ∙ none
admitted-at setup q gone cut cap written seat Take same count none = sym (refusal_at-is setup q gone cut cap written seat Take same count (omega arith)) ∙ none
admitted-at setup q gone cut cap written seat Poll same count none = sym (refusal_at-is setup q gone cut cap written seat Poll same count (omega arith)) ∙ none
admitted-at setup q gone cut cap written seat (FollowUp t) same count none = refl
admitted-at setup q gone cut cap written seat (Cancel t) same count none = refl
admitted-at setup q gone cut cap written seat (Expire t) same count none = refl
admitted-at setup q gone cut cap written seat (Interrupt j) same count none = sym (refusal_at-is setup q gone cut cap written seat (Interrupt j) same count (omega arith)) ∙ none

-- nor has the place a reason of its own
pub place-admits : (first : Option Refusal) (full : Bool) → call_refusal first full ≡ None → first ≡ None
place-admits None full none = refl
place-admits (Some why) full none = cc

-- a call that was refused needs a record, since no ending of an open ticket is refused
pub refused-needs : (need : ℕ) (first : Option Refusal) → (need ≡ 0 → first ≡ None) → (need ≡ 0 → first ≡ None → false ≡ true) → 0 < need
refused-needs zero first own never = absurd (let no : false ≡ true = never refl (own refl) in cc)
refused-needs (suc need) first own never = omega arith

-- a call that was refused for another reason than Memory was refused for the place's
pub refused-so : (first : Option Refusal) (why : Refusal) → IsWhy first why → why ≢ Memory → first ≡ Some why
refused-so None why memory other = absurd (other memory)
refused-so (Some own) why same other = ap Some (sym same)

-- where the place doesn't refuse for want of memory, nor does the book
call-own : (first : Option Refusal) (full : Bool) → first ≢ Some Memory → call_refusal first full ≢ Some Memory
call-own None true own is = absurd (omega (arith, ap (λ o. option_map_or number_of o 0) is))
call-own None false own is = absurd (omega (arith, ap (λ o. option_map_or number_of o 0) is))
call-own (Some why) full own is = own is

place-own : (q : Queue ℕ) (seat : ℕ) (call : QueueCall ℕ) (full : Bool) → 0 < queue_need call → call_refusal (queue_refusal q seat call) full ≢ Some Memory
place-own q seat (Put mark) full need = call-own _ full (request-own (count_of q) q.next (seats_of q) seat)
place-own q seat (Give mark) full need = call-own _ full (request-own (count_of q) q.next (seats_of q) seat)
place-own q seat (Offer mark) full need = call-own _ full (request-own (count_of q) q.next (seats_of q) seat)
place-own q seat Take full need = call-own _ full (request-own (count_of q) q.next (seats_of q) seat)
place-own q seat Poll full need = call-own _ full (request-own (count_of q) q.next (seats_of q) seat)
place-own q seat (FollowUp t) full need = absurd (omega arith)
place-own q seat (Cancel t) full need = absurd (omega arith)
place-own q seat (Expire t) full need = absurd (omega arith)
place-own q seat (Interrupt j) full need = call-own _ full (interrupt-own (count_of q) seat j)

refused-alone : (first : Option Refusal) (why : Refusal) → IsWhy first why → first ≢ Some Memory → why ≡ Memory → first ≡ None
refused-alone None why memory own is = refl
refused-alone (Some first) why same own is = absurd (own (ap Some (sym same ∙ is)))

-- a call that was refused for want of memory wasn't refused by the place
pub memory-alone : (q : Queue ℕ) (seat : ℕ) (call : QueueCall ℕ) (full : Bool) (why : Refusal) → 0 < queue_need call → IsWhy (call_refusal (queue_refusal q seat call) full) why → why ≡ Memory → call_refusal (queue_refusal q seat call) full ≡ None
memory-alone q seat call full why need told is = refused-alone _ why told (place-own q seat call full need) is

-- a call needs two records at most, and one place in the line
pub most-needed : (call : QueueCall ℕ) → (queue_need call ≤ 2) × (queue_room call ≤ 1)
most-needed (Put mark) = (omega arith, omega arith)
most-needed (Give mark) = (omega arith, omega arith)
most-needed (Offer mark) = (omega arith, omega arith)
most-needed Take = (omega arith, omega arith)
most-needed Poll = (omega arith, omega arith)
most-needed (FollowUp t) = (omega arith, omega arith)
most-needed (Cancel t) = (omega arith, omega arith)
most-needed (Expire t) = (omega arith, omega arith)
most-needed (Interrupt j) = (omega arith, omega arith)

-- a refusal for another reason than Memory has a reply
pub has-reply : (said : Result Reply Refusal) (why : Refusal) → IfErr said (λ given. (given ≡ Memory) × (why ≡ Memory)) → why ≢ Memory → IsOk said
has-reply (Ok reply) why memory other = refl
has-reply (Err given) why memory other = absurd (other memory.1)
