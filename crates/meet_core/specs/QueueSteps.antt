-- A queue's calls, as a book makes them: their steps, refusals and costs, and the histories that lead to a queue.
use Rattle.std.specs.Prelude.{◌+◌, ◌≡◌, ◌⊎◌, ℕ, ◌-◌, ◌<◌, true, false, Option, Some, None, List}
use Rattle.meet_tickets.specs.declared.places.Side.TheVariants.{Giver}
use Rattle.meet_tickets.specs.declared.places.End.{End}
use Rattle.meet_tickets.specs.declared.places.End.TheVariants.{Front, Back}
use Rattle.meet_tickets.specs.declared.places.Order.{Order}
use Rattle.meet_tickets.specs.declared.places.Order.TheVariants.{Fair, Unfair, Transfer}
use Rattle.meet_tickets.specs.declared.places.Kind.{Kind}
use Rattle.meet_tickets.specs.declared.records.Record.{Record}
use Rattle.meet_tickets.specs.declared.records.Deed.{Deed}
use Rattle.meet_tickets.specs.declared.refusals.Refusal.{Refusal}
use Rattle.meet_tickets.specs.declared.refusals.Refusal.TheVariants.{NoSuchSeat, SeatOpen, TicketsSpent, NotOpen}
use Rattle.meet_tickets.specs.Meeting.{end_of, keeps, count_on}
use Rattle.meet_tickets.specs.Bases.{Based, moment_of_base, IsWellFormed, IsLegalOn}
use Rattle.meet_tickets.specs.BySeat.{moment_of, open_ticket, owed_of}
use Rattle.meet_tickets.specs.Limits.{last_ticket}
use Rattle.meet_tickets.specs.Refusals.{refusal_unless, absent_refusal}
use Rattle.meet_core.specs.Seen.{marked}
use Rattle.meet_core.specs.Queue.{Queue, seats_of, count_of, admit_refusal}
use Rattle.meet_core.specs.Steps.{GiveStep, OfferStep, PutStep, TakeStep, PollStep, FollowStep, WithdrawStep}
use Rattle.meet_core.specs.Steps.{InterruptStep}
use Rattle.meet_core.specs.declared.calls.queue_calls.QueueCall.{QueueCall}
use Rattle.meet_core.specs.declared.calls.queue_calls.QueueCall.TheVariants.{Put, Give, Offer, Take, Poll, FollowUp}
use Rattle.meet_core.specs.declared.calls.queue_calls.QueueCall.TheVariants.{Cancel, Expire, Interrupt}
use Rattle.meet_core.specs.declared.calls.queue_calls.QueueAnswer.{QueueAnswer}
use Rattle.meet_core.specs.declared.calls.queue_calls.QueueAnswer.TheVariants.{Put as ToPut, Gave as ToGive}
use Rattle.meet_core.specs.declared.calls.queue_calls.QueueAnswer.TheVariants.{Offered as ToOffer}
use Rattle.meet_core.specs.declared.calls.queue_calls.QueueAnswer.TheVariants.{Took as ToTake, Polled as ToPoll}
use Rattle.meet_core.specs.declared.calls.queue_calls.QueueAnswer.TheVariants.{Followed as ToFollowUp}
use Rattle.meet_core.specs.declared.calls.queue_calls.QueueAnswer.TheVariants.{TakenBack as ToWithdrawal}
use Rattle.meet_core.specs.declared.calls.queue_calls.QueueAnswer.TheVariants.{Interrupted as ToInterrupt}

-- a seat's call makes the step of a queue that keeps nothing, with an answer of its own kind: a put waits as a give
-- does (SynchronousQueue.put)
abbrev pub DualStep : {T : Type 0} → (T → ℕ) → End → Queue T → (seat : ℕ) → QueueCall T → QueueAnswer T → Queue T
    → Type 0
DualStep mark end old i (Put item) (ToGive answer) new = GiveStep mark end old i item answer new
DualStep mark end old i (Give item) (ToGive answer) new = GiveStep mark end old i item answer new
DualStep mark end old i (Offer item) (ToOffer answer) new = OfferStep mark end old item answer new
DualStep mark end old i Take (ToTake answer) new = TakeStep mark end old i answer new
DualStep mark end old i Poll (ToPoll answer) new = PollStep mark end old answer new
DualStep mark end old i (FollowUp t) (ToFollowUp answer) new = FollowStep old i t answer new
DualStep mark end old i (Cancel t) (ToWithdrawal answer) new = WithdrawStep old i t answer new
DualStep mark end old i (Expire t) (ToWithdrawal answer) new = WithdrawStep old i t answer new
DualStep mark end old i (Interrupt j) (ToInterrupt answer) new = InterruptStep old j answer new
DualStep mark end old i call answer new = ⊥

-- of a queue of this kind: where it keeps items, a put keeps its own or fails (LinkedTransferQueue.put), and each other
-- call is the same in all queues
abbrev pub QueueStep : {T : Type 0} → (T → ℕ) → Kind → Queue T → (seat : ℕ) → QueueCall T → QueueAnswer T → Queue T
    → Type 0
QueueStep mark k old i (Put item) (ToPut answer) new = (keeps k.order ≡ true)
    × PutStep mark (end_of k.order) k.bound old i item answer new
QueueStep mark k old i (Put item) answer new = (keeps k.order ≡ false)
    × DualStep mark (end_of k.order) old i (Put item) answer new
QueueStep mark k old i call answer new = DualStep mark (end_of k.order) old i call answer new

-- the item that a call brings
abbrev pub item_in : {T : Type 0} → QueueCall T → Option T
item_in (Put item) = Some item
item_in (Give item) = Some item
item_in (Offer item) = Some item
item_in call = None

-- why an ending is refused
abbrev pub ending_refusal : {T : Type 0} → Queue T → (seat ticket : ℕ) → Option Refusal
ending_refusal q i t = refusal_unless (open_ticket ((seats_of q).holds i)) t

-- why a call is refused, HistoryFull and Memory aside
abbrev pub queue_refusal : {T : Type 0} → Queue T → (seat : ℕ) → QueueCall T → Option Refusal
queue_refusal q i (Put item) = admit_refusal q i
queue_refusal q i (Give item) = admit_refusal q i
queue_refusal q i (Offer item) = admit_refusal q i
queue_refusal q i Take = admit_refusal q i
queue_refusal q i Poll = admit_refusal q i
queue_refusal q i (FollowUp t) = ending_refusal q i t
queue_refusal q i (Cancel t) = ending_refusal q i t
queue_refusal q i (Expire t) = ending_refusal q i t
queue_refusal q i (Interrupt j) = absent_refusal (count_of q) i j

-- the refusals of a queue's own
abbrev pub IsOwn : Refusal → Type 0
IsOwn why = (why ≡ NoSuchSeat) ⊎ (why ≡ SeatOpen) ⊎ (why ≡ TicketsSpent) ⊎ (why ≡ NotOpen)

-- a request needs a record for itself and one for its ending, an interrupt one, an ending none
abbrev pub queue_need : {T : Type 0} → QueueCall T → ℕ
queue_need (Put item) = 2
queue_need (Give item) = 2
queue_need (Offer item) = 2
queue_need Take = 2
queue_need Poll = 2
queue_need (FollowUp t) = 0
queue_need (Cancel t) = 0
queue_need (Expire t) = 0
queue_need (Interrupt j) = 1

-- a request that may wait needs a place in the line
abbrev pub queue_room : {T : Type 0} → QueueCall T → ℕ
queue_room (Put item) = 1
queue_room (Give item) = 1
queue_room (Offer item) = 0
queue_room Take = 1
queue_room Poll = 0
queue_room (FollowUp t) = 0
queue_room (Cancel t) = 0
queue_room (Expire t) = 0
queue_room (Interrupt j) = 0

-- each open ticket owes its ending's record
abbrev pub queue_owed : {T : Type 0} → Queue T → ℕ
queue_owed q = owed_of (count_of q) (seats_of q).holds

-- the givers in the line can be drained
abbrev pub queue_available : {T : Type 0} → Queue T → ℕ
queue_available q = count_on Giver q.line

-- the tickets from the next one to 2^63 - 1 are left
abbrev pub queue_unspent : {T : Type 0} → Queue T → ℕ
queue_unspent q = last_ticket + 1 - q.next

-- the order of a synchronous place whose entries are met at this end (SynchronousQueue in fair mode, or in its
-- default mode)
abbrev pub synchronous : End → Order
synchronous Front = Fair
synchronous Back = Unfair

-- its kind
abbrev pub kind_of : End → Kind
kind_of end = record { order = synchronous end; bound = None }

-- a transfer queue's kind
abbrev pub bounded_kind : (bound : Option ℕ) → Kind
bounded_kind bound = record { order = Transfer; bound = bound }

-- these records are legal after this base, their last ticket is the queue's, and they leave what the queue's seats hold
pub record LeadsTo {T : Type 0} (mark : T → ℕ) (k : Kind) (b : Based) (records : List (Record Deed)) (q : Queue T)
    : Type 0 where
  pub well_formed : IsWellFormed k b
  pub legal : IsLegalOn k b records
  pub last : (moment_of k (moment_of_base b) records).last ≡ q.last
  pub next : q.last < q.next
  pub leaves : (moment_of k (moment_of_base b) records).seats ≡ marked mark (seats_of q)
