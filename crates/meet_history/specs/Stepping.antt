-- What a stepper shows of itself, and what a call does to it.
use Rattle.std.specs.Prelude.{◌≡◌, ℕ, ◌+◌, ◌≤◌, Bool, Option, Some, None, List, [], ◌∷◌, ◌++◌, length}
use Rattle.meet_tickets.specs.declared.records.Record.{Record}
use Rattle.meet_tickets.specs.declared.records.Deed.{Deed}
use Rattle.meet_tickets.specs.declared.records.Cause.TheVariants.{Cancelled, Expired}
use Rattle.meet_tickets.specs.declared.refusals.Refusal.{Refusal}
use Rattle.meet_tickets.specs.declared.refusals.Refusal.TheVariants.{Memory}
use Rattle.meet_core.specs.Queue.{Queue, seats_of, count_of}
use Rattle.meet_core.specs.declared.answers.Gave.TheVariants.{EntryInterrupted}
use Rattle.meet_core.specs.declared.answers.Put.TheVariants.{Fails as PutFails}
use Rattle.meet_core.specs.declared.answers.Offered.TheVariants.{Fails}
use Rattle.meet_core.specs.declared.answers.Followed.TheVariants.{Interrupted}
use Rattle.meet_core.specs.declared.answers.TakenBack.TheVariants.{Back}
use Rattle.meet_book.specs.Received.{Received}
use Rattle.meet_tickets.specs.Bases.{Based}
use Rattle.meet_tickets.specs.BySeat.{owed_of}
use Rattle.meet_core.specs.declared.calls.queue_calls.QueueCall.{QueueCall}
use Rattle.meet_core.specs.declared.calls.queue_calls.QueueCall.TheVariants.{Put, Give, Offer, Take, Poll, FollowUp}
use Rattle.meet_core.specs.declared.calls.queue_calls.QueueCall.TheVariants.{Cancel, Expire, Interrupt}
use Rattle.meet_core.specs.declared.calls.queue_calls.QueueAnswer.{QueueAnswer}
use Rattle.meet_core.specs.declared.calls.queue_calls.QueueAnswer.TheVariants.{Put as ToPut, Gave as ToGive}
use Rattle.meet_core.specs.declared.calls.queue_calls.QueueAnswer.TheVariants.{Offered as ToOffer}
use Rattle.meet_core.specs.declared.calls.queue_calls.QueueAnswer.TheVariants.{Followed as ToFollowUp}
use Rattle.meet_core.specs.declared.calls.queue_calls.QueueAnswer.TheVariants.{TakenBack as ToWithdrawal}
use Rattle.meet_history.specs.declared.one_thread.setup.Setup.{Setup}
use Rattle.meet_history.specs.declared.one_thread.replies.Reply.{Reply}
use Rattle.meet_history.specs.declared.one_thread.replies.Outcome.{Outcome}
use Rattle.meet_history.specs.declared.one_thread.replies.Outcome.TheVariants.{NotYet, Late}
use Rattle.meet_history.specs.OneThread.{Place, Turn, told, put_form, waiting, immediate, give, take, follow}
use Rattle.meet_history.specs.OneThread.{withdraw, interrupt, request_refusal, interrupt_refusal}
use Rattle.meet_history.specs.Standings.{IsFolded}

-- what a run over a place shows of itself
pub record Stepping : Type 0 where
  pub setup : Setup
  pub queue : Queue ℕ
  pub base : Based  -- what stands for the records that were folded away
  pub cut : Bool  -- whether a checkpoint was made
  pub records : List (Record Deed)  -- those since
  pub room : ℕ  -- how many records more may come without growth

-- where the place is
abbrev pub place_of : Stepping → Place
place_of s = record {
  next = s.queue.next;
  seats = seats_of s.queue;
  gone = s.base.gone;
  cut = s.cut;
  records = length s.records;
}

-- all records that were written are these: those that the base stands for, and those since
abbrev pub HasWritten : Stepping → (all : List (Record Deed)) → Type 0
HasWritten s all = IsFolded s.setup.kind all s.base s.records

-- a call did what this turn says: whatever was written before, its records were written behind it
pub record Takes (turn : Turn) (old new : Stepping) : Type 0 where
  pub setup : new.setup ≡ old.setup
  pub written : (all : List (Record Deed)) → HasWritten old all → HasWritten new (all ++ turn.records)
  pub place : place_of new ≡ turn.place

-- and answered this
pub record TakesTurn (turn : Turn) (old new : Stepping) (reply : Reply) : Type 0 where
  pub replies : turn.replies ≡ reply ∷ []
  pub takes : Takes turn old new

-- the turn of a queue's call; an ending is of the seat's open ticket
abbrev pub turn_of_call : Setup → Place → (seat : ℕ) → QueueCall ℕ → Turn
turn_of_call setup p i (Put mark) = give setup p i (put_form setup.kind.order) mark
turn_of_call setup p i (Give mark) = give setup p i waiting mark
turn_of_call setup p i (Offer mark) = give setup p i immediate mark
turn_of_call setup p i Take = take setup p i waiting
turn_of_call setup p i Poll = take setup p i immediate
turn_of_call setup p i (FollowUp t) = follow setup p i (p.seats.holds i)
turn_of_call setup p i (Cancel t) = withdraw setup p i Cancelled (p.seats.holds i)
turn_of_call setup p i (Expire t) = withdraw setup p i Expired (p.seats.holds i)
turn_of_call setup p i (Interrupt j) = interrupt setup p i j

-- why a call is refused, Memory aside; an ending of an open ticket isn't
abbrev pub refusal_at : Setup → Place → (seat : ℕ) → QueueCall ℕ → Option Refusal
refusal_at setup p i (Put mark) = request_refusal setup p i
refusal_at setup p i (Give mark) = request_refusal setup p i
refusal_at setup p i (Offer mark) = request_refusal setup p i
refusal_at setup p i Take = request_refusal setup p i
refusal_at setup p i Poll = request_refusal setup p i
refusal_at setup p i (Interrupt j) = interrupt_refusal setup p i j
refusal_at setup p i call = None

-- there is room for a call: for two records beside those that are owed, and for a place in the line
pub record HasRoom (s : Stepping) : Type 0 where
  pub records : owed_of (count_of s.queue) (seats_of s.queue).holds + 2 ≤ s.room
  pub line : 1 ≤ s.queue.room

-- nothing but room changed
abbrev pub StaysButForRoom : (old new : Stepping) → Type 0
StaysButForRoom old new = new ≡ record old { room = new.room }

-- a call was refused for want of memory alone: `first`, the place's own reason against it, is none, and nothing changed
pub record LacksMemory (first : Option Refusal) (old new : Stepping) (why : Refusal) : Type 0 where
  pub memory : why ≡ Memory
  pub alone : first ≡ None
  pub unchanged : StaysButForRoom old new

-- the giver's item that an answer brings back, where it brings one
abbrev pub back_of : QueueAnswer ℕ → Option ℕ
back_of (ToPut (PutFails t item)) = Some item
back_of (ToGive (EntryInterrupted t item)) = Some item
back_of (ToOffer (Fails t item)) = Some item
back_of (ToFollowUp (Interrupted item)) = item
back_of (ToWithdrawal (Back item)) = item
back_of answer = None

-- what is told of a call that writes no record: a follow-up comes too early, a withdrawal too late; no other call is
-- without one
abbrev pub unrecorded : QueueCall ℕ → Outcome
unrecorded (FollowUp t) = NotYet
unrecorded call = Late

-- the reply that tells a receipt
abbrev pub reply_of : (seat : ℕ) → Received Deed → (back : Option ℕ) → Reply
reply_of i r back = record { seat = i; outcome = told r.place r.entry.ticket r.entry.deed back }
