-- What one step under the lock tells of itself, where the queue's state at that time isn't known (our choice).
use Rattle.std.specs.Prelude.{◌≡◌, ◌+◌, ◌<◌, ◌≤◌, ◌⊎◌, ⊤, ℕ, List, length, Option, None, Bool}
use Rattle.meet_tickets.specs.declared.places.Kind.{Kind}
use Rattle.meet_tickets.specs.declared.refusals.Refusal.{Refusal}
use Rattle.meet_tickets.specs.declared.refusals.Refusal.TheVariants.{Memory, HistoryFull, TicketsSpent, SeatOpen}
use Rattle.meet_tickets.specs.declared.refusals.Refusal.TheVariants.{NoSuchSeat}
use Rattle.meet_tickets.specs.Refusals.{IsWhy}
use Rattle.meet_tickets.specs.Bases.{Based}
use Rattle.meet_tickets.specs.declared.records.Deed.{Deed}
use Rattle.meet_tickets.specs.declared.records.Record.{Record}
use Rattle.meet_book.specs.Booking.{call_refusal}
use Rattle.meet_core.specs.Queue.{Queue, seats_of, count_of}
use Rattle.meet_core.specs.Awaits.{AwaitsAs}
use Rattle.meet_core.specs.declared.calls.queue_calls.QueueCall.{QueueCall}
use Rattle.meet_core.specs.declared.calls.queue_calls.QueueCall.TheVariants.{FollowUp, Cancel, Expire}
use Rattle.meet_core.specs.declared.calls.queue_calls.QueueAnswer.{QueueAnswer}
use Rattle.meet_core.specs.QueueSteps.{LeadsTo, QueueStep, queue_refusal}
use Rattle.meet_sync.specs.declared.queue.Ending.{Ending}
use Rattle.meet_sync.specs.declared.queue.Ending.TheVariants.{FollowUp as ToFollow, Cancel as ToCancel}
use Rattle.meet_sync.specs.declared.queue.Ending.TheVariants.{Expire as ToExpire}

module _ {T : Type 0} where
  -- some queue of this kind with so many seats admits a call of this one of them, and makes this step of it
  abbrev pub IsAnswer : Kind → (T → ℕ) → (seats seat : ℕ) → QueueCall T → QueueAnswer T → Type 0
  IsAnswer k mark seats seat call answer = (old new : Queue T) × (count_of old ≡ seats) × (seat < seats)
      × (queue_refusal old seat call ≡ None) × QueueStep mark k old seat call answer new

  -- the same of a queue in which the seat awaits this ticket, whose request brought this mark
  abbrev pub IsEnding : Kind → (T → ℕ) → (seat ticket : ℕ) → Option ℕ → QueueCall T → QueueAnswer T → Type 0
  IsEnding k mark seat ticket own call answer = (old new : Queue T) × AwaitsAs mark (seats_of old) seat ticket own
      × QueueStep mark k old seat call answer new

  -- the queue isn't older than this moment: a legal history, with all records up to the moment, leads to it
  abbrev pub StoodSince : Kind → (T → ℕ) → (moment : ℕ) → Queue T → Type 0
  StoodSince k mark moment queue = (base : Based) × (records : List (Record Deed)) × LeadsTo mark k base records queue
      × (moment ≤ base.gone + length records)

  -- the call was made at such a queue, and if the seat awaits this ticket there, whose request brought this mark, this
  -- is the queue's answer
  abbrev pub LookedAt : Kind → (T → ℕ) → (moment seat ticket : ℕ) → Option ℕ → QueueCall T → QueueAnswer T → Type 0
  LookedAt k mark moment seat ticket own call answer = (old : Queue T) × StoodSince k mark moment old
      × (AwaitsAs mark (seats_of old) seat ticket own → (new : Queue T) × QueueStep mark k old seat call answer new)

  -- some queue with so many seats refuses a call of this one of them for this reason, or its history has no room, or
  -- there is no memory
  abbrev pub IsRefusalOf : (seats seat : ℕ) → QueueCall T → Refusal → Type 0
  IsRefusalOf seats seat call why = (queue : Queue T) × (full : Bool) × (count_of queue ≡ seats) × (seat < seats)
      × IsWhy (call_refusal (queue_refusal queue seat call) full) why

  -- a call of this seat was refused for lack of memory, or for the first reason of a queue that isn't older than this
  -- moment
  abbrev pub RefusedSince : Kind → (T → ℕ) → (moment seat : ℕ) → QueueCall T → Refusal → Type 0
  RefusedSince k mark moment seat call why = (why ≡ Memory) ⊎ ((queue : Queue T) × (full : Bool)
      × StoodSince k mark moment queue × IsWhy (call_refusal (queue_refusal queue seat call) full) why)

  -- the call that ends this ticket so
  abbrev pub ending_call : Ending → (ticket : ℕ) → QueueCall T
  ending_call ToFollow t = FollowUp t
  ending_call ToCancel t = Cancel t
  ending_call ToExpire t = Expire t

-- the ending takes the ticket back
abbrev pub IsWithdrawal : Ending → Type 0
IsWithdrawal ToFollow = ⊥
IsWithdrawal ToCancel = ⊤
IsWithdrawal ToExpire = ⊤

-- why a request may be refused (SynchronousQueue and LinkedTransferQueue refuse none; our choice)
abbrev pub IsRequestWhy : Refusal → Type 0
IsRequestWhy Memory = ⊤
IsRequestWhy HistoryFull = ⊤
IsRequestWhy TicketsSpent = ⊤
IsRequestWhy SeatOpen = ⊤
IsRequestWhy why = ⊥

-- why an interrupt of this target may be refused, where there are so many seats: NoSuchSeat where it is none of them
-- (our choice)
abbrev pub IsInterruptWhy : (seats target : ℕ) → Refusal → Type 0
IsInterruptWhy seats target Memory = ⊤
IsInterruptWhy seats target HistoryFull = ⊤
IsInterruptWhy seats target NoSuchSeat = seats ≤ target
IsInterruptWhy seats target why = ⊥

-- why a checkpoint may be refused (our choice)
abbrev pub IsCutWhy : Refusal → Type 0
IsCutWhy Memory = ⊤
IsCutWhy HistoryFull = ⊤
IsCutWhy why = ⊥
