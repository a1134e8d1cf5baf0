-- What a call does to a queue's book.
use Rattle.std.specs.Prelude.{◌≡◌, ◌≢◌, ℕ, ◌+◌, ◌≤◌, ◌++◌, [], length, Option, None, option_to_list}
use Rattle.meet_tickets.specs.declared.records.Deed.{Deed}
use Rattle.meet_tickets.specs.declared.refusals.Refusal.{Refusal}
use Rattle.meet_tickets.specs.Bases.{Based, IsBaseOf}
use Rattle.meet_tickets.specs.Refusals.{number_of, IsWhy}
use Rattle.meet_book.specs.Booked.{Booked}
use Rattle.meet_book.specs.Booking.{book_refusal, cut_refusal}
use Rattle.meet_core.specs.Seen.{moment_of_queue}
use Rattle.meet_core.specs.QueueSteps.{QueueStep, queue_refusal, queue_need, queue_owed, queue_room}
use Rattle.meet_core.specs.QueueRecords.{queue_record}
use Rattle.meet_core.specs.declared.calls.queue_calls.QueueCall.{QueueCall}
use Rattle.meet_core.specs.declared.calls.queue_calls.QueueAnswer.{QueueAnswer}
use Rattle.meet_queues.specs.Queues.{QueueOfKind}
use Rattle.meet_c.specs.declared.answers.Answer.{Answer}
use Rattle.meet_c.specs.Answers.{told, failed}

abbrev pub QueueBook : Type 0
QueueBook = Booked QueueOfKind Based Deed

-- why a book refuses a seat's call, Memory aside
abbrev pub refusal_in : QueueBook → (seat : ℕ) → QueueCall ℕ → Option Refusal
refusal_in book seat call =
    book_refusal (queue_refusal book.object.queue seat call) (queue_owed book.object.queue) (queue_need call) book

-- there is room for the call: for its records beside those that are owed, and in the line
abbrev pub HasRoomFor : QueueBook → QueueCall ℕ → Type 0
HasRoomFor book call = (queue_owed book.object.queue + queue_need call ≤ book.room)
    × (queue_room call ≤ book.object.queue.room)

-- the answer is this one, but for its hint of a seat that may go on
abbrev pub IsBesidesWake : (told answer : Answer) → Type 0
IsBesidesWake told answer = answer ≡ record told { wake = answer.wake }

-- the call made the queue's own step, the answer is that step's, and the call's record is the last one, if it has one
pub record HasStepped (old : QueueBook) (seat : ℕ) (call : QueueCall ℕ) (answer : Answer) (new : QueueBook)
    : Type 0 where
  pub made : QueueAnswer ℕ
  pub step : QueueStep (λ mark. mark) old.object.kind old.object.queue seat call made new.object.queue
  pub kind : new.object.kind ≡ old.object.kind
  pub told : IsBesidesWake (told made) answer
  pub records : new.records ≡ old.records ++ option_to_list (queue_record (λ mark. mark) seat call made)
  pub base : new.base ≡ old.base
  pub cap : new.cap ≡ old.cap
  pub admitted : refusal_in old seat call ≡ None

-- the call was refused for the first reason that applies, or for Memory, and nothing but room has changed; an ending
-- that the queue admits isn't refused, nor is a call for which there is room
pub record WasRefused (old : QueueBook) (seat : ℕ) (call : QueueCall ℕ) (answer : Answer) (new : QueueBook)
    : Type 0 where
  pub why : Refusal
  pub is_why : IsWhy (refusal_in old seat call) why
  pub told : answer ≡ failed (number_of why)
  pub unchanged : new ≡ record old { room = new.room }
  pub ending : queue_need call ≡ 0 → queue_refusal old.object.queue seat call ≢ None
  pub enough : HasRoomFor old call → refusal_in old seat call ≢ None

-- the records were folded away: the base is that of the queue as it is, and stands for all records since the first
pub record HasCut (old : QueueBook) (gone : ℕ) (new : QueueBook) : Type 0 where
  pub count : gone ≡ old.base.gone + length old.records
  pub base : IsBaseOf (moment_of_queue (λ mark. mark) old.object.queue) gone new.base
  pub records : new.records ≡ []
  pub object : new.object ≡ old.object
  pub cap : new.cap ≡ old.cap
  pub room : new.room ≡ length old.records + old.room
  pub admitted : cut_refusal old.base.gone old ≡ None

-- the records weren't folded away, for this reason, and nothing has changed
pub record WasNotCut (old : QueueBook) (status : ℕ) (new : QueueBook) : Type 0 where
  pub why : Refusal
  pub is_why : IsWhy (cut_refusal old.base.gone old) why
  pub told : status ≡ number_of why
  pub unchanged : new ≡ old
