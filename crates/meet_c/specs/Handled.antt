-- What an export does to what its handle holds.
use Rattle.std.specs.Prelude.{◌≡◌, ◌≢◌, ℕ, ◌≤◌, List, [], slice_get, Option, Some, None}
use Rattle.meet_tickets.specs.Bases.{no_base}
use Rattle.meet_tickets.specs.BySeat.{nobody}
use Rattle.meet_tickets.specs.declared.places.Kind.{Kind}
use Rattle.meet_core.specs.Queue.{seats_of, count_of}
use Rattle.meet_core.specs.declared.calls.queue_calls.QueueCall.{QueueCall}
use Rattle.meet_queues.specs.Ready.{ready_room}
use Rattle.meet_history.specs.Limits.{IsInLimits}
use Rattle.meet_history.specs.Pushing.{HasSeen}
use Rattle.meet_c.specs.declared.held.Held.{Held}
use Rattle.meet_c.specs.declared.held.Held.TheVariants.{Queue, Checker}
use Rattle.meet_c.specs.declared.answers.Answer.{Answer}
use Rattle.meet_c.specs.declared.bases.BaseRow.{BaseRow}
use Rattle.meet_c.specs.declared.bases.PlainBase.{PlainBase}
use Rattle.meet_c.specs.declared.entries.PlainRecord.{PlainRecord}
use Rattle.meet_c.specs.declared.followers.Follower.{Follower}
use Rattle.meet_c.specs.declared.followers.Found.{Found}
use Rattle.meet_c.specs.declared.queues.Look.{Look}
use Rattle.meet_c.specs.Answers.{failed}
use Rattle.meet_c.specs.Entries.{AreCopied}
use Rattle.meet_c.specs.Followed.{TakesMany, StandsAs, ChecksNew, status_with}
use Rattle.meet_c.specs.Looks.{look_at, open_at}
use Rattle.meet_c.specs.Names.{call_of, seat_in, kind_of}
use Rattle.meet_c.specs.Rows.{rows_of, told_base}
use Rattle.meet_c.specs.Stepped.{QueueBook, HasStepped, WasRefused, HasCut, WasNotCut}

-- the numbers of a place: its kind, and its seats, first ticket and cap in their limits
abbrev pub IsPlace : (order bound seats first cap : ℕ) → Kind → Type 0
IsPlace order bound seats first cap kind = (kind_of order bound ≡ Some kind)
    × IsInLimits (record { kind = kind; seats = seats; cap = cap; first = first })

-- no place has these numbers
abbrev pub IsNoPlace : (order bound seats first cap : ℕ) → Type 0
IsNoPlace order bound seats first cap = (kind : Kind) → IsPlace order bound seats first cap kind → ⊥

-- the book of a queue of this kind that nobody has asked yet, ready for its first calls
pub record IsNewBook (kind : Kind) (seats first cap : ℕ) (book : QueueBook) : Type 0 where
  pub of_kind : book.object.kind ≡ kind
  pub free : seats_of book.object.queue ≡ nobody
  pub count : count_of book.object.queue ≡ seats
  pub next : book.object.queue.next ≡ first
  pub base : book.base ≡ no_base
  pub records : book.records ≡ []
  pub most : book.cap ≡ cap
  pub room : ready_room cap ≤ book.room
  pub line : seats ≤ book.object.queue.room

-- a new queue is held
abbrev pub HoldsNewQueue : (order bound seats first cap : ℕ) → Option Held → Type 0
HoldsNewQueue order bound seats first cap held = (kind : Kind) × (book : QueueBook) × (held ≡ Some (Queue book))
    × IsPlace order bound seats first cap kind × IsNewBook kind seats first cap book

-- a new checker is held
abbrev pub HoldsNewChecker : (order bound : ℕ) → Option Held → Type 0
HoldsNewChecker order bound held = (kind : Kind) × (f : Follower) × (held ≡ Some (Checker f))
    × IsPlace order bound 1 1 1 kind × (f.checker.place.kind ≡ kind) × HasSeen no_base f.checker []
    × (f.checker.fault ≡ None) × (f.taken ≡ 0)

-- the call was made or refused
pub record BookSteps (old : QueueBook) (seat : ℕ) (call : QueueCall ℕ) (answer : Answer) (new : QueueBook)
    : Type 0 where
  pub made : answer.status ≡ 0 → HasStepped old seat call answer new
  pub refused : answer.status ≢ 0 → WasRefused old seat call answer new

-- its numbers are those of a seat and a call, or it is 41
abbrev pub StepsRead : QueueBook → Option (QueueCall ℕ) → Option ℕ → Answer → Held → Type 0
StepsRead old None seat answer new = (answer ≡ failed 41) × (new ≡ Queue old)
StepsRead old (Some call) None answer new = (answer ≡ failed 41) × (new ≡ Queue old)
StepsRead old (Some call) (Some seat) answer new = (after : QueueBook) × (new ≡ Queue after)
    × BookSteps old seat call answer after

abbrev pub StepsHeld : Held → (verb seat value : ℕ) → Answer → Held → Type 0
StepsHeld (Queue old) verb seat value answer new = StepsRead old (call_of verb value) (seat_in seat) answer new
StepsHeld (Checker old) verb seat value answer new = (answer ≡ failed 40) × (new ≡ Checker old)

-- a queue is held, or it is 40
abbrev pub Steps : Option Held → (verb seat value : ℕ) → Answer → Option Held → Type 0
Steps None verb seat value answer new = (answer ≡ failed 40) × (new ≡ None)
Steps (Some old) verb seat value answer new = (after : Held) × (new ≡ Some after)
    × StepsHeld old verb seat value answer after

-- a queue is looked at, or it is 40 and what was there stays
abbrev pub Looks : Option Held → Look → (status : ℕ) → Look → Type 0
Looks (Some (Queue book)) old status new = (status ≡ 0) × (new ≡ look_at book)
Looks (Some (Checker f)) old status new = (status ≡ 40) × (new ≡ old)
Looks None old status new = (status ≡ 40) × (new ≡ old)

-- the seat's open ticket
abbrev pub OpensSeat : QueueBook → Option ℕ → (old status new : ℕ) → Type 0
OpensSeat book None old status new = (status ≡ 41) × (new ≡ old)
OpensSeat book (Some seat) old status new = (status ≡ 0) × (new ≡ open_at book seat)

abbrev pub Opens : Option Held → (seat old status new : ℕ) → Type 0
Opens (Some (Queue book)) seat old status new = OpensSeat book (seat_in seat) old status new
Opens (Some (Checker f)) seat old status new = (status ≡ 40) × (new ≡ old)
Opens None seat old status new = (status ≡ 40) × (new ≡ old)

-- a queue's records are copied, or it is 40 and what was there stays
abbrev pub Copies : Option Held → (from : ℕ) → List PlainRecord → (status count : ℕ) → List PlainRecord → Type 0
Copies (Some (Queue book)) from old status count new = (status ≡ 0) × AreCopied book.records from old count new
Copies (Some (Checker f)) from old status count new = (status ≡ 40) × (count ≡ 0) × (new ≡ old)
Copies None from old status count new = (status ≡ 40) × (count ≡ 0) × (new ≡ old)

-- the numbers of a queue's base, or it is 40 and what was there stays
abbrev pub TellsBase : Option Held → PlainBase → (status : ℕ) → PlainBase → Type 0
TellsBase (Some (Queue book)) old status new = (status ≡ 0) × (new ≡ told_base book.base)
TellsBase (Some (Checker f)) old status new = (status ≡ 40) × (new ≡ old)
TellsBase None old status new = (status ≡ 40) × (new ≡ old)

-- a row of a base, if there is one of this index
abbrev pub TellsIfRow : Option BaseRow → BaseRow → (status : ℕ) → BaseRow → Type 0
TellsIfRow (Some row) old status new = (status ≡ 0) × (new ≡ row)
TellsIfRow None old status new = (status ≡ 41) × (new ≡ old)

abbrev pub TellsRow : Option Held → (at : ℕ) → BaseRow → (status : ℕ) → BaseRow → Type 0
TellsRow (Some (Queue book)) at old status new = TellsIfRow (slice_get (rows_of book.base) at) old status new
TellsRow (Some (Checker f)) at old status new = (status ≡ 40) × (new ≡ old)
TellsRow None at old status new = (status ≡ 40) × (new ≡ old)

-- the records of a book were folded away, or not
pub record BookCuts (old : QueueBook) (status gone : ℕ) (new : QueueBook) : Type 0 where
  pub made : status ≡ 0 → HasCut old gone new
  pub refused : status ≢ 0 → WasNotCut old status new

abbrev pub CutsHeld : Held → (status gone : ℕ) → Held → Type 0
CutsHeld (Queue old) status gone new = (after : QueueBook) × (new ≡ Queue after) × BookCuts old status gone after
CutsHeld (Checker old) status gone new = (status ≡ 40) × (new ≡ Checker old)

abbrev pub Cuts : Option Held → (status gone : ℕ) → Option Held → Type 0
Cuts None status gone new = (status ≡ 40) × (new ≡ None)
Cuts (Some old) status gone new = (after : Held) × (new ≡ Some after) × CutsHeld old status gone after

-- plain records are pushed on a checker, or it is 40
abbrev pub PushesHeld : Held → List PlainRecord → Found → Held → Type 0
PushesHeld (Checker old) entries found new = (after : Follower) × (new ≡ Checker after)
    × TakesMany old entries found after
PushesHeld (Queue old) entries found new = (found ≡ status_with 40 0) × (new ≡ Queue old)

abbrev pub Pushes : Option Held → List PlainRecord → Found → Option Held → Type 0
Pushes None entries found new = (found ≡ status_with 40 0) × (new ≡ None)
Pushes (Some old) entries found new = (after : Held) × (new ≡ Some after) × PushesHeld old entries found after

-- a checker's finding, or it is 40
abbrev pub Stands : Option Held → Found → Type 0
Stands (Some (Checker f)) found = StandsAs f found
Stands (Some (Queue book)) found = found ≡ status_with 40 0
Stands None found = found ≡ status_with 40 0

-- a checker takes a queue's new records in, or it is 40 and nothing has changed
abbrev pub ChecksHeld : Held → Held → Found → Held → Held → Type 0
ChecksHeld (Queue old) (Checker was) found new now = (after : QueueBook) × (follower : Follower) × (new ≡ Queue after)
    × (now ≡ Checker follower) × ChecksNew old was found after follower
ChecksHeld held other found new now = (found ≡ status_with 40 0) × (new ≡ held) × (now ≡ other)

abbrev pub ChecksAt : Held → Option Held → Found → Held → Option Held → Type 0
ChecksAt held None found new now = (found ≡ status_with 40 0) × (new ≡ held) × (now ≡ None)
ChecksAt held (Some other) found new now = (after : Held) × (now ≡ Some after) × ChecksHeld held other found new after

abbrev pub ChecksBoth : Option Held → Option Held → Found → Option Held → Option Held → Type 0
ChecksBoth None other found new now = (found ≡ status_with 40 0) × (new ≡ None) × (now ≡ other)
ChecksBoth (Some held) other found new now = (after : Held) × (new ≡ Some after) × ChecksAt held other found after now
