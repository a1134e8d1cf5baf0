-- The replies of a place that one thread uses, whatever seats it speaks for.
use Rattle.std.specs.Prelude.{ℕ, zero, suc, ◌+◌, ◌-◌, nat_lt, min, Bool, true, false, Option, Some, None, unwrap_or}
use Rattle.std.specs.Prelude.{List}
use Rattle.std.specs.Prelude.{[], ◌∷◌, ◌++◌, if◌then◌else◌}
use Rattle.std.specs.Option.{option_map_or}
use Rattle.meet_tickets.specs.declared.lines.Entry.{Entry}
use Rattle.meet_tickets.specs.declared.lines.Hold.{Hold}
use Rattle.meet_tickets.specs.declared.lines.Hold.TheVariants.{Free, Waiting, Handed, Served, Cut}
use Rattle.meet_tickets.specs.declared.places.Side.TheVariants.{Giver, Taker}
use Rattle.meet_tickets.specs.declared.places.Order.{Order}
use Rattle.meet_tickets.specs.declared.places.Kind.{Kind}
use Rattle.meet_tickets.specs.declared.records.Record.{Record}
use Rattle.meet_tickets.specs.declared.records.Cause.{Cause}
use Rattle.meet_tickets.specs.declared.records.Cause.TheVariants.{Cancelled, Expired, Interrupted}
use Rattle.meet_tickets.specs.declared.records.Deed.{Deed}
use Rattle.meet_tickets.specs.declared.records.Deed.TheVariants.{GiveWaits, GiveMeets, GiveFails, GiveKept, TakeWaits}
use Rattle.meet_tickets.specs.declared.records.Deed.TheVariants.{TakeMeets, TakeFails, EntryInterrupted, Done, Got}
use Rattle.meet_tickets.specs.declared.records.Deed.TheVariants.{Withdrawn, Interrupt}
use Rattle.meet_tickets.specs.declared.refusals.Refusal.{Refusal}
use Rattle.meet_tickets.specs.declared.refusals.Refusal.TheVariants.{NotOpen}
use Rattle.meet_tickets.specs.Meeting.{end_of, keeps, partner, kept_count, waiting_count, count_on}
use Rattle.meet_tickets.specs.BySeat.{Seats, nobody, entry_of, cut_ticket, owed_of, settled_of, is_request, seats_after}
use Rattle.meet_tickets.specs.Limits.{last_ticket, most_gone}
use Rattle.meet_tickets.specs.Refusals.{refusal_of, absent_refusal}
use Rattle.meet_book.specs.Booking.{call_refusal}
use Rattle.meet_book.specs.Draining.{drain_refusal_by}
use Rattle.meet_queues.specs.Probes.{size_of, remaining_of, peek_of}
use Rattle.meet_history.specs.declared.one_thread.verbs.Call.{Call}
use Rattle.meet_history.specs.declared.checker.Standing.{Standing}
use Rattle.meet_history.specs.declared.one_thread.verbs.Verb.{Verb}
use Rattle.meet_history.specs.declared.one_thread.verbs.Verb.TheVariants.{Put, Offer, Take, Poll}
use Rattle.meet_history.specs.declared.one_thread.verbs.Verb.TheVariants.{Transfer as TransferItem, Try, Follow}
use Rattle.meet_history.specs.declared.one_thread.verbs.Verb.TheVariants.{Cancel, Expire, Interrupt as InterruptSeat}
use Rattle.meet_history.specs.declared.one_thread.verbs.Verb.TheVariants.{Drain, Look}
use Rattle.meet_history.specs.declared.one_thread.verbs.Verb.TheVariants.{Checkpoint}
use Rattle.meet_history.specs.declared.one_thread.verbs.Probe.{Probe}
use Rattle.meet_history.specs.declared.one_thread.verbs.Probe.TheVariants.{Size, Room, Peek, Consumers}
use Rattle.meet_history.specs.declared.one_thread.setup.Setup.{Setup}
use Rattle.meet_history.specs.declared.one_thread.replies.Reply.{Reply}
use Rattle.meet_history.specs.declared.one_thread.replies.Outcome.{Outcome}
use Rattle.meet_history.specs.declared.one_thread.replies.Outcome.TheVariants.{Recorded}
use Rattle.meet_history.specs.declared.one_thread.replies.Outcome.TheVariants.{Interrupted as InterruptedSeat, NotYet}
use Rattle.meet_history.specs.declared.one_thread.replies.Outcome.TheVariants.{Late, Drained, Count, Peeked, Based}
use Rattle.meet_history.specs.declared.one_thread.replies.Outcome.TheVariants.{Refused}
use Rattle.meet_history.specs.declared.one_thread.replies.Answer.TheVariants.{Waits, Kept, Gave, Got as GotItem}
use Rattle.meet_history.specs.declared.one_thread.replies.Answer.TheVariants.{Fails, Done as Finished}
use Rattle.meet_history.specs.declared.one_thread.replies.Answer.TheVariants.{Withdrawn as WasWithdrawn}

-- where the place is
pub record Place : Type 0 where
  pub next : ℕ  -- the next ticket
  pub seats : Seats ℕ
  pub gone : ℕ  -- how many records were folded away
  pub cut : Bool  -- whether a checkpoint was made
  pub records : ℕ  -- how many records were written since

-- before the first call
abbrev pub start : Setup → Place
start setup = record { next = setup.first; seats = nobody; gone = 0; cut = false; records = 0 }

-- what a call says, writes and leaves
pub record Turn : Type 0 where
  pub replies : List Reply
  pub records : List (Record Deed)
  pub place : Place

-- nothing is written, and nothing changes
abbrev pub silent : Place → (seat : ℕ) → Outcome → Turn
silent p seat outcome = record { replies = record { seat = seat; outcome = outcome } ∷ []; records = []; place = p }

-- a refusal is such a turn
abbrev pub refused : Place → (seat : ℕ) → Refusal → Turn
refused p seat why = silent p seat (Refused why)

-- the ticket of this number, where it names one: 0 names none
abbrev pub named : ℕ → Option ℕ
named zero = None
named (suc t) = Some (suc t)

-- what the seat is told of its record: which number and ticket it has, and what came of it; a giver's item where it
-- comes back
abbrev pub told : (number ticket : ℕ) → Deed → (back : Option ℕ) → Outcome
told n t (GiveWaits m) back = Recorded n t Waits
told n t (GiveMeets m u) back = Recorded n t (Gave m u)
told n t (GiveFails m) back = Recorded n t (Fails back)
told n t (GiveKept m) back = Recorded n t Kept
told n t TakeWaits back = Recorded n t Waits
told n t (TakeMeets m u) back = Recorded n t (GotItem m u)
told n t TakeFails back = Recorded n t (Fails back)
told n t (EntryInterrupted side) back = Recorded n t (WasWithdrawn Interrupted back)
told n t Done back = Recorded n t Finished
told n t (Got m u) back = Recorded n t (GotItem m u)
told n t (Withdrawn cause) back = Recorded n t (WasWithdrawn cause back)
told n t (Interrupt j) back = InterruptedSeat n j (named t)

-- one record is written, whose step the place makes; a request uses its ticket
abbrev pub written : Setup → Place → Record Deed → (back : Option ℕ) → Turn
written setup p r back = record {
  replies = record { seat = r.seat; outcome = told (p.gone + p.records + 1) r.ticket r.deed back } ∷ [];
  records = r ∷ [];
  place = record {
    next = if is_request r.deed then p.next + 1 else p.next;
    seats = seats_after setup.kind p.seats r.seat r.ticket r.deed;
    gone = p.gone;
    cut = p.cut;
    records = p.records + 1;
  };
}

-- the same in its parts
abbrev pub stepped : Setup → Place → (seat ticket : ℕ) → Deed → (back : Option ℕ) → Turn
stepped setup p seat ticket deed back = written setup p (record { seat = seat; ticket = ticket; deed = deed }) back

-- one turn after another
abbrev pub joined : Turn → (Place → Turn) → Turn
joined turn rest = record {
  replies = turn.replies ++ (rest turn.place).replies;
  records = turn.records ++ (rest turn.place).records;
  place = (rest turn.place).place;
}

-- the history has no room for what is owed and this many records more
abbrev pub is_full : Setup → Place → (need : ℕ) → Bool
is_full setup p need = nat_lt setup.cap (p.records + owed_of setup.seats p.seats.holds + need)

-- three forms of a request without a partner: it waits, it fails, or a giver's item is kept
pub data Form : Type 0 where
  waiting : Form
  immediate : Form
  keeping : Form

-- an item more may be kept
abbrev pub may_keep : Kind → List (Entry ℕ) → Bool
may_keep k line = option_map_or (λ most. nat_lt (kept_count line) most) k.bound true

-- the deed of a give without a partner: it goes by the form, and a flag stops only one that would wait
abbrev pub give_alone : Kind → Seats ℕ → (seat : ℕ) → Form → (mark : ℕ) → Deed
give_alone k s seat waiting mark = if s.flags seat then EntryInterrupted Giver else GiveWaits mark
give_alone k s seat immediate mark = GiveFails mark
give_alone k s seat keeping mark = if may_keep k s.line then GiveKept mark else GiveFails mark

-- the deed of a give: the partner is met, if there is one
abbrev pub give_deed : Kind → Seats ℕ → (seat : ℕ) → Form → (mark : ℕ) → Deed
give_deed k s seat form mark =
    option_map_or (λ e. GiveMeets mark e.ticket) (partner (end_of k.order) s.line Giver) (give_alone k s seat form mark)

-- the deed of a take without a partner
abbrev pub take_alone : Seats ℕ → (seat : ℕ) → Form → Deed
take_alone s seat waiting = if s.flags seat then EntryInterrupted Taker else TakeWaits
take_alone s seat immediate = TakeFails
take_alone s seat keeping = TakeFails

-- the deed of a take: the partner is met, if there is one
abbrev pub take_deed : Kind → Seats ℕ → (seat : ℕ) → Form → Deed
take_deed k s seat form =
    option_map_or (λ e. TakeMeets (unwrap_or e.item 0) e.ticket) (partner (end_of k.order) s.line Taker)
    (take_alone s seat form)

-- why a request is refused: the first that applies
abbrev pub request_refusal : Setup → Place → (seat : ℕ) → Option Refusal
request_refusal setup p seat = call_refusal (refusal_of setup.seats p.next p.seats seat) (is_full setup p 2)

-- a request uses the next ticket
abbrev pub request : Setup → Place → (seat : ℕ) → Deed → (item : Option ℕ) → Turn
request setup p seat deed item =
    option_map_or (refused p seat) (request_refusal setup p seat) (stepped setup p seat p.next deed item)

-- a give of this form (SynchronousQueue.put and offer, LinkedTransferQueue.put, transfer and tryTransfer)
abbrev pub give : Setup → Place → (seat : ℕ) → Form → (mark : ℕ) → Turn
give setup p seat form mark = request setup p seat (give_deed setup.kind p.seats seat form mark) (Some mark)

-- a take of this form (take and poll of either queue)
abbrev pub take : Setup → Place → (seat : ℕ) → Form → Turn
take setup p seat form = request setup p seat (take_deed setup.kind p.seats seat form) None

-- the follow-up of the seat's open ticket
abbrev pub follow : Setup → Place → (seat : ℕ) → Hold ℕ → Turn
follow setup p seat Free = refused p seat NotOpen
follow setup p seat (Waiting t) = silent p seat NotYet
follow setup p seat (Handed t u mark) = stepped setup p seat t Done None
follow setup p seat (Served t u item) = stepped setup p seat t (Got item u) None
follow setup p seat (Cut t item) = stepped setup p seat t (Withdrawn Interrupted) item

-- a cancel or an expiry of the seat's open ticket
abbrev pub withdraw : Setup → Place → (seat : ℕ) → Cause → Hold ℕ → Turn
withdraw setup p seat cause Free = refused p seat NotOpen
withdraw setup p seat cause (Waiting t) =
    option_map_or (λ e. stepped setup p seat t (Withdrawn cause) e.item) (entry_of p.seats.line (Waiting t))
    (silent p seat Late)
withdraw setup p seat cause (Handed t u mark) = silent p seat Late
withdraw setup p seat cause (Served t u item) = silent p seat Late
withdraw setup p seat cause (Cut t item) = silent p seat Late

-- why an interrupt is refused: the first that applies
abbrev pub interrupt_refusal : Setup → Place → (seat target : ℕ) → Option Refusal
interrupt_refusal setup p seat target =
    call_refusal (absent_refusal setup.seats seat target) (is_full setup p 1)

-- an interrupt of the target (Thread.interrupt): one record, or a refusal
abbrev pub interrupt : Setup → Place → (seat target : ℕ) → Turn
interrupt setup p seat target =
    option_map_or (refused p seat) (interrupt_refusal setup p seat target)
    (stepped setup p seat (cut_ticket p.seats target) (Interrupt target) None)

-- a drain is so many polls, and then their number
abbrev pub polls : Setup → Place → (seat : ℕ) → ℕ → Turn
polls setup p seat zero = record { replies = []; records = []; place = p }
polls setup p seat (suc n) = joined (take setup p seat immediate) (λ q. polls setup q seat n)

-- why a drain of k items is refused: the first that applies
abbrev pub drain_refusal : Setup → Place → (seat k : ℕ) → Option Refusal
drain_refusal setup p seat k =
    drain_refusal_by (refusal_of setup.seats p.next p.seats seat) (last_ticket + 1 - p.next) k (is_full setup p (k + 1))

-- a drain of k items (drainTo of either queue): all of it, or a refusal
abbrev pub drain : Setup → Place → (seat k : ℕ) → Turn
drain setup p seat k =
    option_map_or (refused p seat) (drain_refusal setup p seat k)
    (joined (polls setup p seat k) (λ q. silent q seat (Drained k)))

-- why a checkpoint is refused: the first that applies (our choice)
abbrev pub checkpoint_refusal : Setup → Place → (seat : ℕ) → Option Refusal
checkpoint_refusal setup p seat =
    call_refusal (absent_refusal setup.seats seat seat) (nat_lt most_gone (p.gone + p.records))

-- the records so far are folded away: they count no more for the history's room, and their numbers go on rising
abbrev pub folded : Place → (seat : ℕ) → Turn
folded p seat = record {
  replies = record { seat = seat; outcome = Based (p.gone + p.records) } ∷ [];
  records = [];
  place = record { next = p.next; seats = p.seats; gone = p.gone + p.records; cut = true; records = 0 };
}

-- a checkpoint writes no record (our choice)
abbrev pub checkpoint : Setup → Place → (seat : ℕ) → Turn
checkpoint setup p seat = option_map_or (refused p seat) (checkpoint_refusal setup p seat) (folded p seat)

-- SynchronousQueue.put waits; LinkedTransferQueue.put keeps its item
abbrev pub put_form : Order → Form
put_form order = if keeps order then keeping else waiting

-- SynchronousQueue.offer fails at once; LinkedTransferQueue.offer is its put
abbrev pub offer_form : Order → Form
offer_form order = if keeps order then keeping else immediate

-- what a look sees (Collection.size, BlockingQueue.remainingCapacity, Queue.peek, and getWaitingConsumerCount of
-- LinkedTransferQueue)
abbrev pub seen : Setup → Place → Probe → Outcome
seen setup p Size = Count (size_of setup.kind.order p.seats.line)
seen setup p Room = Count (remaining_of setup.kind.order)
seen setup p Peek = Peeked (peek_of setup.kind.order p.seats.line)
seen setup p Consumers = Count (count_on Taker p.seats.line)

-- the turn of each verb
abbrev pub turn_of : Setup → Place → (seat : ℕ) → Verb → Turn
turn_of setup p seat (Put m) = give setup p seat (put_form setup.kind.order) m
turn_of setup p seat (Offer m) = give setup p seat (offer_form setup.kind.order) m
turn_of setup p seat Take = take setup p seat waiting
turn_of setup p seat Poll = take setup p seat immediate
turn_of setup p seat (TransferItem m) = give setup p seat waiting m
turn_of setup p seat (Try m) = give setup p seat immediate m
turn_of setup p seat Follow = follow setup p seat (p.seats.holds seat)
turn_of setup p seat Cancel = withdraw setup p seat Cancelled (p.seats.holds seat)
turn_of setup p seat Expire = withdraw setup p seat Expired (p.seats.holds seat)
turn_of setup p seat (InterruptSeat target) = interrupt setup p seat target
turn_of setup p seat (Drain most) = drain setup p seat (min most (count_on Giver p.seats.line))
turn_of setup p seat (Look probe) = silent p seat (seen setup p probe)
turn_of setup p seat Checkpoint = checkpoint setup p seat

-- one call's turn
abbrev pub turn : Setup → Place → Call → Turn
turn setup p call = turn_of setup p call.seat call.verb

-- the turns of a list of calls
abbrev pub turns : Setup → Place → List Call → Turn
turns setup p [] = record { replies = []; records = []; place = p }
turns setup p (call ∷ calls) = joined (turn setup p call) (λ q. turns setup q calls)

-- the replies to the calls of one thread
abbrev pub replies : Setup → List Call → List Reply
replies setup calls = (turns setup (start setup) calls).replies

-- the records of the calls of one thread, those that were folded away included
abbrev pub records : Setup → List Call → List (Record Deed)
records setup calls = (turns setup (start setup) calls).records

-- the numbers of tickets that wait in the line, that were met or cut and not collected, and of items that are kept,
-- where a place has so many seats
abbrev pub standing_at : (seats : ℕ) → Seats ℕ → Standing
standing_at count s = record {
  waiting = waiting_count s.line;
  uncollected = settled_of count s.holds;
  kept = kept_count s.line;
}

-- the same of a place
abbrev pub standing_of : Setup → Place → Standing
standing_of setup p = standing_at setup.seats p.seats
