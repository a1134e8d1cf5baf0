-- What a judge sees of a round: which call an act begins, what a call answered, and which calls are over.
use Rattle.std.specs.Prelude.{ℕ, ◌==◌, nat_lt, Option, Some, None, List, [], ◌∷◌, if◌then◌else◌}
use Rattle.meet_tickets.specs.declared.places.Order.{Order}
use Rattle.meet_tickets.specs.Limits.{most_seats}
use Rattle.meet_tickets.specs.Meeting.{keeps}
use Rattle.meet_overlap.specs.declared.calls.Answer.{Answer}
use Rattle.meet_overlap.specs.declared.calls.Answer.TheVariants.{Went, Got, Nothing, Expired, Interrupted, Made}
use Rattle.meet_overlap.specs.declared.calls.Call.{Call}
use Rattle.meet_overlap.specs.declared.calls.Patience.{Patience}
use Rattle.meet_overlap.specs.declared.calls.Patience.TheVariants.{Now, Forever, Timed}
use Rattle.meet_overlap.specs.declared.calls.Verb.{Verb}
use Rattle.meet_overlap.specs.declared.calls.Verb.TheVariants.{Keep, Give, Take, Interrupt}
use Rattle.meet_shop.specs.declared.asks.Ask.{Ask}
use Rattle.meet_shop.specs.declared.asks.Ask.TheVariants.{Give as AskGive, Put as AskPut, Offer as AskOffer}
use Rattle.meet_shop.specs.declared.asks.Ask.TheVariants.{Take as AskTake, Poll as AskPoll, Follow, Cancel, Expire}
use Rattle.meet_shop.specs.declared.asks.Ask.TheVariants.{Interrupt as AskInterrupt}
use Rattle.meet_shop.specs.declared.asks.Told.{Told}
use Rattle.meet_shop.specs.declared.asks.Told.TheVariants.{Parks, Kept, Gave, Got as GotItem, Failed, Stopped, Done}
use Rattle.meet_shop.specs.declared.asks.Told.TheVariants.{WasCut, TimedOut, NotYet, Back, Late, Cut, Flagged, Refused}
use Rattle.meet_shop.specs.declared.asks.Told.TheVariants.{Unasked}
use Rattle.meet_shop.specs.declared.calls.Call.{Call as WholeCall}
use Rattle.meet_shop.specs.declared.calls.Call.TheVariants.{Put, Offer, OfferFor, Transfer, TryTransfer, TransferFor}
use Rattle.meet_shop.specs.declared.calls.Call.TheVariants.{Take as TakeWhole, Poll, PollFor}
use Rattle.soak.specs.declared.queues.work.Act.{Act}
use Rattle.soak.specs.declared.queues.work.Act.TheVariants.{Whole, Part, Drain, Fold, Trim}

-- a call with a limit of 0 milliseconds doesn't wait
unfoldable pub patience_of : (limit : ℕ) → Patience
patience_of limit = if limit == 0 then Now else Timed

-- a put or an offer; a transfer queue keeps the item
unfoldable pub offering : Order → Patience → (item : ℕ) → Verb
offering o patience item = if keeps o then Keep item else Give patience item

-- a transfer, which a synchronous queue doesn't have
unfoldable pub transferring : Order → Patience → (item : ℕ) → Option Verb
transferring o patience item = if keeps o then Some (Give patience item) else None

-- what a whole call is
unfoldable pub verb_of_whole : Order → WholeCall → Option Verb
verb_of_whole o (Put item) = Some (offering o Forever item)
verb_of_whole o (Offer item) = Some (offering o Now item)
verb_of_whole o (OfferFor item limit) = Some (offering o (patience_of limit) item)
verb_of_whole o (Transfer item) = transferring o Forever item
verb_of_whole o (TryTransfer item) = transferring o Now item
verb_of_whole o (TransferFor item limit) = transferring o (patience_of limit) item
verb_of_whole o TakeWhole = Some (Take Forever)
verb_of_whole o Poll = Some (Take Now)
verb_of_whole o (PollFor limit) = Some (Take (patience_of limit))

-- what a part of a call begins: a request that its seat may take back is a call with a limit
unfoldable pub verb_of_part : Order → Ask → Option Verb
verb_of_part o (AskGive item) = Some (Give Timed item)
verb_of_part o (AskPut item) = Some (offering o Timed item)
verb_of_part o (AskOffer item) = Some (Give Now item)
verb_of_part o AskTake = Some (Take Timed)
verb_of_part o AskPoll = Some (Take Now)
verb_of_part o Follow = None
verb_of_part o Cancel = None
verb_of_part o Expire = None
verb_of_part o (AskInterrupt target) = if nat_lt target most_seats then Some (Interrupt target) else None

-- what an act begins; drains, checkpoints and trims are no calls
unfoldable pub verb_of_act : Order → Act → Option Verb
verb_of_act o (Whole call) = verb_of_whole o call
verb_of_act o (Part ask) = verb_of_part o ask
verb_of_act o (Drain max) = None
verb_of_act o Fold = None
verb_of_act o Trim = None

-- what a call answered that was told this; nothing if it goes on, or never was a call
unfoldable pub answer_of : Told → Option Answer
answer_of (Parks ticket) = None
answer_of Kept = Some Went
answer_of (Gave ticket) = Some Went
answer_of (GotItem ticket item) = Some (Got item)
answer_of (Failed back) = Some Nothing
answer_of (Stopped back) = Some Interrupted
answer_of Done = Some Went
answer_of (WasCut back) = Some Interrupted
answer_of (TimedOut back) = Some Expired
answer_of NotYet = None
answer_of (Back back) = Some Expired
answer_of Late = None
answer_of (Cut ticket) = Some Made
answer_of Flagged = Some Made
answer_of (Refused why back) = None
answer_of Unasked = None

-- a call of a seat that began at this stamp, and goes on
abbrev pub call_from : (seat begin : ℕ) → Verb → Call
call_from seat begin verb =
    record { seat = seat; begin = begin; waits = None; returned = None; verb = verb }

-- when a call began
abbrev pub begin_of : Call → ℕ
begin_of call = call.begin

-- the call that still goes on once a seat was told this by it
unfoldable pub open_after : Option Call → Option Answer → Option Call
open_after call None = call
open_after call (Some answer) = None

-- the call that is over then, at this stamp
unfoldable pub over_after : Option Call → (end : ℕ) → Option Answer → List Call
over_after None end answer = []
over_after (Some call) end None = []
over_after (Some call) end (Some answer) = record {
  seat = call.seat;
  begin = call.begin;
  waits = call.waits;
  returned = Some (record { at = end; answer = answer });
  verb = call.verb;
} ∷ []

-- a call that goes on, as one that never ends
unfoldable pub never_ending : Option Call → List Call
never_ending None = []
never_ending (Some call) = call ∷ []
