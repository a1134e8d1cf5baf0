-- What a queue's split calls leave in a seat's list, and what they answer: the words of SynchronousQueue and
-- LinkedTransferQueue, each call one record of its own form (our choice).
use Rattle.std.specs.Prelude.{◌≡◌, ℕ, ◌<◌, ⊤, Option, Some, None, option_map, [], ◌∷◌, if◌then◌else◌}
use Rattle.meet_tickets.specs.declared.places.Kind.{Kind}
use Rattle.meet_tickets.specs.declared.places.Side.TheVariants.{Giver, Taker}
use Rattle.meet_tickets.specs.Meeting.{keeps}
use Rattle.meet_tickets.specs.declared.records.Cause.{Cause}
use Rattle.meet_tickets.specs.declared.records.Cause.TheVariants.{Cancelled, Expired, Interrupted as ByInterrupt}
use Rattle.meet_tickets.specs.declared.records.Deed.{Deed}
use Rattle.meet_tickets.specs.declared.records.Deed.TheVariants.{GiveWaits, GiveMeets, GiveFails, GiveKept}
use Rattle.meet_tickets.specs.declared.records.Deed.TheVariants.{TakeWaits, TakeMeets}
use Rattle.meet_tickets.specs.declared.records.Deed.TheVariants.{TakeFails, EntryInterrupted as RefusedAtEntry}
use Rattle.meet_tickets.specs.declared.records.Deed.TheVariants.{Done as DoneDeed, Got as GotDeed}
use Rattle.meet_tickets.specs.declared.records.Deed.TheVariants.{Withdrawn as WithdrawnDeed, Interrupt}
use Rattle.meet_tickets.specs.declared.refusals.Refusal.{Refusal}
use Rattle.meet_core.specs.declared.answers.Put.TheVariants.{Kept as PutKept, Meets as PutMeets, Fails as PutFails}
use Rattle.meet_core.specs.declared.answers.Gave.TheVariants.{Waits as GiverWaits, Meets as GiverMeets}
use Rattle.meet_core.specs.declared.answers.Gave.TheVariants.{EntryInterrupted as GiverInterrupted}
use Rattle.meet_core.specs.declared.answers.Offered.TheVariants.{Meets as OfferMeets, Fails as OfferFails}
use Rattle.meet_core.specs.declared.answers.Took.TheVariants.{Waits as TakerWaits, Meets as TakerMeets}
use Rattle.meet_core.specs.declared.answers.Took.TheVariants.{EntryInterrupted as TakerInterrupted}
use Rattle.meet_core.specs.declared.answers.Polled.TheVariants.{Meets as PollMeets, Fails as PollFails}
use Rattle.meet_core.specs.declared.answers.Followed.TheVariants.{NotYet as StandsYet}
use Rattle.meet_core.specs.declared.answers.TakenBack.TheVariants.{Late as CameLate}
use Rattle.meet_core.specs.declared.calls.queue_calls.QueueCall.{QueueCall}
use Rattle.meet_core.specs.declared.calls.queue_calls.QueueCall.TheVariants.{Put as PutCall, Give as GiveCall}
use Rattle.meet_core.specs.declared.calls.queue_calls.QueueCall.TheVariants.{Offer as OfferCall, Take as TakeCall}
use Rattle.meet_core.specs.declared.calls.queue_calls.QueueCall.TheVariants.{Poll as PollCall}
use Rattle.meet_core.specs.declared.calls.queue_calls.QueueCall.TheVariants.{FollowUp as FollowUpCall}
use Rattle.meet_core.specs.declared.calls.queue_calls.QueueCall.TheVariants.{Cancel as CancelCall, Expire as ExpireCall}
use Rattle.meet_core.specs.declared.calls.queue_calls.QueueAnswer.{QueueAnswer}
use Rattle.meet_core.specs.declared.calls.queue_calls.QueueAnswer.TheVariants.{Put as ToPut, Gave as ToGive}
use Rattle.meet_core.specs.declared.calls.queue_calls.QueueAnswer.TheVariants.{Offered as ToOffer, Took as ToTake}
use Rattle.meet_core.specs.declared.calls.queue_calls.QueueAnswer.TheVariants.{Polled as ToPoll}
use Rattle.meet_core.specs.declared.calls.queue_calls.QueueAnswer.TheVariants.{Followed as ToFollowUp}
use Rattle.meet_core.specs.declared.calls.queue_calls.QueueAnswer.TheVariants.{TakenBack as ToTakeBack}
use Rattle.meet_core.specs.QueueRecords.{made}
use Rattle.meet_place.specs.Seats.{SeatView, PendingView, Adds, SameSeat, ParksSeat, FreesSeat}
use Rattle.meet_sync.specs.declared.queue.Ending.{Ending}
use Rattle.meet_sync.specs.declared.queue.Ending.TheVariants.{FollowUp as ToFollow, Cancel as ToCancel}
use Rattle.meet_sync.specs.declared.queue.Ending.TheVariants.{Expire as ToExpire}
use Rattle.meet_sync.specs.declared.asked.Request.{Request}
use Rattle.meet_sync.specs.declared.asked.Request.TheVariants.{Put, Give, Offer, Take, Poll}
use Rattle.meet_sync.specs.declared.asked.Answer.{Answer}
use Rattle.meet_sync.specs.declared.asked.Answer.TheVariants.{Gave, Got, Failed, Kept, EntryInterrupted}
use Rattle.meet_sync.specs.declared.asked.Asked.{Asked}
use Rattle.meet_sync.specs.declared.asked.Asked.TheVariants.{Settled, Parked}
use Rattle.meet_sync.specs.declared.asked.Followed.{Followed}
use Rattle.meet_sync.specs.declared.asked.Followed.TheVariants.{Done, Got as HasGot, Interrupted as WasCut, NotYet}
use Rattle.meet_sync.specs.declared.asked.TakenBack.{TakenBack}
use Rattle.meet_sync.specs.declared.asked.TakenBack.TheVariants.{Back, Late}
use Rattle.meet_sync.specs.declared.asked.SeatRefused.{SeatRefused}
use Rattle.meet_sync.specs.declared.asked.Interrupted.{Interrupted}
use Rattle.meet_sync.specs.declared.asked.Interrupted.TheVariants.{Cut, Flagged}
use Rattle.meet_sync.specs.Told.{LookedAt}

module _ {T : Type 0} where
  -- the item that a request brings
  abbrev pub item_of : Request T → Option T
  item_of (Put item) = Some item
  item_of (Give item) = Some item
  item_of (Offer item) = Some item
  item_of Take = None
  item_of Poll = None

  -- its mark
  abbrev pub brought : (T → ℕ) → Request T → Option ℕ
  brought mark request = option_map mark (item_of request)

  -- the call that makes a request
  abbrev pub call_of : Request T → QueueCall T
  call_of (Put item) = PutCall item
  call_of (Give item) = GiveCall item
  call_of (Offer item) = OfferCall item
  call_of Take = TakeCall
  call_of Poll = PollCall

  -- the call that takes a ticket back for this cause
  abbrev pub taking_back : Cause → (ticket : ℕ) → QueueCall T
  taking_back Expired t = ExpireCall t
  taking_back cause t = CancelCall t

  -- the deed of a request that was settled so in a queue of this kind; none where it can't be. A put is kept or, with a
  -- bound, fails, where the queue keeps items (LinkedTransferQueue.put); else it is a give (SynchronousQueue.put)
  abbrev pub settled_deed : Kind → (T → ℕ) → Request T → Answer T → Option Deed
  settled_deed k mark (Put item) (Gave u) = Some (GiveMeets (mark item) u)
  settled_deed k mark (Put item) Kept = if keeps k.order then Some (GiveKept (mark item)) else None
  settled_deed k mark (Put item) (Failed back) = option_map (λ most. GiveFails (mark item)) k.bound
  settled_deed k mark (Put item) (EntryInterrupted back) = if keeps k.order then None else Some (RefusedAtEntry Giver)
  settled_deed k mark (Give item) (Gave u) = Some (GiveMeets (mark item) u)
  settled_deed k mark (Give item) (EntryInterrupted back) = Some (RefusedAtEntry Giver)
  settled_deed k mark (Offer item) (Gave u) = Some (GiveMeets (mark item) u)
  settled_deed k mark (Offer item) (Failed back) = Some (GiveFails (mark item))
  settled_deed k mark Take (Got u item) = Some (TakeMeets (mark item) u)
  settled_deed k mark Take (EntryInterrupted back) = Some (RefusedAtEntry Taker)
  settled_deed k mark Poll (Got u item) = Some (TakeMeets (mark item) u)
  settled_deed k mark Poll (Failed back) = Some TakeFails
  settled_deed k mark request answer = None

  -- the deed of a request that waits; none where it never does
  abbrev pub waiting_deed : Kind → (T → ℕ) → Request T → Option Deed
  waiting_deed k mark (Put item) = if keeps k.order then None else Some (GiveWaits (mark item))
  waiting_deed k mark (Give item) = Some (GiveWaits (mark item))
  waiting_deed k mark Take = Some TakeWaits
  waiting_deed k mark request = None

  -- what an answer hands back is the item itself that the request brought
  abbrev pub HandsBack : Request T → Answer T → Type 0
  HandsBack request (Failed back) = back ≡ item_of request
  HandsBack request (EntryInterrupted back) = back ≡ item_of request
  HandsBack request answer = ⊤

  -- one receipt, of the deed of this request and this answer, came to the list's end
  abbrev pub SettledAs : Kind → (T → ℕ) → (old new : SeatView Deed) → Request T → Answer T → Type 0
  SettledAs k mark old new request answer = HandsBack request answer
      × ((ticket : ℕ) × (deed : Deed) × (settled_deed k mark request answer ≡ Some deed)
      × Adds old.list new.list (made old.number ticket deed ∷ []))

  -- the queue's answer is to a request
  abbrev pub IsToRequest : QueueAnswer T → Type 0
  IsToRequest (ToPut answer) = ⊤
  IsToRequest (ToGive answer) = ⊤
  IsToRequest (ToOffer answer) = ⊤
  IsToRequest (ToTake answer) = ⊤
  IsToRequest (ToPoll answer) = ⊤
  IsToRequest answer = ⊥

  -- what the user is told of a request that the queue answered so; none where it waits
  abbrev pub told : QueueAnswer T → Option (Answer T)
  told (ToPut (PutKept t)) = Some Kept
  told (ToPut (PutMeets t u)) = Some (Gave u)
  told (ToPut (PutFails t item)) = Some (Failed (Some item))
  told (ToGive (GiverMeets t u)) = Some (Gave u)
  told (ToGive (GiverInterrupted t item)) = Some (EntryInterrupted (Some item))
  told (ToOffer (OfferMeets t u)) = Some (Gave u)
  told (ToOffer (OfferFails t item)) = Some (Failed (Some item))
  told (ToTake (TakerMeets t u item)) = Some (Got u item)
  told (ToTake (TakerInterrupted t)) = Some (EntryInterrupted None)
  told (ToPoll (PollMeets t u item)) = Some (Got u item)
  told (ToPoll (PollFails t)) = Some (Failed None)
  told answer = None

  -- the ticket of a request that waits
  abbrev pub waiting_ticket : QueueAnswer T → Option ℕ
  waiting_ticket (ToGive (GiverWaits t)) = Some t
  waiting_ticket (ToTake (TakerWaits t)) = Some t
  waiting_ticket answer = None

module _ {T N : Type 0} where
  -- what a seat is told by the queue's answer to its request: settled, or parked with the mark of its item
  abbrev pub AnsweredBy : SeatView Deed → (mark : Option ℕ) → QueueAnswer T → Asked T N → Type 0
  AnsweredBy seat mark answer (Settled after settled) = (after ≡ seat) × (told answer ≡ Some settled)
  AnsweredBy seat mark answer (Parked p) = (waiting_ticket answer ≡ Some p.ticket) × (p ≡ record {
    number = seat.number;
    past = seat.past;
    moment = seat.moment;
    list = seat.list;
    ticket = p.ticket;
    mark = mark;
  })

  -- a request left one receipt of its own form, and its answer is that receipt's; where it waits, its ticket is open,
  -- and the mark of its item is kept
  abbrev pub AskedAs : Kind → (T → ℕ) → SeatView Deed → Request T → Asked T N → Type 0
  AskedAs k mark seat request (Settled after answer) =
      SameSeat seat after × SettledAs k mark seat after request answer
  AskedAs k mark seat request (Parked p) = ParksSeat seat p × (p.mark ≡ brought mark request)
      × ((deed : Deed) × (waiting_deed k mark request ≡ Some deed)
      × Adds seat.list p.list (made seat.number p.ticket deed ∷ []))

  -- a call of this seat was refused for such a reason: the seat comes back, with its receipts as they were, and so does
  -- the item that was brought
  abbrev pub RefusedAs : (Refusal → Type 0) → SeatView Deed → Option T → SeatRefused T N → Type 0
  RefusedAs IsReason seat item refused = SameSeat seat refused.seat × (refused.seat.list ≡ seat.list)
      × (refused.item ≡ item) × IsReason refused.why

  -- a follow-up ended the ticket with one receipt, whose deed is its answer's, and what comes back has the mark that
  -- the request brought; or nothing was written, and the ticket stands in a queue that isn't older than the seat's moment
  abbrev pub FollowedAs : Kind → (T → ℕ) → PendingView Deed → Followed T N → Type 0
  FollowedAs k mark p (Done s) = FreesSeat p s × Adds p.list s.list (made p.number p.ticket DoneDeed ∷ [])
  FollowedAs k mark p (HasGot s u item) =
      FreesSeat p s × Adds p.list s.list (made p.number p.ticket (GotDeed (mark item) u) ∷ [])
  FollowedAs k mark p (WasCut s back) = FreesSeat p s × (option_map mark back ≡ p.mark)
      × Adds p.list s.list (made p.number p.ticket (WithdrawnDeed ByInterrupt) ∷ [])
  FollowedAs k mark p (NotYet q) = (q ≡ p)
      × LookedAt k mark p.moment p.number p.ticket p.mark (FollowUpCall p.ticket) (ToFollowUp StandsYet)

  -- the ticket was withdrawn for this cause, with one receipt, and what comes back has the mark that the request
  -- brought; or nothing was written, and it was too late in a queue that isn't older than the seat's moment
  abbrev pub TakenBackAs : Kind → (T → ℕ) → PendingView Deed → Cause → TakenBack T N → Type 0
  TakenBackAs k mark p cause (Back s back) = FreesSeat p s × (option_map mark back ≡ p.mark)
      × Adds p.list s.list (made p.number p.ticket (WithdrawnDeed cause) ∷ [])
  TakenBackAs k mark p cause (Late q) = (q ≡ p)
      × LookedAt k mark p.moment p.number p.ticket p.mark (taking_back cause p.ticket) (ToTakeBack CameLate)

  -- by this ending, which is no follow-up
  abbrev pub TakenBackBy : Kind → (T → ℕ) → PendingView Deed → Ending → TakenBack T N → Type 0
  TakenBackBy k mark p ToFollow result = ⊥
  TakenBackBy k mark p ToCancel result = TakenBackAs k mark p Cancelled result
  TakenBackBy k mark p ToExpire result = TakenBackAs k mark p Expired result

module _ {N : Type 0} where
  -- an interrupt left one receipt, with its target and the ticket that it cut, a number above 0, or 0 where it cut none
  abbrev pub InterruptedAs : SeatView Deed → (target : ℕ) → Interrupted N → Type 0
  InterruptedAs seat target (Cut s t) =
      SameSeat seat s × (0 < t) × Adds seat.list s.list (made seat.number t (Interrupt target) ∷ [])
  InterruptedAs seat target (Flagged s) =
      SameSeat seat s × Adds seat.list s.list (made seat.number 0 (Interrupt target) ∷ [])
