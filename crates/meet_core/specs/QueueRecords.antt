-- The records of a queue's calls. Items are named by their marks.
use Rattle.std.specs.Prelude.{ℕ, Option, Some, None}
use Rattle.meet_tickets.specs.declared.places.Side.TheVariants.{Giver, Taker}
use Rattle.meet_tickets.specs.declared.records.Record.{Record}
use Rattle.meet_tickets.specs.declared.records.Cause.{Cause}
use Rattle.meet_tickets.specs.declared.records.Cause.TheVariants.{Cancelled, Expired, Interrupted}
use Rattle.meet_tickets.specs.declared.records.Deed.{Deed}
use Rattle.meet_tickets.specs.declared.records.Deed.TheVariants.{GiveWaits, GiveMeets, GiveFails, GiveKept}
use Rattle.meet_tickets.specs.declared.records.Deed.TheVariants.{TakeWaits, TakeMeets, TakeFails, EntryInterrupted}
use Rattle.meet_tickets.specs.declared.records.Deed.TheVariants.{Done, Got, Withdrawn, Interrupt}
use Rattle.meet_core.specs.declared.answers.Gave.{Gave}
use Rattle.meet_core.specs.declared.answers.Gave.TheVariants.{Waits as GiverWaits, Meets as GiverMeets}
use Rattle.meet_core.specs.declared.answers.Gave.TheVariants.{EntryInterrupted as GiverInterrupted}
use Rattle.meet_core.specs.declared.answers.Put.{Put as PutAnswer}
use Rattle.meet_core.specs.declared.answers.Put.TheVariants.{Kept, Meets, Fails}
use Rattle.meet_core.specs.declared.answers.Took.{Took}
use Rattle.meet_core.specs.declared.answers.Took.TheVariants.{Waits as TakerWaits, Meets as TakerMeets}
use Rattle.meet_core.specs.declared.answers.Took.TheVariants.{EntryInterrupted as TakerInterrupted}
use Rattle.meet_core.specs.declared.answers.Offered.{Offered}
use Rattle.meet_core.specs.declared.answers.Offered.TheVariants.{Meets as OfferMeets, Fails as OfferFails}
use Rattle.meet_core.specs.declared.answers.Polled.{Polled}
use Rattle.meet_core.specs.declared.answers.Polled.TheVariants.{Meets as PollMeets, Fails as PollFails}
use Rattle.meet_core.specs.declared.answers.Followed.{Followed}
use Rattle.meet_core.specs.declared.answers.Followed.TheVariants.{Done as WasMet, Got as HasGot}
use Rattle.meet_core.specs.declared.answers.Followed.TheVariants.{Interrupted as WasCut, NotYet}
use Rattle.meet_core.specs.declared.answers.TakenBack.{TakenBack}
use Rattle.meet_core.specs.declared.answers.TakenBack.TheVariants.{Back, Late}
use Rattle.meet_core.specs.declared.answers.Interrupted.{Interrupted as WasInterrupted}
use Rattle.meet_core.specs.declared.answers.Interrupted.TheVariants.{Cut as CutOff, Flagged}
use Rattle.meet_core.specs.declared.calls.queue_calls.QueueCall.{QueueCall}
use Rattle.meet_core.specs.declared.calls.queue_calls.QueueCall.TheVariants.{Put, Give, Offer, Take, Poll, FollowUp}
use Rattle.meet_core.specs.declared.calls.queue_calls.QueueCall.TheVariants.{Cancel, Expire, Interrupt as InterruptSeat}
use Rattle.meet_core.specs.declared.calls.queue_calls.QueueAnswer.{QueueAnswer}
use Rattle.meet_core.specs.declared.calls.queue_calls.QueueAnswer.TheVariants.{Put as ToPut, Gave as ToGive}
use Rattle.meet_core.specs.declared.calls.queue_calls.QueueAnswer.TheVariants.{Offered as ToOffer}
use Rattle.meet_core.specs.declared.calls.queue_calls.QueueAnswer.TheVariants.{Took as ToTake, Polled as ToPoll}
use Rattle.meet_core.specs.declared.calls.queue_calls.QueueAnswer.TheVariants.{Followed as ToFollowUp}
use Rattle.meet_core.specs.declared.calls.queue_calls.QueueAnswer.TheVariants.{TakenBack as ToWithdrawal}
use Rattle.meet_core.specs.declared.calls.queue_calls.QueueAnswer.TheVariants.{Interrupted as ToInterrupt}

-- a seat's record
abbrev pub made : (seat ticket : ℕ) → Deed → Record Deed
made i t deed = record { seat = i; ticket = t; deed = deed }

-- a give that waits, meets or is refused at entry
abbrev pub give_record : {T : Type 0} → (seat mark : ℕ) → Gave T → Record Deed
give_record i m (GiverWaits t) = made i t (GiveWaits m)
give_record i m (GiverMeets t u) = made i t (GiveMeets m u)
give_record i m (GiverInterrupted t back) = made i t (EntryInterrupted Giver)

-- a put that is kept, meets or fails
abbrev pub put_record : {T : Type 0} → (seat mark : ℕ) → PutAnswer T → Record Deed
put_record i m (Kept t) = made i t (GiveKept m)
put_record i m (Meets t u) = made i t (GiveMeets m u)
put_record i m (Fails t back) = made i t (GiveFails m)

-- an offer that meets or fails
abbrev pub offer_record : {T : Type 0} → (seat mark : ℕ) → Offered T → Record Deed
offer_record i m (OfferMeets t u) = made i t (GiveMeets m u)
offer_record i m (OfferFails t back) = made i t (GiveFails m)

-- a take that waits, meets or is refused at entry
abbrev pub take_record : {T : Type 0} → (T → ℕ) → (seat : ℕ) → Took T → Record Deed
take_record mark i (TakerWaits t) = made i t TakeWaits
take_record mark i (TakerMeets t u item) = made i t (TakeMeets (mark item) u)
take_record mark i (TakerInterrupted t) = made i t (EntryInterrupted Taker)

-- a poll that meets or fails
abbrev pub poll_record : {T : Type 0} → (T → ℕ) → (seat : ℕ) → Polled T → Record Deed
poll_record mark i (PollMeets t u item) = made i t (TakeMeets (mark item) u)
poll_record mark i (PollFails t) = made i t TakeFails

-- the record of a follow-up; none where the ticket still stands in the line
abbrev pub follow_record : {T : Type 0} → (T → ℕ) → (seat ticket : ℕ) → Followed T → Option (Record Deed)
follow_record mark i t WasMet = Some (made i t Done)
follow_record mark i t (HasGot u item) = Some (made i t (Got (mark item) u))
follow_record mark i t (WasCut item) = Some (made i t (Withdrawn Interrupted))
follow_record mark i t NotYet = None

-- the record of a cancel or an expiry; none where it came too late
abbrev pub back_record : {T : Type 0} → (seat ticket : ℕ) → Cause → TakenBack T → Option (Record Deed)
back_record i t cause (Back item) = Some (made i t (Withdrawn cause))
back_record i t cause Late = None

-- an interrupt names the ticket that it cuts, and else 0
abbrev pub interrupt_record : (seat target : ℕ) → WasInterrupted → Record Deed
interrupt_record i j (CutOff t) = made i t (Interrupt j)
interrupt_record i j Flagged = made i 0 (Interrupt j)

-- the record of a call that was answered so; none where the answer is to another call
abbrev pub queue_record : {T : Type 0} → (T → ℕ) → (seat : ℕ) → QueueCall T → QueueAnswer T → Option (Record Deed)
queue_record mark i (Put item) (ToPut answer) = Some (put_record i (mark item) answer)
queue_record mark i (Put item) (ToGive answer) = Some (give_record i (mark item) answer)
queue_record mark i (Give item) (ToGive answer) = Some (give_record i (mark item) answer)
queue_record mark i (Offer item) (ToOffer answer) = Some (offer_record i (mark item) answer)
queue_record mark i Take (ToTake answer) = Some (take_record mark i answer)
queue_record mark i Poll (ToPoll answer) = Some (poll_record mark i answer)
queue_record mark i (FollowUp t) (ToFollowUp answer) = follow_record mark i t answer
queue_record mark i (Cancel t) (ToWithdrawal answer) = back_record i t Cancelled answer
queue_record mark i (Expire t) (ToWithdrawal answer) = back_record i t Expired answer
queue_record mark i (InterruptSeat j) (ToInterrupt answer) = Some (interrupt_record i j answer)
queue_record mark i call answer = None
