-- Room in the line changes no call of a queue, and a record is of the seat that called.
use Rattle.std.proofs.Common.{◌≡◌, refl, sym, ap, ◌∙◌, ℕ, zero, suc, ◌+◌, ◌<◌, cond, List, [], arith}
use Rattle.std.specs.Prelude.{count_by, MatchOption, ⊤}
use Rattle.std.specs.List.{range_with_len}
use Rattle.std.proofs.Math.Path.{ap₂}
use Rattle.std.proofs.lemmas.List.Sums.{sum_by-cons}
use Rattle.meet_tickets.specs.declared.lines.Hold.{Hold}
use Rattle.meet_tickets.specs.declared.lines.Hold.TheVariants.{Free, Waiting, Handed, Served, Cut}
use Rattle.meet_tickets.specs.declared.places.End.{End}
use Rattle.meet_tickets.specs.declared.places.Kind.{Kind}
use Rattle.meet_tickets.specs.declared.records.Record.{Record}
use Rattle.meet_tickets.specs.declared.records.Deed.{Deed}
use Rattle.meet_core.specs.Queue.{Queue, seats_of, count_of}
use Rattle.meet_core.specs.Steps.{Uses, HandsTo, GetsFrom}
use Rattle.meet_tickets.specs.BySeat.{Seats, is_open}
use Rattle.meet_core.specs.declared.answers.Gave.TheVariants.{Waits as GiverWaits, Meets as GiverMeets}
use Rattle.meet_core.specs.declared.answers.Gave.TheVariants.{EntryInterrupted as GiverInterrupted}
use Rattle.meet_core.specs.declared.answers.Put.TheVariants.{Kept, Meets as PutMeets, Fails as PutFails}
use Rattle.meet_core.specs.declared.answers.Took.TheVariants.{Waits as TakerWaits, Meets as TakerMeets}
use Rattle.meet_core.specs.declared.answers.Took.TheVariants.{EntryInterrupted as TakerInterrupted}
use Rattle.meet_core.specs.declared.answers.Offered.TheVariants.{Meets as OfferMeets, Fails as OfferFails}
use Rattle.meet_core.specs.declared.answers.Polled.TheVariants.{Meets as PollMeets, Fails as PollFails}
use Rattle.meet_core.specs.declared.answers.Followed.TheVariants.{Done, Got, Interrupted as WasCut, NotYet}
use Rattle.meet_core.specs.declared.answers.TakenBack.TheVariants.{Back, Late}
use Rattle.meet_core.specs.declared.answers.Interrupted.TheVariants.{Cut as CutOff, Flagged}
use Rattle.meet_core.specs.declared.calls.queue_calls.QueueCall.{QueueCall}
use Rattle.meet_core.specs.declared.calls.queue_calls.QueueCall.TheVariants.{Put, Give, Offer, Take, Poll, FollowUp}
use Rattle.meet_core.specs.declared.calls.queue_calls.QueueCall.TheVariants.{Cancel, Expire, Interrupt}
use Rattle.meet_core.specs.declared.calls.queue_calls.QueueAnswer.{QueueAnswer}
use Rattle.meet_core.specs.declared.calls.queue_calls.QueueAnswer.TheVariants.{Put as ToPut, Gave as ToGive}
use Rattle.meet_core.specs.declared.calls.queue_calls.QueueAnswer.TheVariants.{Offered as ToOffer}
use Rattle.meet_core.specs.declared.calls.queue_calls.QueueAnswer.TheVariants.{Took as ToTake, Polled as ToPoll}
use Rattle.meet_core.specs.declared.calls.queue_calls.QueueAnswer.TheVariants.{Followed as ToFollowUp}
use Rattle.meet_core.specs.declared.calls.queue_calls.QueueAnswer.TheVariants.{TakenBack as ToWithdrawal}
use Rattle.meet_core.specs.declared.calls.queue_calls.QueueAnswer.TheVariants.{Interrupted as ToInterrupt}
use Rattle.meet_core.specs.QueueRecords.{queue_record}
use Rattle.meet_tickets.specs.Bases.{Based, no_base}
use Rattle.meet_tickets.specs.Meeting.{end_of}
use Rattle.meet_core.specs.Seen.{marked_hold}
use Rattle.meet_core.specs.QueueSteps.{DualStep, QueueStep, queue_refusal, queue_need, queue_room, queue_owed, LeadsTo}

-- the same queue with this room
abbrev pub roomy : {T : Type 0} → Queue T → ℕ → Queue T
roomy q room = record q { room = room }

pub roomy-refusal : {T : Type 0} (q : Queue T) (room seat : ℕ) (call : QueueCall T)
    → queue_refusal (roomy q room) seat call ≡ queue_refusal q seat call
roomy-refusal q room seat (Put item) = refl
roomy-refusal q room seat (Give item) = refl
roomy-refusal q room seat (Offer item) = refl
roomy-refusal q room seat Take = refl
roomy-refusal q room seat Poll = refl
roomy-refusal q room seat (FollowUp t) = refl
roomy-refusal q room seat (Cancel t) = refl
roomy-refusal q room seat (Expire t) = refl
roomy-refusal q room seat (Interrupt j) = refl

pub roomy-leads : {T : Type 0} (mark : T → ℕ) (k : Kind) (q : Queue T) (room : ℕ) (b : Based)
    (records : List (Record Deed)) → LeadsTo mark k b records q → LeadsTo mark k b records (roomy q room)
roomy-leads mark k q room b records l =
    record { well_formed = l.well_formed; legal = l.legal; last = l.last; next = l.next; leaves = l.leaves }

-- a request's step
pub roomy-uses : {T : Type 0} (q : Queue T) (room : ℕ) (new : Queue T) (t : ℕ) (seats : Seats T)
    → Uses (roomy q room) new t seats → Uses q new t seats
roomy-uses q room new t seats uses =
    record { used = uses.used; last = uses.last; next = uses.next; count = uses.count; seats_are = uses.seats_are }

pub roomy-hands : {T : Type 0} (mark : T → ℕ) (end : End) (q : Queue T) (room : ℕ) (item : T) (t u : ℕ)
    (new : Queue T) → HandsTo mark end (roomy q room) item t u new → HandsTo mark end q item t u new
roomy-hands mark end q room item t u new (e, found, ticket, none, uses) =
    (e, found, ticket, none, roomy-uses q room new t _ uses)

roomy-gets : {T : Type 0} (mark : T → ℕ) (end : End) (q : Queue T) (room : ℕ) (t u : ℕ) (item : T) (new : Queue T)
    → GetsFrom mark end (roomy q room) t u item new → GetsFrom mark end q t u item new
roomy-gets mark end q room t u item new (e, found, ticket, own, uses) =
    (e, found, ticket, own, roomy-uses q room new t _ uses)

pub roomy-steps : {T : Type 0} (mark : T → ℕ) (end : End) (q : Queue T) (room seat : ℕ) (call : QueueCall T)
    (answer : QueueAnswer T) (new : Queue T) → 0 < queue_room call
    → DualStep mark end (roomy q room) seat call answer new → DualStep mark end q seat call answer new
roomy-steps mark end q room seat (Put item) (ToGive (GiverWaits t)) new need (alone, flag, uses) =
    (alone, flag, roomy-uses q room new t _ uses)
roomy-steps mark end q room seat (Put item) (ToGive (GiverMeets t u)) new need step =
    roomy-hands mark end q room item t u new step
roomy-steps mark end q room seat (Put item) (ToGive (GiverInterrupted t back)) new need (alone, flag, same, uses) =
    (alone, flag, same, roomy-uses q room new t _ uses)
roomy-steps mark end q room seat (Give item) (ToGive (GiverWaits t)) new need (alone, flag, uses) =
    (alone, flag, roomy-uses q room new t _ uses)
roomy-steps mark end q room seat (Give item) (ToGive (GiverMeets t u)) new need step =
    roomy-hands mark end q room item t u new step
roomy-steps mark end q room seat (Give item) (ToGive (GiverInterrupted t back)) new need (alone, flag, same, uses) =
    (alone, flag, same, roomy-uses q room new t _ uses)
roomy-steps mark end q room seat Take (ToTake (TakerWaits t)) new need (alone, flag, uses) =
    (alone, flag, roomy-uses q room new t _ uses)
roomy-steps mark end q room seat Take (ToTake (TakerMeets t u item)) new need step =
    roomy-gets mark end q room t u item new step
roomy-steps mark end q room seat Take (ToTake (TakerInterrupted t)) new need (alone, flag, uses) =
    (alone, flag, roomy-uses q room new t _ uses)
roomy-steps mark end q room seat (Offer item) answer new need step = absurd (omega arith)
roomy-steps mark end q room seat Poll answer new need step = absurd (omega arith)
roomy-steps mark end q room seat (FollowUp t) answer new need step = absurd (omega arith)
roomy-steps mark end q room seat (Cancel t) answer new need step = absurd (omega arith)
roomy-steps mark end q room seat (Expire t) answer new need step = absurd (omega arith)
roomy-steps mark end q room seat (Interrupt j) answer new need step = absurd (omega arith)
roomy-steps mark end q room seat call answer new need step = absurd step

pub roomy-queue-steps : {T : Type 0} (mark : T → ℕ) (k : Kind) (q : Queue T) (room seat : ℕ)
    (call : QueueCall T) (answer : QueueAnswer T) (new : Queue T)
    → 0 < queue_room call → QueueStep mark k (roomy q room) seat call answer new
    → QueueStep mark k q seat call answer new
roomy-queue-steps mark k q room seat (Put item) (ToPut (Kept t)) new need (keeps, (alone, few, uses)) =
    (keeps, (alone, few, roomy-uses q room new t _ uses))
roomy-queue-steps mark k q room seat (Put item) (ToPut (PutMeets t u)) new need (keeps, step) =
    (keeps, roomy-hands mark (end_of k.order) q room item t u new step)
roomy-queue-steps mark k q room seat (Put item) (ToPut (PutFails t back)) new need
    (keeps, (alone, full, same, uses)) = (keeps, (alone, full, same, roomy-uses q room new t _ uses))
roomy-queue-steps mark k q room seat (Put item) answer new need (waits, step) =
    (waits, roomy-steps mark (end_of k.order) q room seat (Put item) answer new need step)
roomy-queue-steps mark k q room seat call answer new need step =
    roomy-steps mark (end_of k.order) q room seat call answer new need step

-- a call that needs no record needs no place in the line
pub roomless : {T : Type 0} (call : QueueCall T) → queue_need call ≡ 0 → queue_room call ≡ 0
roomless (Put item) none = absurd (omega (arith, none))
roomless (Give item) none = absurd (omega (arith, none))
roomless (Offer item) none = refl
roomless Take none = absurd (omega (arith, none))
roomless Poll none = refl
roomless (FollowUp t) none = refl
roomless (Cancel t) none = refl
roomless (Expire t) none = refl
roomless (Interrupt j) none = refl

-- what holds nothing for histories holds nothing
free-from : {T : Type 0} (mark : T → ℕ) (hold : Hold T) → marked_hold mark hold ≡ Free → hold ≡ Free
free-from mark Free same = refl
free-from mark (Waiting t) same = cc
free-from mark (Handed t u m) same = cc
free-from mark (Served t u item) same = cc
free-from mark (Cut t item) same = cc

-- of seats that hold nothing, none is counted
none-open : {T : Type 0} (holds : ℕ → Hold T) → ((k : ℕ) → holds k ≡ Free) → (a n : ℕ)
    → count_by (λ k. is_open (holds k)) (range_with_len a n) ≡ 0
none-open holds free a zero = refl
none-open holds free a (suc n) =
    sum_by-cons (λ k. cond (is_open (holds k)) 1 0) a (range_with_len (a + 1) n)
    ∙ ap₂ ◌+◌ (ap (λ h. cond (is_open h) 1 0) (free a)) (none-open holds free (a + 1) n)

-- a queue without a history owes nothing
pub roomy-fresh : {T : Type 0} (mark : T → ℕ) (k : Kind) (q : Queue T) → LeadsTo mark k no_base [] q → queue_owed q ≡ 0
roomy-fresh mark k q leads =
    none-open (seats_of q).holds (λ k. free-from mark ((seats_of q).holds k)
    (sym (ap (λ s. s.holds k) leads.leaves))) 0 (count_of q)

-- a record is of the seat that called
pub own-record : {T : Type 0} (mark : T → ℕ) (seat : ℕ) (call : QueueCall T) (answer : QueueAnswer T)
    → MatchOption (queue_record mark seat call answer) ⊤ (λ r. r.seat ≡ seat)
own-record mark seat (Put item) (ToPut (Kept t)) = refl
own-record mark seat (Put item) (ToPut (PutMeets t u)) = refl
own-record mark seat (Put item) (ToPut (PutFails t back)) = refl
own-record mark seat (Put item) (ToGive (GiverWaits t)) = refl
own-record mark seat (Put item) (ToGive (GiverMeets t u)) = refl
own-record mark seat (Put item) (ToGive (GiverInterrupted t back)) = refl
own-record mark seat (Give item) (ToGive (GiverWaits t)) = refl
own-record mark seat (Give item) (ToGive (GiverMeets t u)) = refl
own-record mark seat (Give item) (ToGive (GiverInterrupted t back)) = refl
own-record mark seat (Offer item) (ToOffer (OfferMeets t u)) = refl
own-record mark seat (Offer item) (ToOffer (OfferFails t back)) = refl
own-record mark seat Take (ToTake (TakerWaits t)) = refl
own-record mark seat Take (ToTake (TakerMeets t u item)) = refl
own-record mark seat Take (ToTake (TakerInterrupted t)) = refl
own-record mark seat Poll (ToPoll (PollMeets t u item)) = refl
own-record mark seat Poll (ToPoll (PollFails t)) = refl
own-record mark seat (FollowUp t) (ToFollowUp Done) = refl
own-record mark seat (FollowUp t) (ToFollowUp (Got u item)) = refl
own-record mark seat (FollowUp t) (ToFollowUp (WasCut item)) = refl
own-record mark seat (FollowUp t) (ToFollowUp NotYet) = tt
own-record mark seat (Cancel t) (ToWithdrawal (Back item)) = refl
own-record mark seat (Cancel t) (ToWithdrawal Late) = tt
own-record mark seat (Expire t) (ToWithdrawal (Back item)) = refl
own-record mark seat (Expire t) (ToWithdrawal Late) = tt
own-record mark seat (Interrupt j) (ToInterrupt (CutOff t)) = refl
own-record mark seat (Interrupt j) (ToInterrupt Flagged) = refl
own-record mark seat call answer = tt
