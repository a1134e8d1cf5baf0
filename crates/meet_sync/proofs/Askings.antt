-- What a user is told of a request is what its own record tells.
use Rattle.std.proofs.Common.{◌≡◌, ℕ, refl, ap, ◌∙◌, subst, Option, Some, None}
use Rattle.std.specs.Prelude.{MatchOption, ◌≤◌, option_map, option_to_list, if◌then◌else◌}
use Rattle.meet_tickets.specs.declared.places.Kind.{Kind}
use Rattle.meet_tickets.specs.declared.places.Side.TheVariants.{Giver, Taker}
use Rattle.meet_tickets.specs.declared.records.Deed.{Deed}
use Rattle.meet_tickets.specs.declared.records.Deed.TheVariants.{GiveWaits, GiveMeets, GiveFails, GiveKept}
use Rattle.meet_tickets.specs.declared.records.Deed.TheVariants.{TakeWaits, TakeMeets, TakeFails}
use Rattle.meet_tickets.specs.declared.records.Deed.TheVariants.{EntryInterrupted as RefusedAtEntry}
use Rattle.meet_tickets.specs.declared.refusals.Refusal.{Refusal}
use Rattle.meet_core.specs.Queue.{Queue}
use Rattle.meet_core.specs.declared.answers.Put.TheVariants.{Kept as PutKept, Meets as PutMeets, Fails as PutFails}
use Rattle.meet_core.specs.declared.answers.Gave.TheVariants.{Waits as GiverWaits, Meets as GiverMeets}
use Rattle.meet_core.specs.declared.answers.Gave.TheVariants.{EntryInterrupted as GiverInterrupted}
use Rattle.meet_core.specs.declared.answers.Offered.TheVariants.{Meets as OfferMeets, Fails as OfferFails}
use Rattle.meet_core.specs.declared.answers.Took.TheVariants.{Waits as TakerWaits, Meets as TakerMeets}
use Rattle.meet_core.specs.declared.answers.Took.TheVariants.{EntryInterrupted as TakerInterrupted}
use Rattle.meet_core.specs.declared.answers.Polled.TheVariants.{Meets as PollMeets, Fails as PollFails}
use Rattle.meet_core.specs.declared.calls.queue_calls.QueueAnswer.{QueueAnswer}
use Rattle.meet_core.specs.declared.calls.queue_calls.QueueAnswer.TheVariants.{Put as ToPut, Gave as ToGive}
use Rattle.meet_core.specs.declared.calls.queue_calls.QueueAnswer.TheVariants.{Offered as ToOffer, Took as ToTake}
use Rattle.meet_core.specs.declared.calls.queue_calls.QueueAnswer.TheVariants.{Polled as ToPoll}
use Rattle.meet_core.specs.QueueRecords.{made, queue_record}
use Rattle.meet_core.specs.QueueSteps.{QueueStep, item_in}
use Rattle.meet_place.specs.Seats.{SeatView, PendingView, Adds, IsLater}
use Rattle.meet_sync.specs.Asking.{item_of, brought, call_of, settled_deed, waiting_deed, HandsBack, IsToRequest, told}
use Rattle.meet_sync.specs.Asking.{waiting_ticket, AnsweredBy, AskedAs}
use Rattle.meet_sync.specs.Told.{IsAnswer, IsRefusalOf, IsRequestWhy}
use Rattle.meet_sync.specs.declared.asked.Request.{Request}
use Rattle.meet_sync.specs.declared.asked.Request.TheVariants.{Put, Give, Offer, Take, Poll}
use Rattle.meet_sync.specs.declared.asked.Answer.{Answer}
use Rattle.meet_sync.specs.declared.asked.Asked.{Asked}
use Rattle.meet_sync.specs.declared.asked.Asked.TheVariants.{Settled, Parked}
use Rattle.meet_sync.proofs.Reasons.{request_why}

same_said : {A : Type 0} {a b : A} → Some a ≡ Some b → a ≡ b
same_said e = cc

-- a bound that is reached is there
bounded : (bound : Option ℕ) (kept : ℕ) (deed : Deed) → MatchOption bound ⊥ (λ most. most ≤ kept)
    → option_map (λ most. deed) bound ≡ Some deed
bounded None kept deed full = absurd full
bounded (Some most) kept deed full = refl

pub call_item : {T : Type 0} (request : Request T) → item_in (call_of request) ≡ item_of request
call_item (Put item) = refl
call_item (Give item) = refl
call_item (Offer item) = refl
call_item Take = refl
call_item Poll = refl

-- why a request of a seat that is there may be refused
pub asked_why : {T : Type 0} (seats seat : ℕ) (request : Request T) (why : Refusal)
    → IsRefusalOf seats seat (call_of request) why → IsRequestWhy why
asked_why seats seat (Put item) why (q, full, count, there, is) = request_why q full seats seat why count there is
asked_why seats seat (Give item) why (q, full, count, there, is) = request_why q full seats seat why count there is
asked_why seats seat (Offer item) why (q, full, count, there, is) = request_why q full seats seat why count there is
asked_why seats seat Take why (q, full, count, there, is) = request_why q full seats seat why count there is
asked_why seats seat Poll why (q, full, count, there, is) = request_why q full seats seat why count there is

module _ {T : Type 0} (k : Kind) (mark : T → ℕ) (old new : Queue T) (i : ℕ) where
  abbrev Step : Request T → QueueAnswer T → Type 0
  Step request answer = QueueStep mark k old i (call_of request) answer new

  -- a request is answered as a request
  to_request : (request : Request T) (answer : QueueAnswer T) → Step request answer → IsToRequest answer
  to_request (Put item) (ToPut answer) step = tt
  to_request (Put item) (ToGive answer) step = tt
  to_request (Put item) answer step = absurd step.1
  to_request (Give item) (ToGive answer) step = tt
  to_request (Give item) answer step = absurd step
  to_request (Offer item) (ToOffer answer) step = tt
  to_request (Offer item) answer step = absurd step
  to_request Take (ToTake answer) step = tt
  to_request Take answer step = absurd step
  to_request Poll (ToPoll answer) step = tt
  to_request Poll answer step = absurd step

  -- a settled request's record, by what the user is told
  abbrev Says : Request T → QueueAnswer T → Answer T → Type 0
  Says request answer said = HandsBack request said × ((ticket : ℕ) × (deed : Deed)
      × (settled_deed k mark request said ≡ Some deed)
      × (queue_record mark i (call_of request) answer ≡ Some (made i ticket deed)))

  settled : (request : Request T) (answer : QueueAnswer T) (said : Answer T) → Step request answer
      → told answer ≡ Some said → Says request answer said
  settled (Put item) (ToPut (PutKept t)) said (keeps, step) is =
      subst (Says (Put item) (ToPut (PutKept t))) (same_said is)
      (tt, (t, GiveKept (mark item), ap (λ b. if b then Some (GiveKept (mark item)) else None) keeps, refl))
  settled (Put item) (ToPut (PutMeets t u)) said (keeps, step) is =
      subst (Says (Put item) (ToPut (PutMeets t u))) (same_said is) (tt, (t, GiveMeets (mark item) u, refl, refl))
  settled (Put item) (ToPut (PutFails t back)) said (keeps, (alone, full, same, uses)) is =
      subst (Says (Put item) (ToPut (PutFails t back))) (same_said is)
      (ap Some same, (t, GiveFails (mark item), bounded k.bound _ (GiveFails (mark item)) full, refl))
  settled (Put item) (ToGive (GiverWaits t)) said step is = absurd (cc)
  settled (Put item) (ToGive (GiverMeets t u)) said (waits, step) is =
      subst (Says (Put item) (ToGive (GiverMeets t u))) (same_said is) (tt, (t, GiveMeets (mark item) u, refl, refl))
  settled (Put item) (ToGive (GiverInterrupted t back)) said (waits, (alone, flag, same, uses)) is =
      subst (Says (Put item) (ToGive (GiverInterrupted t back))) (same_said is)
      (ap Some same, (t, RefusedAtEntry Giver, ap (λ b. if b then None else Some (RefusedAtEntry Giver)) waits, refl))
  settled (Put item) answer said step is = absurd step.1
  settled (Give item) (ToGive (GiverWaits t)) said step is = absurd (cc)
  settled (Give item) (ToGive (GiverMeets t u)) said step is =
      subst (Says (Give item) (ToGive (GiverMeets t u))) (same_said is) (tt, (t, GiveMeets (mark item) u, refl, refl))
  settled (Give item) (ToGive (GiverInterrupted t back)) said (alone, flag, same, uses) is =
      subst (Says (Give item) (ToGive (GiverInterrupted t back))) (same_said is)
      (ap Some same, (t, RefusedAtEntry Giver, refl, refl))
  settled (Give item) answer said step is = absurd step
  settled (Offer item) (ToOffer (OfferMeets t u)) said step is =
      subst (Says (Offer item) (ToOffer (OfferMeets t u))) (same_said is) (tt, (t, GiveMeets (mark item) u, refl, refl))
  settled (Offer item) (ToOffer (OfferFails t back)) said (alone, same, uses) is =
      subst (Says (Offer item) (ToOffer (OfferFails t back))) (same_said is)
      (ap Some same, (t, GiveFails (mark item), refl, refl))
  settled (Offer item) answer said step is = absurd step
  settled Take (ToTake (TakerWaits t)) said step is = absurd (cc)
  settled Take (ToTake (TakerMeets t u item)) said step is =
      subst (Says Take (ToTake (TakerMeets t u item))) (same_said is) (tt, (t, TakeMeets (mark item) u, refl, refl))
  settled Take (ToTake (TakerInterrupted t)) said step is =
      subst (Says Take (ToTake (TakerInterrupted t))) (same_said is) (refl, (t, RefusedAtEntry Taker, refl, refl))
  settled Take answer said step is = absurd step
  settled Poll (ToPoll (PollMeets t u item)) said step is =
      subst (Says Poll (ToPoll (PollMeets t u item))) (same_said is) (tt, (t, TakeMeets (mark item) u, refl, refl))
  settled Poll (ToPoll (PollFails t)) said step is =
      subst (Says Poll (ToPoll (PollFails t))) (same_said is) (refl, (t, TakeFails, refl, refl))
  settled Poll answer said step is = absurd step

  -- the record of a request that waits
  abbrev Waits : Request T → QueueAnswer T → (ticket : ℕ) → Type 0
  Waits request answer ticket = (deed : Deed) × (waiting_deed k mark request ≡ Some deed)
      × (queue_record mark i (call_of request) answer ≡ Some (made i ticket deed))

  waiting : (request : Request T) (answer : QueueAnswer T) (ticket : ℕ) → Step request answer
      → waiting_ticket answer ≡ Some ticket → Waits request answer ticket
  waiting (Put item) (ToGive (GiverWaits t)) ticket (waits, step) is =
      subst (Waits (Put item) (ToGive (GiverWaits t))) (same_said is)
      (GiveWaits (mark item), ap (λ b. if b then None else Some (GiveWaits (mark item))) waits, refl)
  waiting (Put item) (ToGive (GiverMeets t u)) ticket step is = absurd (cc)
  waiting (Put item) (ToGive (GiverInterrupted t back)) ticket step is = absurd (cc)
  waiting (Put item) (ToPut answer) ticket step is = absurd (cc)
  waiting (Put item) answer ticket step is = absurd step.1
  waiting (Give item) (ToGive (GiverWaits t)) ticket step is =
      subst (Waits (Give item) (ToGive (GiverWaits t))) (same_said is) (GiveWaits (mark item), refl, refl)
  waiting (Give item) (ToGive (GiverMeets t u)) ticket step is = absurd (cc)
  waiting (Give item) (ToGive (GiverInterrupted t back)) ticket step is = absurd (cc)
  waiting (Give item) answer ticket step is = absurd step
  waiting (Offer item) (ToOffer answer) ticket step is = absurd (cc)
  waiting (Offer item) answer ticket step is = absurd step
  waiting Take (ToTake (TakerWaits t)) ticket step is =
      subst (Waits Take (ToTake (TakerWaits t))) (same_said is) (TakeWaits, refl, refl)
  waiting Take (ToTake (TakerMeets t u item)) ticket step is = absurd (cc)
  waiting Take (ToTake (TakerInterrupted t)) ticket step is = absurd (cc)
  waiting Take answer ticket step is = absurd step
  waiting Poll (ToPoll answer) ticket step is = absurd (cc)
  waiting Poll answer ticket step is = absurd step

pub told_request : {T : Type 0} (k : Kind) (mark : T → ℕ) (seats seat : ℕ) (request : Request T)
    (answer : QueueAnswer T) → IsAnswer k mark seats seat (call_of request) answer → IsToRequest answer
told_request k mark seats seat request answer (old, new, count, there, admitted, step) =
    to_request k mark old new seat request answer step

module _ {T N : Type 0} (k : Kind) (mark : T → ℕ) where
  -- so a request leaves one receipt of its own form
  pub asked_as : (seats : ℕ) (seat roomy after : SeatView Deed) (request : Request T) (answer : QueueAnswer T)
      (asked : Asked T N) → roomy.number ≡ seat.number → roomy.past ≡ seat.past → roomy.moment ≡ seat.moment
      → roomy.list ≡ seat.list → after.number ≡ roomy.number → after.past ≡ roomy.past
      → IsLater roomy.moment after.moment roomy.list after.list
      → Adds roomy.list after.list (option_to_list (queue_record mark roomy.number (call_of request) answer))
      → IsAnswer k mark seats roomy.number (call_of request) answer
      → AnsweredBy after (brought mark request) answer asked → AskedAs k mark seat request asked
  asked_as seats seat roomy after request answer (Settled s said) number past moment list number' past' later adds
      (old, new, count, there, admitted, step) (same, is) =
      let by = settled k mark old new roomy.number request answer said step is in (
        (
          ap (λ (s : SeatView Deed). s.number) same ∙ number' ∙ number,
          ap (λ (s : SeatView Deed). s.past) same ∙ past' ∙ past,
          rw (same, ← moment, ← list) later,
        ),
        (
          by.0,
          (
            by.1.0,
            by.1.1,
            by.1.2,
            rw (same, ← number, ← list) (subst (λ r. Adds roomy.list after.list (option_to_list r)) by.1.3 adds),
          ),
        ),
      )
  asked_as seats seat roomy after request answer (Parked p) number past moment list number' past' later adds
      (old, new, count, there, admitted, step) (is, same) =
      let by = waiting k mark old new roomy.number request answer p.ticket step is in (
        (
          ap (λ (p : PendingView Deed). p.number) same ∙ number' ∙ number,
          ap (λ (p : PendingView Deed). p.past) same ∙ past' ∙ past,
          rw (ap (λ (p : PendingView Deed). p.moment) same, ap (λ (p : PendingView Deed). p.list) same, ← moment, ← list) later,
        ),
        ap (λ (p : PendingView Deed). p.mark) same,
        (
          by.0,
          by.1,
          rw (ap (λ (p : PendingView Deed). p.list) same, ← number, ← list)
              (subst (λ r. Adds roomy.list after.list (option_to_list r)) by.2 adds),
        ),
      )
