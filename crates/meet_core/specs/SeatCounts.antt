-- No step of a queue changes the number of its seats.
use Rattle.std.proofs.Common.{◌≡◌, ℕ, ap}
use Rattle.meet_tickets.specs.declared.places.End.{End}
use Rattle.meet_tickets.specs.declared.places.Kind.{Kind}
use Rattle.meet_tickets.specs.Meeting.{end_of}
use Rattle.meet_core.specs.Queue.{Queue, count_of}
use Rattle.meet_core.specs.Steps.{HandsTo, GetsFrom}
use Rattle.meet_core.specs.declared.answers.Gave.TheVariants.{Waits as GiverWaits, Meets as GiverMeets}
use Rattle.meet_core.specs.declared.answers.Gave.TheVariants.{EntryInterrupted as GiverInterrupted}
use Rattle.meet_core.specs.declared.answers.Took.TheVariants.{Waits as TakerWaits, Meets as TakerMeets}
use Rattle.meet_core.specs.declared.answers.Took.TheVariants.{EntryInterrupted as TakerInterrupted}
use Rattle.meet_core.specs.declared.answers.Offered.TheVariants.{Meets as OfferMeets, Fails as OfferFails}
use Rattle.meet_core.specs.declared.answers.Put.TheVariants.{Kept, Meets as PutMeets, Fails as PutFails}
use Rattle.meet_core.specs.declared.answers.Polled.TheVariants.{Meets as PollMeets, Fails as PollFails}
use Rattle.meet_core.specs.declared.answers.Followed.TheVariants.{Done, Got, Interrupted as WasCut, NotYet}
use Rattle.meet_core.specs.declared.answers.TakenBack.{TakenBack}
use Rattle.meet_core.specs.declared.answers.TakenBack.TheVariants.{Back, Late}
use Rattle.meet_core.specs.declared.answers.Interrupted.TheVariants.{Cut as CutOff, Flagged}
use Rattle.meet_core.specs.Steps.{WithdrawStep}
use Rattle.meet_core.specs.declared.calls.queue_calls.QueueCall.{QueueCall}
use Rattle.meet_core.specs.declared.calls.queue_calls.QueueCall.TheVariants.{Put, Give, Offer, Take, Poll, FollowUp}
use Rattle.meet_core.specs.declared.calls.queue_calls.QueueCall.TheVariants.{Cancel, Expire, Interrupt}
use Rattle.meet_core.specs.declared.calls.queue_calls.QueueAnswer.{QueueAnswer}
use Rattle.meet_core.specs.declared.calls.queue_calls.QueueAnswer.TheVariants.{Put as ToPut, Gave as ToGive}
use Rattle.meet_core.specs.declared.calls.queue_calls.QueueAnswer.TheVariants.{Offered as ToOffer, Took as ToTake}
use Rattle.meet_core.specs.declared.calls.queue_calls.QueueAnswer.TheVariants.{Polled as ToPoll, Followed as ToFollowUp}
use Rattle.meet_core.specs.declared.calls.queue_calls.QueueAnswer.TheVariants.{TakenBack as ToWithdrawal}
use Rattle.meet_core.specs.declared.calls.queue_calls.QueueAnswer.TheVariants.{Interrupted as ToInterrupt}
use Rattle.meet_core.specs.QueueSteps.{DualStep, QueueStep}

module _ {T : Type 0} (mark : T → ℕ) where
  hands-count : (end : End) (old : Queue T) (item : T) (t u : ℕ) (new : Queue T) → HandsTo mark end old item t u new
      → count_of new ≡ count_of old
  hands-count end old item t u new (e, found, ticket, none, uses) = uses.count

  gets-count : (end : End) (old : Queue T) (t u : ℕ) (item : T) (new : Queue T) → GetsFrom mark end old t u item new
      → count_of new ≡ count_of old
  gets-count end old t u item new (e, found, ticket, own, uses) = uses.count

  withdraw-count : (old : Queue T) (seat t : ℕ) (answer : TakenBack T) (new : Queue T)
      → WithdrawStep old seat t answer new → count_of new ≡ count_of old
  withdraw-count old seat t (Back item) new (e, holds, entry, own, leaves) = leaves.count
  withdraw-count old seat t Late new (gone, same) = ap (λ (q : Queue T). count_of q) same

  pub dual-count : (end : End) (old : Queue T) (seat : ℕ) (call : QueueCall T) (answer : QueueAnswer T) (new : Queue T)
      → DualStep mark end old seat call answer new → count_of new ≡ count_of old
  dual-count end old seat (Put item) (ToGive (GiverWaits t)) new (alone, flag, uses) = uses.count
  dual-count end old seat (Put item) (ToGive (GiverMeets t u)) new step = hands-count end old item t u new step
  dual-count end old seat (Put item) (ToGive (GiverInterrupted t back)) new (alone, flag, same, uses) = uses.count
  dual-count end old seat (Give item) (ToGive (GiverWaits t)) new (alone, flag, uses) = uses.count
  dual-count end old seat (Give item) (ToGive (GiverMeets t u)) new step = hands-count end old item t u new step
  dual-count end old seat (Give item) (ToGive (GiverInterrupted t back)) new (alone, flag, same, uses) = uses.count
  dual-count end old seat (Offer item) (ToOffer (OfferMeets t u)) new step = hands-count end old item t u new step
  dual-count end old seat (Offer item) (ToOffer (OfferFails t back)) new (alone, same, uses) = uses.count
  dual-count end old seat Take (ToTake (TakerWaits t)) new (alone, flag, uses) = uses.count
  dual-count end old seat Take (ToTake (TakerMeets t u item)) new step = gets-count end old t u item new step
  dual-count end old seat Take (ToTake (TakerInterrupted t)) new (alone, flag, uses) = uses.count
  dual-count end old seat Poll (ToPoll (PollMeets t u item)) new step = gets-count end old t u item new step
  dual-count end old seat Poll (ToPoll (PollFails t)) new (alone, uses) = uses.count
  dual-count end old seat (FollowUp t) (ToFollowUp Done) new (u, m, holds, leaves) = leaves.count
  dual-count end old seat (FollowUp t) (ToFollowUp (Got u item)) new (holds, leaves) = leaves.count
  dual-count end old seat (FollowUp t) (ToFollowUp (WasCut item)) new (holds, leaves) = leaves.count
  dual-count end old seat (FollowUp t) (ToFollowUp NotYet) new (holds, same) = ap (λ (q : Queue T). count_of q) same
  dual-count end old seat (Cancel t) (ToWithdrawal answer) new step = withdraw-count old seat t answer new step
  dual-count end old seat (Expire t) (ToWithdrawal answer) new step = withdraw-count old seat t answer new step
  dual-count end old seat (Interrupt j) (ToInterrupt (CutOff t)) new (e, entry, ticket, leaves) = leaves.count
  dual-count end old seat (Interrupt j) (ToInterrupt Flagged) new (none, leaves) = leaves.count
  dual-count end old seat call answer new step = absurd step

  pub queue-count : (k : Kind) (old : Queue T) (seat : ℕ) (call : QueueCall T) (answer : QueueAnswer T) (new : Queue T)
      → QueueStep mark k old seat call answer new → count_of new ≡ count_of old
  queue-count k old seat (Put item) (ToPut (Kept t)) new (keeps, (alone, few, uses)) = uses.count
  queue-count k old seat (Put item) (ToPut (PutMeets t u)) new (keeps, step) =
      hands-count (end_of k.order) old item t u new step
  queue-count k old seat (Put item) (ToPut (PutFails t back)) new (keeps, (alone, full, same, uses)) = uses.count
  queue-count k old seat (Put item) answer new (waits, step) =
      dual-count (end_of k.order) old seat (Put item) answer new step
  queue-count k old seat call answer new step = dual-count (end_of k.order) old seat call answer new step
